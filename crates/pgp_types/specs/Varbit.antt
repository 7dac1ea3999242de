-- Bit strings: how many bits there are, and the bytes that hold them, the first bit highest.
-- PostgreSQL manual, "Bit String Types"; the layout as a server sends it.
use Rattle.std.specs.Prelude.{◌≡◌, ◌≢◌, ◌⊎◌, ℕ, List, ◌++◌, length, Option, Result, Ok, Err}
use Rattle.std.specs.Prelude.{Some}
use Rattle.std.specs.Int.{div_ceil}
use Rattle.pgp_base.specs.declared.error.Error.{Error}
use Rattle.pgp_base.specs.declared.error.Error.TheVariants.{InvalidBitLength, InvalidSize}
use Rattle.pgp_base.specs.Cause.{length_cause}
use Rattle.pgp_base.specs.Held.{Held, Leaves}
use Rattle.pgp_base.specs.Wire.{uint32}
use Rattle.pgp_types.specs.Format.{Format}
use Rattle.pgp_types.specs.Part.{Part, Begins, natural}
use Rattle.pgp_types.specs.Given.{Whole, WantsValue}

pub record Varbit : Type 0 where
  pub len : ℕ
  pub bytes : List ℕ

-- the bits fill the bytes, but for the last
abbrev pub IsVarbit : Varbit → Type 0
IsVarbit v = length v.bytes ≡ div_ceil v.len 8

-- how many bits there are
abbrev pub bit_count : Part ℕ
bit_count = natural InvalidBitLength

-- The bits that pad the last byte may be any.
abbrev pub VarbitReads : List ℕ → Result Varbit Error → Type 0
VarbitReads bytes (Ok v) = Begins bit_count bytes v.len v.bytes × IsVarbit v
VarbitReads bytes (Err e) = bit_count.Refused bytes e ⊎ ((n : ℕ) × (rest : List ℕ) × Begins bit_count bytes n rest × (length rest ≢ div_ceil n 8) × (e ≡ InvalidSize))

abbrev pub varbit : Format Varbit Varbit
varbit = record { IsValue = IsVarbit; written = λ v. uint32 v.len ++ v.bytes; cause = λ v. length_cause v.len; seen = λ v. v; Reads = VarbitReads }

-- What the writer leaves that is handed the number of bits and an iterator over the bytes: all of them stand after the
-- number; or the old bytes stay, for lack of memory, or since the number passes its field.
module _ (received : List ℕ → Option ℕ → Type 0) (len : ℕ) where
  -- an allocation failed that the number and the bytes so far need
  abbrev pub WantsVarbit : {K : Type 0} → (Held K → ℕ → Type 0) → Held K → Error → Type 0
  WantsVarbit lacks old e = WantsValue received varbit (λ bytes. record { len = len; bytes = bytes }) lacks old e

  abbrev pub WritesVarbit : {K : Type 0} → (Held K → ℕ → Type 0) → Held K → Result (Unit {0}) Error → Held K → Type 0
  WritesVarbit lacks old (Ok done) new = Whole received varbit (λ bytes. record { len = len; bytes = bytes }) old new
  WritesVarbit lacks old (Err e) new = (WantsVarbit lacks old e ⊎ (length_cause len ≡ Some e)) × Leaves old new
