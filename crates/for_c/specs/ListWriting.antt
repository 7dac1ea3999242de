-- What a writer of a value that may have no spelling comes to.
use Rattle.std.specs.Prelude.{◌≡◌, ◌⊎◌, ℕ, ◌<◌, List, length, map, Some, None}
use Rattle.std.specs.List.{flat_map}
use Rattle.pgp_base.specs.Cause.{Cause, first}
use Rattle.pgp_base.specs.Error.{number_of}
use Rattle.pgp_base.specs.declared.error.Error.{Error}
use Rattle.pgp_types.specs.Format.{Format}
use Rattle.pgp_values.specs.List.{Item}
use Rattle.for_c.specs.Values.{Wrote}

-- The value has a spelling, and it was written.
pub record WroteValue {V R : Type 0} (f : Format V R) (v : V) (old new : List ℕ) (reported : ℕ) : Type 0 where
  pub none : f.cause v ≡ None
  pub wrote : Wrote (f.written v) old new reported

-- Nothing was written: the spelling is longer than the memory, or the value has none, and its cause's number is reported.
pub record IsNotWritten {V R : Type 0} (f : Format V R) (v : V) (old : List ℕ) (reported code : ℕ) : Type 0 where
  pub length_is : reported ≡ 0
  pub why : ((code ≡ 1) × (length old < length (f.written v))) ⊎ ((e : Error) × (f.cause v ≡ Some e) × (code ≡ number_of e))

-- Private: what the code writes after the number of items, and their first cause.
abbrev pub items_bytes : {V : Type 0} → Item V → List V → List ℕ
items_bytes item xs = flat_map item.written xs

abbrev pub items_cause : {V : Type 0} → Item V → List V → Cause
items_cause item xs = first (map item.cause xs)
