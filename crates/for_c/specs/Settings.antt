-- The names and values of a startup packet, by their places among the bytes.
use Rattle.std.specs.Prelude.{◌≡◌, ◌⊎◌, ℕ, List, ◌++◌}
use Rattle.pgp_base.specs.Wire.{HasNoZero, text}
use Rattle.pgp_base.specs.declared.error.Error.{Error}
use Rattle.pgp_base.specs.declared.error.Error.TheVariants.{UnexpectedEof}
use Rattle.pgp_frontend.specs.Payload.{pair}
use Rattle.for_c.specs.Parts.{IsInside, stands}
use Rattle.for_c.specs.declared.setting.PgpSetting.{PgpSetting}

-- a name and a value, each with a 0 byte after it
pub record PairSpelled (place : ℕ) (x : List ℕ × List ℕ) (front : List ℕ) : Type 0 where
  pub name : HasNoZero x.0
  pub value : HasNoZero x.1
  pub parts : front ≡ pair x

-- a name, and a value that no 0 byte ends
pub record IsOpenPair (rest : List ℕ) : Type 0 where
  pub name : List ℕ
  pub more : List ℕ
  pub named : HasNoZero name
  pub parts : rest ≡ text name ++ more
  pub no_zero : HasNoZero more

abbrev pub PairRefused : List ℕ → Error → Type 0
PairRefused rest UnexpectedEof = HasNoZero rest ⊎ IsOpenPair rest
PairRefused rest e = ⊥

-- the name and the value that stand at their places
abbrev pub setting_of : List ℕ → PgpSetting → List ℕ × List ℕ
setting_of bytes s = (stands bytes s.name, stands bytes s.value)

abbrev pub IsSettingInside : ℕ → PgpSetting → Type 0
IsSettingInside size s = IsInside size s.name × IsInside size s.value
