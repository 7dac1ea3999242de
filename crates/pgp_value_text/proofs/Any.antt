-- A value of each type has one text.
use Rattle.pgp_value_text.proofs.Common.{◌≡◌, ℕ, List, refl, ShowsArray, IsElementBy, array, IsSound, BinaryFormat, formats, format_in, IsTextBy, IsTextOf}
use Rattle.pgp_values.specs.declared.formats.BinaryFormat.TheVariants.{Array}
use Rattle.pgp_value_text.proofs.Elements.{one_array}
use Rattle.pgp_value_text.proofs.Forms.{one_in}
use Rattle.pgp_value_text.proofs.Ranges.{one_by as one_element}
use Rattle.pgp_value_text.proofs.Texts.{one_shown}

module _ (array_sound : IsSound array) where
  one_by : (f : BinaryFormat) (type_oid : ℕ) (bytes a b : List ℕ) → IsTextBy f type_oid bytes a → IsTextBy f type_oid bytes b → a ≡ b
  one_by Array n = λ bytes a b s t. one_shown array array_sound ShowsArray one_array bytes a b s.1 t.1
  one_by f n = one_element f n

  pub one_text : (type_oid : ℕ) (bytes a b : List ℕ) → IsTextOf type_oid bytes a → IsTextOf type_oid bytes b → a ≡ b
  one_text type_oid = one_in IsTextBy one_by (format_in formats type_oid) type_oid

-- a format other than that of arrays
pub plain_by : (f : BinaryFormat) (type_oid : ℕ) → (f ≡ Array → ⊥) → IsTextBy f type_oid ≡ IsElementBy f type_oid
plain_by Array n h = absurd (h refl)
plain_by f n h = refl
