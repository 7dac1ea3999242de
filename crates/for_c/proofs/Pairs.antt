-- The keys and values of an hstore.
use Rattle.for_c.proofs.Common.{◌≡◌, ℕ, true, false, ◌||◌, List, [], ◌∷◌, length, map, Some, sym, inl, inr, cases_Bool, list_all, AllByRecursion, IsUtf8, is_utf8, Cause, first, length_cause, IsEntry, IsTextOrNull, entry_cause, hstore, value_of, are_texts, entry_of, PgpValue}
use Rattle.std.proofs.lemmas.Str.{IsUtf8-from_is_utf8, is_utf8-from_IsUtf8}
use Rattle.for_c.specs.declared.hstore.PgpKeyValue.{PgpKeyValue}
use Rattle.for_c.proofs.Extensions.{both}
use Rattle.for_c.proofs.Putting.{IsLarge, either_large, length_large, value_large}

pub is_a_text : (bytes : List ℕ) → IsUtf8 bytes → true ≡ is_utf8 bytes
is_a_text bytes h = sym (is_utf8-from_IsUtf8 bytes h)

pub is_no_text : (bytes : List ℕ) → ¬ IsUtf8 bytes → false ≡ is_utf8 bytes
is_no_text bytes h = elim (cases_Bool (is_utf8 bytes)) [
  | inl is ↦ absurd (h (IsUtf8-from_is_utf8 bytes is))
  | inr isnt ↦ sym isnt
]

value_text : (v : PgpValue) → (v.is_null || is_utf8 v.bytes.now) ≡ true → IsTextOrNull (value_of v)
value_text v h = elim (cases_Bool v.is_null) [
  | inl null ↦ rw null tt
  | inr full ↦ rw full (IsUtf8-from_is_utf8 v.bytes.now (rw full at h))
]

pub entries_text : (ps : List PgpKeyValue) → list_all are_texts ps ≡ true → AllByRecursion IsEntry (map entry_of ps)
entries_text [] h = tt
entries_text (p ∷ ps) h =
    let k = both (are_texts p) (list_all are_texts ps) h in
    let one = both (is_utf8 p.key.now) (p.value.is_null || is_utf8 p.value.bytes.now) k.0 in
    ((IsUtf8-from_is_utf8 p.key.now one.0, value_text p.value one.1), entries_text ps k.1)

abbrev pairs_cause : List PgpKeyValue → Cause
pairs_cause ps = first (map entry_cause (map entry_of ps))

pairs_large : (ps : List PgpKeyValue) → IsLarge (pairs_cause ps)
pairs_large [] e is = absurd cc
pairs_large (p ∷ ps) e is =
    either_large _ (pairs_cause ps) (either_large _ _ (value_large (Some p.key.now)) (value_large (value_of p.value))) (pairs_large ps) e is

pub hstore_large : (ps : List PgpKeyValue) → IsLarge (hstore.cause (map entry_of ps))
hstore_large ps e is = either_large (length_cause (length (map entry_of ps))) (pairs_cause ps) (length_large (length (map entry_of ps))) (pairs_large ps) e is
