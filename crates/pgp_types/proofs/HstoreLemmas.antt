-- Lists of keys and values: what is read is the one reading.
use Rattle.pgp_types.proofs.Common.{◌≡◌, inl, inr, ℕ, ◌<◌, ◌≤◌, true, List, [], ◌∷◌, ◌++◌, map, length, Option, Some, None, Result, Ok, Err, refl, sym, ap, ◌∙◌, arith, length-append, Bor, flat_map, AllByRecursion, IsUtf8, is_utf8, length-map, map-append, IsUtf8-from_is_utf8, is_utf8-from_IsUtf8, Error, UnexpectedEof, NotDrained, InvalidCount, InvalidKeyLength, InvalidValueLength, NotUtf8, TooLarge, first, length_cause, nullable_cause, Held, ◌⊕◌, Walk, counted, IsBytes, uint32, length_fits, length_past, either_left, either_right, either_none, either_first, either_then, first_more, first_here, ok, ok_is, differ, err_is, length-uint32, more_parts, more_twice, IsSound, Entry, IsTextOrNull, IsEntry, entry_bytes, entry_cause, entry, entry_count, HstoreReads, hstore, shown_entry, shown_entries, NullableSpelled, NaturalRefused, sized, natural_at, sized_at, nullable_at, is_text_or_null, key_at, entry_value_at, entry_at}
use Rattle.pgp_base.specs.Wire.{nullable as nullable_bytes}
use Rattle.pgp_types.specs.Part.{nullable}
use Rattle.pgp_types.proofs.PartLemmas.{IsPart, IsTest, begins_read, rest_bytes, natural_part, sized_part, nullable_part, only_part, then_part, utf8_test, not_passed}
use Rattle.pgp_types.proofs.WalkLemmas.{IsItem, walk_meets, walk_few, walk_is, walk_back}

text_yes : (x : Option (List ℕ)) → is_text_or_null x ≡ true → IsTextOrNull x
text_yes None e = tt
text_yes (Some t) e = IsUtf8-from_is_utf8 t e

text_passes : (x : Option (List ℕ)) → IsTextOrNull x → is_text_or_null x ≡ true
text_passes None h = refl
text_passes (Some t) h = is_utf8-from_IsUtf8 t h

text_or_null_test : IsTest IsTextOrNull is_text_or_null
text_or_null_test = record { yes = text_yes; passes = text_passes; fails = λ x bad. not_passed (is_text_or_null x) (λ t. bad (text_yes x t)) }

entry_part : IsPart entry entry_at
unfolding entry_at key_at entry_value_at
entry_part = then_part (only_part utf8_test NotUtf8 (sized_part InvalidKeyLength)) (only_part text_or_null_test NotUtf8 (nullable_part InvalidValueLength))

-- no part of an entry is rejected as not drained
pub natural_own : (negative : Error) → (NotDrained ≡ negative → ⊥) → (bytes : List ℕ) → NaturalRefused negative bytes NotDrained → ⊥
natural_own negative other bytes (inl cut) = absurd (let e : NotDrained ≡ UnexpectedEof = cut.1 in cc)
natural_own negative other bytes (inr below) = other below.1

sized_own : (wrong : Error) → (NotDrained ≡ wrong → ⊥) → (bytes : List ℕ) → (sized wrong).Refused bytes NotDrained → ⊥
sized_own wrong other bytes (inl n) = natural_own wrong other bytes n
sized_own wrong other bytes (inr short) = other short.1

pub nullable_own : (past_end : Error) → (NotDrained ≡ past_end → ⊥) → (bytes : List ℕ) → (nullable past_end).Refused bytes NotDrained → ⊥
nullable_own past_end other bytes (inl cut) = absurd (let e : NotDrained ≡ UnexpectedEof = cut.1 in cc)
nullable_own past_end other bytes (inr short) = other short.1

entry_own : (bytes : List ℕ) → entry.Refused bytes NotDrained → ⊥
entry_own bytes (inl (inl key)) = sized_own InvalidKeyLength (λ e. cc) bytes key
entry_own bytes (inl (inr bad)) = absurd (let e : NotDrained ≡ NotUtf8 = bad.4 in cc)
entry_own bytes (inr (x, rest, b, inl value)) = nullable_own InvalidValueLength (λ e. cc) rest value
entry_own bytes (inr (x, rest, b, inr bad)) = absurd (let e : NotDrained ≡ NotUtf8 = bad.4 in cc)

pub entry_item : IsItem entry entry_at
entry_item = record {
  part = entry_part;
  some = λ x front s. omega (arith, ap length s.whole, length-append s.first s.second, ap length s.one.0.1, length-append (uint32 (length x.0)) x.0, length-uint32 (length x.0));
  own = entry_own;
}

count_part : IsPart entry_count (natural_at InvalidCount)
count_part = natural_part InvalidCount

abbrev seen : ℕ × List ℕ → Walk Entry
seen x = counted entry_at x.0 x.1 None

one_hstore : (bytes : List ℕ) (r s : Result (Walk Entry) Error) → HstoreReads bytes r → HstoreReads bytes s → r ≡ s
one_hstore bytes (Ok v) (Ok w) a b =
    let both : ok (a.0, a.1) ≡ ok (b.0, b.1) = sym (begins_read count_part bytes a.0 a.1 a.2) ∙ begins_read count_part bytes b.0 b.1 b.2 in
    ap Ok (walk_is entry_item a.0 a.1 v a.3 ∙ (ap seen (ok_is (a.0, a.1) (b.0, b.1) both) ∙ sym (walk_is entry_item b.0 b.1 w b.3)))
one_hstore bytes (Ok v) (Err e) a b = absurd (differ (a.0, a.1) e (sym (begins_read count_part bytes a.0 a.1 a.2) ∙ count_part.refuses bytes e b))
one_hstore bytes (Err e) (Ok w) a b = absurd (differ (b.0, b.1) e (sym (begins_read count_part bytes b.0 b.1 b.2) ∙ count_part.refuses bytes e a))
one_hstore bytes (Err d) (Err e) a b = ap Err (err_is {A = ℕ × List ℕ} d e (sym (count_part.refuses bytes d a) ∙ count_part.refuses bytes e b))

pub hstore_read : (bytes : List ℕ) (n : ℕ) (after : List ℕ) → IsBytes bytes → natural_at InvalidCount bytes ≡ Ok (n, after) → HstoreReads bytes (Ok (counted entry_at n after None))
hstore_read bytes n after h e =
    let b = count_part.found bytes n after h e in
    (n, after, b, walk_meets entry_item n after (rest_bytes bytes n after b h))

pub hstore_few : (bytes : List ℕ) (n : ℕ) (after : List ℕ) → IsBytes bytes → natural_at InvalidCount bytes ≡ Ok (n, after) → length (counted entry_at n after None).items ≤ length bytes
hstore_few bytes n after h e =
    let b = count_part.found bytes n after h e in
    omega (arith, ap length b.whole, length-append b.front after, walk_few entry_item n after (rest_bytes bytes n after b h))

pub hstore_refused : (bytes : List ℕ) (e : Error) → IsBytes bytes → natural_at InvalidCount bytes ≡ Err e → HstoreReads bytes (Err e)
hstore_refused bytes e h r = count_part.refused bytes e h r

some_hstore : (bytes : List ℕ) → IsBytes bytes → (r : Result (ℕ × List ℕ) Error) → natural_at InvalidCount bytes ≡ r → (r : Result (Walk Entry) Error) × HstoreReads bytes r
some_hstore bytes h (Ok x) e = (Ok (seen x), hstore_read bytes x.0 x.1 h e)
some_hstore bytes h (Err d) e = (Err d, hstore_refused bytes d h e)

pub value_spelled : (v : Option (List ℕ)) → nullable_cause v ≡ None → NullableSpelled v (nullable_bytes v)
value_spelled None h = (0, record { sfits = omega arith }, refl)
value_spelled (Some v) h = (h, refl)

entry_spelled : (e : Entry) → IsEntry e → entry_cause e ≡ None → entry.Spelled e (entry_bytes e)
entry_spelled e is fits = record {
  first = nullable_bytes (Some e.0);
  second = nullable_bytes e.1;
  whole = refl;
  one = ((either_left (nullable_cause (Some e.0)) (nullable_cause e.1) fits, refl), is.0);
  other = (value_spelled e.1 (either_right (nullable_cause (Some e.0)) (nullable_cause e.1) fits), is.1);
}

entries_spelled : (es : List Entry) → AllByRecursion IsEntry es → first (map entry_cause es) ≡ None → AllByRecursion (λ e. entry.Spelled e (entry_bytes e)) es
entries_spelled [] is fits = tt
entries_spelled (e ∷ es) is fits =
    (entry_spelled e is.0 (either_left (entry_cause e) (first (map entry_cause es)) fits), entries_spelled es is.1 (either_right (entry_cause e) (first (map entry_cause es)) fits))

hstore_back : (es : List Entry) → AllByRecursion IsEntry es → hstore.cause es ≡ None → HstoreReads (hstore.written es) (Ok (hstore.seen es))
hstore_back es is fits = (
  length es,
  flat_map entry_bytes es,
  record { front = uint32 (length es); whole = refl; spelled = (either_left (length_cause (length es)) (first (map entry_cause es)) fits, refl) },
  walk_back entry entry_bytes es (entries_spelled es is (either_right (length_cause (length es)) (first (map entry_cause es)) fits)),
)

pub hstore_sound : IsSound hstore
hstore_sound = record {
  some = λ bytes h. some_hstore bytes h (natural_at InvalidCount bytes) refl;
  one = one_hstore;
  back = hstore_back;
}

-- What the writer's items come to.

causes_more : (xs : List (Bor (List ℕ) × Option (Bor (List ℕ)))) (x : Bor (List ℕ) × Option (Bor (List ℕ))) → map entry_cause (shown_entries (xs ++ x ∷ [])) ≡ map entry_cause (shown_entries xs) ++ entry_cause (shown_entry x) ∷ []
causes_more xs x = ap (map entry_cause) (map-append shown_entry xs (x ∷ [])) ∙ map-append entry_cause (shown_entries xs) (shown_entry x ∷ [])

fits_length : (xs : List (Bor (List ℕ) × Option (Bor (List ℕ)))) → length xs ≤ 2147483647 → length_cause (length (shown_entries xs)) ≡ None
fits_length xs h = length_fits (length (shown_entries xs)) (omega (arith, length-map xs shown_entry))

pub entries_fit : (xs : List (Bor (List ℕ) × Option (Bor (List ℕ)))) → length xs ≤ 2147483647 → first (map entry_cause (shown_entries xs)) ≡ None → hstore.cause (shown_entries xs) ≡ None
entries_fit xs h f = either_none (length_cause (length (shown_entries xs))) (first (map entry_cause (shown_entries xs))) (fits_length xs h) f

module _ (xs : List (Bor (List ℕ) × Option (Bor (List ℕ)))) (x : Bor (List ℕ) × Option (Bor (List ℕ))) where
  pub entries_pass : length xs ≡ 2147483647 → hstore.cause (shown_entries (xs ++ x ∷ [])) ≡ Some TooLarge
  entries_pass h =
      either_first (length_cause (length (shown_entries (xs ++ x ∷ [])))) (first (map entry_cause (shown_entries (xs ++ x ∷ [])))) TooLarge
      (length_past (length (shown_entries (xs ++ x ∷ []))) (omega (arith, length-map (xs ++ x ∷ []) shown_entry, length-append xs (x ∷ []))))

  entry_stops : (e : Error) → length xs < 2147483647 → first (map entry_cause (shown_entries xs)) ≡ None → entry_cause (shown_entry x) ≡ Some e → hstore.cause (shown_entries (xs ++ x ∷ [])) ≡ Some e
  entry_stops e few f c =
      either_then (length_cause (length (shown_entries (xs ++ x ∷ [])))) (first (map entry_cause (shown_entries (xs ++ x ∷ [])))) (fits_length (xs ++ x ∷ []) (omega (arith, length-append xs (x ∷ []))))
      ∙ (ap first (causes_more xs x) ∙ first_here (map entry_cause (shown_entries xs)) (entry_cause (shown_entry x)) [] e f c)

  pub key_stops : (e : Error) → length xs < 2147483647 → first (map entry_cause (shown_entries xs)) ≡ None → nullable_cause (Some (shown_entry x).0) ≡ Some e → hstore.cause (shown_entries (xs ++ x ∷ [])) ≡ Some e
  key_stops e few f c = entry_stops e few f (either_first (nullable_cause (Some (shown_entry x).0)) (nullable_cause (shown_entry x).1) e c)

  pub value_stops : (e : Error) → length xs < 2147483647 → first (map entry_cause (shown_entries xs)) ≡ None → nullable_cause (Some (shown_entry x).0) ≡ None → nullable_cause (shown_entry x).1 ≡ Some e → hstore.cause (shown_entries (xs ++ x ∷ [])) ≡ Some e
  value_stops e few f k c =
      entry_stops e few f (either_then (nullable_cause (Some (shown_entry x).0)) (nullable_cause (shown_entry x).1) k ∙ c)

  pub entries_more : first (map entry_cause (shown_entries xs)) ≡ None → nullable_cause (Some (shown_entry x).0) ≡ None → nullable_cause (shown_entry x).1 ≡ None → first (map entry_cause (shown_entries (xs ++ x ∷ []))) ≡ None
  entries_more f k v =
      ap first (causes_more xs x) ∙ first_more (map entry_cause (shown_entries xs)) (entry_cause (shown_entry x)) f (either_none (nullable_cause (Some (shown_entry x).0)) (nullable_cause (shown_entry x).1) k v)

  pub entries_held : {K : Type 0} (a b d r : Held K) → b ≡ a ⊕ flat_map entry_bytes (shown_entries xs) → d ≡ b ⊕ nullable_bytes (Some (shown_entry x).0) → r ≡ d ⊕ nullable_bytes (shown_entry x).1 → r ≡ a ⊕ flat_map entry_bytes (shown_entries (xs ++ x ∷ []))
  entries_held a b d r e f h =
      let step : r ≡ b ⊕ entry_bytes (shown_entry x) = h ∙ (ap (λ d. d ⊕ nullable_bytes (shown_entry x).1) f ∙ more_twice b (nullable_bytes (Some (shown_entry x).0)) (nullable_bytes (shown_entry x).1)) in
      more_parts entry_bytes a b r (shown_entries xs) (shown_entry x) e step ∙ ap (λ es. a ⊕ flat_map entry_bytes es) (sym (map-append shown_entry xs (x ∷ [])))

-- What the reader of a part returns.

module _ (bytes text rest : List ℕ) where
  pub key_read : sized_at InvalidKeyLength bytes ≡ Ok (text, rest) → IsUtf8 text → key_at bytes ≡ Ok (text, rest)
  unfolding key_at
  key_read is utf8 = rw (is, is_utf8-from_IsUtf8 text utf8) refl

  pub key_bad : sized_at InvalidKeyLength bytes ≡ Ok (text, rest) → ¬ IsUtf8 text → key_at bytes ≡ Err NotUtf8
  unfolding key_at
  key_bad is bad = rw (is, not_passed (is_utf8 text) (λ t. bad (IsUtf8-from_is_utf8 text t))) refl

  pub value_read : nullable_at InvalidValueLength bytes ≡ Ok (Some text, rest) → IsUtf8 text → entry_value_at bytes ≡ Ok (Some text, rest)
  unfolding entry_value_at
  value_read is utf8 = rw (is, is_utf8-from_IsUtf8 text utf8) refl

  pub value_bad : nullable_at InvalidValueLength bytes ≡ Ok (Some text, rest) → ¬ IsUtf8 text → entry_value_at bytes ≡ Err NotUtf8
  unfolding entry_value_at
  value_bad is bad = rw (is, not_passed (is_utf8 text) (λ t. bad (IsUtf8-from_is_utf8 text t))) refl
