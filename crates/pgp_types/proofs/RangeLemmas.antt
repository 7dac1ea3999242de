-- Ranges: what is read is the one reading.
use Rattle.pgp_types.proofs.Common.{◌≡◌, ◌≢◌, inl, inr, ℕ, suc, ◌+◌, Bool, true, false, cond, List, [], ◌∷◌, ◌++◌, Option, None, Result, Ok, Err, refl, sym, ap, subst, ◌∙◌, arith, bit_and, nat_eq, ne_eqb, eqb-true, eqb-false, append-nil, Error, NotDrained, InvalidValueLength, Answers, IsBytes, either_left, either_right, ok, ok_is, differ, err, Inclusive, Exclusive, Unbounded, IsSound, ReadsBy, Begins, NullableSpelled, and_then, then_at, nullable_at, Side, Range, empty, between, Bits, lower_bits, upper_bits, SideSpelled, side, sides, RangeReads, side_bit, side_bytes, side_cause, range_bytes, range_cause, range}
use Rattle.pgp_types.specs.declared.range.Range.{Range as Seen}
use Rattle.pgp_types.specs.Part.{nullable}
use Rattle.pgp_types.specs.RangeReading.{bounded, side_at, empty_at, between_at, tagged_at, range_at, shown_range}
use Rattle.pgp_types.proofs.HstoreLemmas.{value_spelled}
use Rattle.pgp_types.proofs.PartLemmas.{IsPart, and_then_ok, and_then_err, nullable_part, then_part}

values : IsPart (nullable InvalidValueLength) (nullable_at InvalidValueLength)
values = nullable_part InvalidValueLength

-- a side

-- by what a bit of the tag is
abbrev bounded_by : Bool → Option (List ℕ) → List ℕ → Result (Side × List ℕ) Error
bounded_by b v rest = cond b (Ok (Exclusive v, rest)) (Ok (Inclusive v, rest))

abbrev side_by : Bits → ℕ → Bool → List ℕ → Result (Side × List ℕ) Error
side_by bits tag b bytes = cond b (and_then (nullable_at InvalidValueLength bytes) (bounded bits tag)) (Ok (Unbounded, bytes))

module _ (bits : Bits) (tag : ℕ) where
  side_after : (b : Bool) (v : Option (List ℕ)) (front rest : List ℕ) (x : Side) (after : List ℕ) → nat_eq (bit_and tag bits.inclusive) 0 ≡ b → bit_and tag bits.unbounded ≡ 0 → NullableSpelled v front
      → bounded_by b v rest ≡ ok (x, after) → SideSpelled bits tag x front × (rest ≡ after)
  side_after true v front rest x after t bounded_is spelled e =
      subst (λ (p : Side × List ℕ). SideSpelled bits tag p.0 front × (rest ≡ p.1)) (ok_is (Exclusive v, rest) (x, after) e) ((bounded_is, eqb-true (bit_and tag bits.inclusive) 0 t, spelled), refl)
  side_after false v front rest x after t bounded_is spelled e =
      subst (λ (p : Side × List ℕ). SideSpelled bits tag p.0 front × (rest ≡ p.1)) (ok_is (Inclusive v, rest) (x, after) e) ((bounded_is, eqb-false (bit_and tag bits.inclusive) 0 t, spelled), refl)

  not_refused : (b : Bool) (p q : Side × List ℕ) (e : Error) → cond b (Ok p) (Ok q) ≡ err e → ⊥
  not_refused true p q e h = differ p e h
  not_refused false p q e h = differ q e h

  side_found : (b : Bool) (bytes : List ℕ) (x : Side) (after : List ℕ) → IsBytes bytes → nat_eq (bit_and tag bits.unbounded) 0 ≡ b
      → side_by bits tag b bytes ≡ ok (x, after) → Begins (side bits tag) bytes x after
  side_found true bytes x after h t e =
      let w = and_then_ok (nullable_at InvalidValueLength bytes) (bounded bits tag) (x, after) e in
      let b = values.found bytes w.0.0 w.0.1 h w.1 in
      let s = side_after (nat_eq (bit_and tag bits.inclusive) 0) w.0.0 b.front w.0.1 x after refl (eqb-true (bit_and tag bits.unbounded) 0 t) b.spelled w.2 in
      record { front = b.front; whole = b.whole ∙ ap (λ r. b.front ++ r) s.1; spelled = s.0 }
  side_found false bytes x after h t e =
      subst (λ (p : Side × List ℕ). Begins (side bits tag) bytes p.0 p.1) (ok_is (Unbounded, bytes) (x, after) e) (record { front = []; whole = refl; spelled = (eqb-false (bit_and tag bits.unbounded) 0 t, refl) })

  side_again : (x : Side) (front rest : List ℕ) → SideSpelled bits tag x front → side_at bits tag (front ++ rest) ≡ Ok (x, rest)
  unfolding side_at
  side_again Unbounded front rest s = rw (ne_eqb (bit_and tag bits.unbounded) 0 s.0, s.1) refl
  side_again (Inclusive v) front rest s = rw (s.0, values.again v front rest s.2, ne_eqb (bit_and tag bits.inclusive) 0 s.1) refl
  side_again (Exclusive v) front rest s = rw (s.0, values.again v front rest s.2, s.1) refl

  side_refused : (b : Bool) (bytes : List ℕ) (e : Error) → IsBytes bytes → nat_eq (bit_and tag bits.unbounded) 0 ≡ b
      → side_by bits tag b bytes ≡ err e → (side bits tag).Refused bytes e
  side_refused true bytes e h t r =
      elim (and_then_err (nullable_at InvalidValueLength bytes) (bounded bits tag) e r) [
        | inl n ↦ (eqb-true (bit_and tag bits.unbounded) 0 t, values.refused bytes e h n)
        | inr w ↦ absurd (not_refused (nat_eq (bit_and tag bits.inclusive) 0) (Exclusive w.0.0, w.0.1) (Inclusive w.0.0, w.0.1) e w.2)
      ]
  side_refused false bytes e h t r = absurd (differ (Unbounded, bytes) e r)

  pub side_part : IsPart (side bits tag) (side_at bits tag)
  unfolding side_at
  side_part = record {
    found = λ bytes x rest h e. side_found (nat_eq (bit_and tag bits.unbounded) 0) bytes x rest h refl e;
    again = side_again;
    refused = λ bytes e h r. side_refused (nat_eq (bit_and tag bits.unbounded) 0) bytes e h refl r;
    refuses = λ bytes e r. rw (r.0, values.refuses bytes e r.1) refl;
  }

sides_part : (tag : ℕ) → IsPart (sides tag) (then_at (side_at lower_bits tag) (side_at upper_bits tag))
sides_part tag = then_part (side_part lower_bits tag) (side_part upper_bits tag)

-- the range

tail_bytes : (tag : ℕ) (rest : List ℕ) → IsBytes (tag ∷ rest) → IsBytes rest
tail_bytes tag rest h i = h (suc i)

empty_reads : (tag : ℕ) (rest : List ℕ) → tag ≡ 1 → RangeReads (tag ∷ rest) (empty_at rest)
empty_reads tag [] one = ap (λ t. t ∷ []) one
empty_reads tag (b ∷ more) one = inr (tag, b ∷ more, refl, inl (one, (λ e. cc), refl))

module _ (tag : ℕ) (rest : List ℕ) (other : tag ≢ 1) (h : IsBytes rest) where
  between_reads : (x : Side × Side) (more : List ℕ) → Begins (sides tag) rest x more → RangeReads (tag ∷ rest) (between_at x more)
  between_reads x [] b = (tag, rest, refl, other, subst (λ f. (sides tag).Spelled x f) (sym (b.whole ∙ append-nil b.front)) b.spelled)
  between_reads x (c ∷ more) b = inr (tag, rest, refl, inr (other, inr (x, c ∷ more, b, (λ e. cc), refl)))

  sides_read : (r : Result ((Side × Side) × List ℕ) Error) → then_at (side_at lower_bits tag) (side_at upper_bits tag) rest ≡ r → RangeReads (tag ∷ rest) (and_then r between_at)
  sides_read (Ok x) e = between_reads x.0 x.1 ((sides_part tag).found rest x.0 x.1 h e)
  sides_read (Err d) e = inr (tag, rest, refl, inr (other, inl ((sides_part tag).refused rest d h e)))

tagged_by : (b : Bool) (tag : ℕ) (rest : List ℕ) → IsBytes rest → nat_eq tag 1 ≡ b → RangeReads (tag ∷ rest) (cond b (empty_at rest) (and_then (then_at (side_at lower_bits tag) (side_at upper_bits tag) rest) between_at))
tagged_by true tag rest h t = empty_reads tag rest (eqb-true tag 1 t)
tagged_by false tag rest h t = sides_read tag rest (eqb-false tag 1 t) h (then_at (side_at lower_bits tag) (side_at upper_bits tag) rest) refl

range_found : (bytes : List ℕ) → IsBytes bytes → RangeReads bytes (range_at bytes)
unfolding range_at
range_found [] h = inl (refl, refl)
range_found (tag ∷ rest) h = tagged_by (nat_eq tag 1) tag rest (tail_bytes tag rest h) refl

tagged_one : (tag : ℕ) (rest : List ℕ) → tag ≡ 1 → tagged_at tag rest ≡ empty_at rest
tagged_one tag rest one = rw one refl

tagged_other : (tag : ℕ) (rest : List ℕ) → tag ≢ 1 → tagged_at tag rest ≡ and_then (then_at (side_at lower_bits tag) (side_at upper_bits tag) rest) between_at
tagged_other tag rest other = rw (ne_eqb tag 1 other) refl

empty_more : (rest : List ℕ) → rest ≢ [] → empty_at rest ≡ Err NotDrained
empty_more [] more = absurd (more refl)
empty_more (b ∷ rest) more = refl

between_more : (x : Side × Side) (rest : List ℕ) → rest ≢ [] → between_at x rest ≡ Err NotDrained
between_more x [] more = absurd (more refl)
between_more x (b ∷ rest) more = refl

range_only : (bytes : List ℕ) (r : Result Range Error) → RangeReads bytes r → range_at bytes ≡ r
unfolding range_at
range_only bytes (Ok empty) p = rw p refl
range_only bytes (Ok (between l u)) p =
    let read = then_at (side_at lower_bits p.0) (side_at upper_bits p.0) in
    let whole : read p.1 ≡ Ok ((l, u), []) = ap read (sym (append-nil p.1)) ∙ (sides_part p.0).again (l, u) p.1 [] p.4 in
    ap range_at p.2 ∙ (tagged_other p.0 p.1 p.3 ∙ ap (λ r. and_then r between_at) whole)
range_only bytes (Err e) (inl short) = rw (short.0, short.1) refl
range_only bytes (Err e) (inr (tag, rest, is, inl one)) = ap range_at is ∙ (tagged_one tag rest one.0 ∙ (empty_more rest one.1 ∙ ap Err (sym one.2)))
range_only bytes (Err e) (inr (tag, rest, is, inr (other, inl refused))) =
    ap range_at is ∙ (tagged_other tag rest other ∙ ap (λ r. and_then r between_at) ((sides_part tag).refuses rest e refused))
range_only bytes (Err e) (inr (tag, rest, is, inr (other, inr (x, more, b, left, why)))) =
    let read = then_at (side_at lower_bits tag) (side_at upper_bits tag) in
    let front : read rest ≡ Ok (x, more) = ap read b.whole ∙ (sides_part tag).again x b.front more b.spelled in
    ap range_at is ∙ (tagged_other tag rest other ∙ (ap (λ r. and_then r between_at) front ∙ (between_more x more left ∙ ap Err (sym why))))

-- what the reader returns
pub range_answers : (bytes : List ℕ) (r : Result Seen Error) → IsBytes bytes → Answers shown_range r (range_at bytes) → ReadsBy shown_range range bytes r
range_answers bytes (Ok x) h e = subst (RangeReads bytes) e (range_found bytes h)
range_answers bytes (Err d) h e = subst (RangeReads bytes) e (range_found bytes h)

-- What is written is read.

two : ◌≢◌ {A = ℕ} 2 0
two e = omega (arith, e)

four : ◌≢◌ {A = ℕ} 4 0
four e = omega (arith, e)

eight : ◌≢◌ {A = ℕ} 8 0
eight e = omega (arith, e)

sixteen : ◌≢◌ {A = ℕ} 16 0
sixteen e = omega (arith, e)

abbrev tag_of : Side → Side → ℕ
tag_of l u = side_bit lower_bits l + side_bit upper_bits u

lower_spelled : (l u : Side) → side_cause l ≡ None → SideSpelled lower_bits (tag_of l u) l (side_bytes l)
lower_spelled Unbounded Unbounded fits = (eight, refl)
lower_spelled Unbounded (Inclusive w) fits = (eight, refl)
lower_spelled Unbounded (Exclusive w) fits = (eight, refl)
lower_spelled (Inclusive v) Unbounded fits = (refl, two, value_spelled v fits)
lower_spelled (Inclusive v) (Inclusive w) fits = (refl, two, value_spelled v fits)
lower_spelled (Inclusive v) (Exclusive w) fits = (refl, two, value_spelled v fits)
lower_spelled (Exclusive v) Unbounded fits = (refl, refl, value_spelled v fits)
lower_spelled (Exclusive v) (Inclusive w) fits = (refl, refl, value_spelled v fits)
lower_spelled (Exclusive v) (Exclusive w) fits = (refl, refl, value_spelled v fits)

upper_spelled : (l u : Side) → side_cause u ≡ None → SideSpelled upper_bits (tag_of l u) u (side_bytes u)
upper_spelled Unbounded Unbounded fits = (sixteen, refl)
upper_spelled Unbounded (Inclusive w) fits = (refl, four, value_spelled w fits)
upper_spelled Unbounded (Exclusive w) fits = (refl, refl, value_spelled w fits)
upper_spelled (Inclusive v) Unbounded fits = (sixteen, refl)
upper_spelled (Inclusive v) (Inclusive w) fits = (refl, four, value_spelled w fits)
upper_spelled (Inclusive v) (Exclusive w) fits = (refl, refl, value_spelled w fits)
upper_spelled (Exclusive v) Unbounded fits = (sixteen, refl)
upper_spelled (Exclusive v) (Inclusive w) fits = (refl, four, value_spelled w fits)
upper_spelled (Exclusive v) (Exclusive w) fits = (refl, refl, value_spelled w fits)

not_empty : (l u : Side) → tag_of l u ≢ 1
not_empty Unbounded Unbounded e = omega (arith, e)
not_empty Unbounded (Inclusive w) e = omega (arith, e)
not_empty Unbounded (Exclusive w) e = omega (arith, e)
not_empty (Inclusive v) Unbounded e = omega (arith, e)
not_empty (Inclusive v) (Inclusive w) e = omega (arith, e)
not_empty (Inclusive v) (Exclusive w) e = omega (arith, e)
not_empty (Exclusive v) Unbounded e = omega (arith, e)
not_empty (Exclusive v) (Inclusive w) e = omega (arith, e)
not_empty (Exclusive v) (Exclusive w) e = omega (arith, e)

range_back : (v : Range) → range_cause v ≡ None → RangeReads (range_bytes v) (Ok v)
range_back empty fits = refl
range_back (between l u) fits = (
  tag_of l u,
  side_bytes l ++ side_bytes u,
  refl,
  not_empty l u,
  record {
    first = side_bytes l;
    second = side_bytes u;
    whole = refl;
    one = lower_spelled l u (either_left (side_cause l) (side_cause u) fits);
    other = upper_spelled l u (either_right (side_cause l) (side_cause u) fits);
  },
)

pub range_sound : IsSound range
range_sound = record {
  some = λ bytes h. (range_at bytes, range_found bytes h);
  one = λ bytes r s p q. sym (range_only bytes r p) ∙ range_only bytes s q;
  back = λ v has fits. range_back v fits;
}
