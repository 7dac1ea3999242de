-- A step over the items of a walk.
use Rattle.for_c.proofs.Common.{◌≡◌, ◌⊎◌, ℕ, zero, suc, ◌+◌, ◌-◌, ◌<◌, ◌≤◌, Bool, true, false, List, [], ◌∷◌, ◌++◌, length, take, drop, slice_index, refl, sym, ap, subst, ◌∙◌, inl, inr, arith, ◌≢◌, nat_le, if◌then◌else◌, le-leb, leb-true, cases_Bool, length-take, drop-take, drop-append_seam, take-length, StandsAt, Unmarked, PgpCursor, rest_of, rest, StandsFrom, Passes}
use Rattle.std.proofs.lemmas.List.{length-append}
use Rattle.pgp_base.specs.WalkReading.{is_marked}

pub one_fewer : (n : ℕ) → n ≢ 0 → n - 1 + 1 ≡ n
one_fewer zero h = absurd (h refl)
one_fewer (suc n) h = omega arith

pub chosen : {A : Type 0} (b : Bool) (x y : A) → b ≡ true → (if b then x else y) ≡ x
chosen b x y h = rw h refl

left_out : {A : Type 0} (b : Bool) (x y : A) → b ≡ false → (if b then x else y) ≡ y
left_out b x y h = rw h refl

-- what stands between two places
between : (bytes : List ℕ) (at end : ℕ) → ((end ≤ length bytes) × (at ≤ end) × (rest_of bytes at end ≡ take (end - at) (drop at bytes))) ⊎ (rest_of bytes at end ≡ [])
between bytes at end = elim (cases_Bool (nat_le end (length bytes))) [
  | inl t ↦ elim (cases_Bool (nat_le at end)) [
    | inl u ↦ inl (leb-true end (length bytes) t, leb-true at end u, chosen (nat_le end (length bytes)) _ [] t ∙ chosen (nat_le at end) _ [] u)
    | inr u ↦ inr (chosen (nat_le end (length bytes)) _ [] t ∙ left_out (nat_le at end) _ [] u)
  ]
  | inr f ↦ inr (left_out (nat_le end (length bytes)) _ [] f)
]

take_length-take : {A : Type 0} (n : ℕ) (xs : List A) → take (length (take n xs)) xs ≡ take n xs
take_length-take zero xs = refl
take_length-take (suc n) [] = refl
take_length-take (suc n) (x ∷ xs) = ap (λ l. x ∷ l) (take_length-take n xs)

pub stands_from : (bytes : List ℕ) (at end : ℕ) → StandsFrom bytes at (rest_of bytes at end)
stands_from bytes at end = elim (between bytes at end) [
  | inl k ↦ subst (λ l. StandsFrom bytes at l) (sym k.2) (take_length-take (end - at) (drop at bytes))
  | inr k ↦ subst (λ l. StandsFrom bytes at l) (sym k) refl
]

drop_none : {A : Type 0} (n : ℕ) → (let none : List A = [] in drop n none ≡ [])
drop_none zero = refl
drop_none (suc n) = refl

pub drop-drop : {A : Type 0} (n m : ℕ) (xs : List A) → drop n (drop m xs) ≡ drop (m + n) xs
drop-drop n zero xs = let e : n ≡ 0 + n = omega arith in ap (λ k. drop k xs) e
drop-drop n (suc m) [] = drop_none n ∙ sym (drop_none (suc m + n))
drop-drop n (suc m) (x ∷ xs) = let e : suc m + n ≡ suc (m + n) = omega arith in drop-drop n m xs ∙ ap (λ k. drop k (x ∷ xs)) (sym e)

-- what is left after an item
behind : (bytes : List ℕ) (at end n : ℕ) → at ≤ end → end ≤ length bytes → n ≤ end - at → rest_of bytes (at + n) end ≡ drop n (take (end - at) (drop at bytes))
behind bytes at end n low high few =
    let count : end - at ≡ n + (end - (at + n)) = omega (arith, low, few) in
    chosen (nat_le end (length bytes)) _ [] (le-leb end (length bytes) high)
    ∙ (chosen (nat_le (at + n) end) _ [] (le-leb (at + n) end (omega (arith, low, few)))
    ∙ (ap (λ l. take (end - (at + n)) l) (sym (drop-drop n at bytes)) ∙ (sym (drop-take n (end - (at + n)) (drop at bytes)) ∙ ap (λ k. drop n (take k (drop at bytes))) (sym count))))

-- the bytes between two places of them, and from a place on
pub rest_between : (bytes : List ℕ) (at end : ℕ) → at ≤ end → end ≤ length bytes → rest_of bytes at end ≡ take (end - at) (drop at bytes)
rest_between bytes at end low high = chosen (nat_le end (length bytes)) _ [] (le-leb end (length bytes) high) ∙ chosen (nat_le at end) _ [] (le-leb at end low)

pub rest_after : (front more : List ℕ) (bytes : List ℕ) (n end : ℕ) → bytes ≡ front ++ more → length front ≡ n → end ≡ length bytes → rest_of bytes n end ≡ more
rest_after front more bytes n end whole size last =
    let long : length bytes ≡ length front + length more = ap length whole ∙ length-append front more in
    let low : n ≤ end = omega (arith, long, size, last) in
    let high : end ≤ length bytes = omega (arith, last) in
    let cut : drop n bytes ≡ more = ap (λ k. drop k bytes) (sym size) ∙ (ap (λ l. drop (length front) l) whole ∙ drop-append_seam front more) in
    let count : end - n ≡ length more = omega (arith, last, long, size) in
    rest_between bytes n end low high ∙ (ap (λ l. take (end - n) l) cut ∙ (ap (λ k. take k more) count ∙ take-length more))

-- after an item at the front of what is left
pub left_after : (bytes : List ℕ) (at end : ℕ) (front more : List ℕ) → rest_of bytes at end ≡ front ++ more → 0 < length front → rest_of bytes (at + length front) end ≡ more
left_after bytes at end front more whole some =
    let size : length (rest_of bytes at end) ≡ length front + length more = ap length whole ∙ length-append front more in
    elim (between bytes at end) [
      | inr none ↦ absurd (let zero_length = ap length none in omega (arith, zero_length, size, some))
      | inl k ↦
          let few : length front ≤ end - at = let n = ap length k.2 in omega (arith, n, size, length-take (end - at) (drop at bytes)) in
          behind bytes at end (length front) k.1 k.0 few ∙ ap (λ l. drop (length front) l) (sym k.2 ∙ whole) ∙ drop-append_seam front more
    ]

pub passes : {V : Type 0} (Spelled : ℕ → V → List ℕ → Type 0) (bytes : List ℕ) (before after : PgpCursor) (x : V) (more : List ℕ) → StandsAt Spelled before.at (rest bytes before) x more
    → length more < length (rest bytes before) → after.at ≡ before.at + (length (rest bytes before) - length more) → after.end ≡ before.end → Passes Spelled bytes before after x
passes Spelled bytes before after x more s shorter at end =
    let size : length (rest bytes before) ≡ length s.front + length more = omega (arith, ap length s.whole, length-append s.front more) in
    let place : after.at ≡ before.at + length s.front = omega (arith, at, size) in
    let cut = left_after bytes before.at before.end s.front more s.whole (omega (arith, size, shorter)) in
    let last : rest bytes after ≡ more = ap (λ i. rest_of bytes i after.end) place ∙ (ap (λ i. rest_of bytes (before.at + length s.front) i) end ∙ cut) in
    record {
      front = s.front;
      spelled = s.spelled;
      whole = s.whole ∙ ap (λ l. s.front ++ l) (sym last);
      place = place;
      same_end = end;
    }

-- an item at the front of bytes that don't begin with the mark
first_unmarked : (front more : List ℕ) → 0 < length front → is_marked (front ++ more) ≡ false → slice_index front 0 ≢ 0
first_unmarked [] more some is h = omega (arith, some)
first_unmarked (zero ∷ front) more some is h = absurd cc
first_unmarked (suc b ∷ front) more some is h = omega (arith, h)

-- the same over the bytes that a call took as what is left
pub stands_in : (bytes r : List ℕ) (c : PgpCursor) → r ≡ rest bytes c → StandsFrom bytes c.at r
stands_in bytes r c is = subst (λ l. StandsFrom bytes c.at l) (sym is) (stands_from bytes c.at c.end)

pub passes_left : {V : Type 0} (Spelled : ℕ → V → List ℕ → Type 0) (bytes r : List ℕ) (before after : PgpCursor) (x y : V) (more : List ℕ) → r ≡ rest bytes before → StandsAt Spelled before.at r x more
    → y ≡ x → length more < length r → after.at ≡ before.at + (length r - length more) → after.end ≡ before.end → Passes Spelled bytes before after y
passes_left Spelled bytes r before after x y more is s same shorter at end =
    passes Spelled bytes before after y more (subst (λ z. StandsAt Spelled before.at (rest bytes before) z more) (sym same) (subst (λ l. StandsAt Spelled before.at l x more) is s)) (subst (λ l. length more < length l) is shorter)
    (at ∙ ap (λ l. before.at + (length l - length more)) is) end

pub unmarked : {V : Type 0} (Spelled : ℕ → V → List ℕ → Type 0) (place : ℕ) (bytes : List ℕ) (x : V) (more : List ℕ) → is_marked bytes ≡ false → length more < length bytes
    → StandsAt Spelled place bytes x more → StandsAt (Unmarked Spelled) place bytes x more
unmarked Spelled place bytes x more is shorter s =
    let some : 0 < length s.front = omega (arith, shorter, ap length s.whole, length-append s.front more) in
    record { front = s.front; whole = s.whole; spelled = (s.spelled, first_unmarked s.front more some (ap is_marked (sym s.whole) ∙ is)) }
