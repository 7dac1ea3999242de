-- A text that is doubled in blocks.
use Rattle.pgp_auth.proofs.Common.{◌≡◌, ◌≢◌, ℕ, zero, suc, ◌-◌, ◌+◌, ◌<◌, ◌≤◌, Bool, true, false, cond, List, [], ◌∷◌, ◌++◌, length, take, drop, set, get_or, slice_index, add-one, refl, sym, ap, ◌∙◌, arith, inl, inr, cases_Bool, take_more, take_more_set, take-set, take-append-drop, append_assoc, length-set, length-drop, IsUtf8-append, IsUtf8-take, IsUtf8-drop, IsUtf8-between, IsCharBoundary-before_ascii, IsCharBoundary-after_ascii, IsUtf8, is_doubled, doubled}
use Rattle.std.proofs.Common.{◌⊎◌, if◌then◌else◌}
use Rattle.std.proofs.lemmas.Grind.{flat_map-append}
use Rattle.pgp_auth.proofs.Quoting.{true_not_false, doubled_low, doubled_none, doubled_run}

doubled-append : (q : ℕ) (s : Bool) (xs ys : List ℕ) → doubled q s (xs ++ ys) ≡ doubled q s xs ++ doubled q s ys
unfolding doubled
doubled-append q s xs ys = flat_map-append (λ c. if is_doubled q s c then c ∷ c ∷ [] else c ∷ []) xs ys

-- a text is doubled in two parts
pub doubled_parts : (q : ℕ) (s : Bool) (n : ℕ) (xs : List ℕ) → doubled q s xs ≡ doubled q s (take n xs) ++ doubled q s (drop n xs)
doubled_parts q s n xs = ap (doubled q s) (sym (take-append-drop n xs)) ∙ doubled-append q s (take n xs) (drop n xs)

one_twice : (q : ℕ) (s : Bool) (b : ℕ) → is_doubled q s b ≡ true → doubled q s (b ∷ []) ≡ b ∷ b ∷ []
unfolding doubled
one_twice q s b yes_ = rw yes_ refl

one_once : (q : ℕ) (s : Bool) (b : ℕ) → is_doubled q s b ≡ false → doubled q s (b ∷ []) ≡ b ∷ []
unfolding doubled
one_once q s b no_ = rw no_ refl

front_more : (q : ℕ) (s : Bool) (block : List ℕ) (i : ℕ) → i < length block → doubled q s (take (i + 1) block) ≡ doubled q s (take i block) ++ doubled q s (get_or block i 0 ∷ [])
front_more q s block i lt = ap (doubled q s) (take_more block i 0 lt) ∙ doubled-append q s (take i block) (get_or block i 0 ∷ [])

-- one more byte is put down: twice, the second over the first where it is written once
pub block_more : (q : ℕ) (s : Bool) (block room : List ℕ) (i len : ℕ) → i < length block → len + 1 < length room → take len room ≡ doubled q s (take i block)
    → take ((len + cond (is_doubled q s (get_or block i 0)) 1 0) + 1) (set (set room len (get_or block i 0)) (len + cond (is_doubled q s (get_or block i 0)) 1 0) (get_or block i 0))
    ≡ doubled q s (take (i + 1) block)
block_more q s block room i len lt fits before =
    let b = get_or block i 0 in
    let whole : length (set room len b) ≡ length room = length-set room len b in
    elim (cases_Bool (is_doubled q s b)) [
      | inl yes_ ↦
          rw yes_ (take_more_set (set room len b) (len + 1) b (omega arith)
          ∙ (ap (λ front. front ++ b ∷ []) (take_more_set room len b (omega arith))
          ∙ (append_assoc (take len room) (b ∷ []) (b ∷ [])
          ∙ (ap (λ front. front ++ b ∷ b ∷ []) before
          ∙ (ap (λ more. doubled q s (take i block) ++ more) (sym (one_twice q s b yes_))
          ∙ sym (front_more q s block i lt))))))
      | inr no_ ↦
          let same : len + 0 ≡ len = omega arith in
          rw (no_, same) (take_more_set (set room len b) len b (omega arith)
          ∙ (ap (λ front. front ++ b ∷ []) (take-set room len b)
          ∙ (ap (λ front. front ++ b ∷ []) before
          ∙ (ap (λ more. doubled q s (take i block) ++ more) (sym (one_once q s b no_))
          ∙ sym (front_more q s block i lt)))))
    ]

pub doubled_nil : (q : ℕ) (s : Bool) → [] ≡ doubled q s []
unfolding doubled
doubled_nil q s = refl

pub at_most_one : (b : Bool) → cond b 1 0 ≤ 1
at_most_one true = omega arith
at_most_one false = omega arith

-- one block is written
pub blocks_step : (q : ℕ) (s : Bool) (n : ℕ) (rest out new whole block after : List ℕ) → block ≡ take n rest → after ≡ drop n rest → new ≡ out ++ doubled q s block
    → out ++ doubled q s rest ≡ whole → new ++ doubled q s after ≡ whole
blocks_step q s n rest out new whole block after front back is before =
    rw (is, front, back) (append_assoc out (doubled q s (take n rest)) (doubled q s (drop n rest))
    ∙ (ap (λ more. out ++ more) (sym (doubled_parts q s n rest)) ∙ before))

-- ---- it stays a text

none_later : (p : ℕ → Bool) (c : ℕ) (z : List ℕ) (n : ℕ) → p c ≡ false → ((k : ℕ) → k < n → p (slice_index z k) ≢ true) → (k : ℕ) → k < suc n → p (slice_index (c ∷ z) k) ≢ true
none_later p c z n no_ none zero lt = λ yes_. true_not_false (sym no_ ∙ yes_)
none_later p c z n no_ none (suc k) lt = none k (omega arith)

first_or_none : (p : ℕ → Bool) (z : List ℕ) → ((at : ℕ) × (at < length z) × ((k : ℕ) → k < at → p (slice_index z k) ≢ true) × (p (slice_index z at) ≡ true))
    ⊎ ((k : ℕ) → k < length z → p (slice_index z k) ≢ true)
first_or_none p [] = inr (λ k lt. absurd (omega arith))
first_or_none p (c ∷ z) = elim (cases_Bool (p c)) [
  | inl yes_ ↦ inl (0, omega arith, (λ k lt. absurd (omega arith)), yes_)
  | inr no_ ↦ elim (first_or_none p z) [
    | inl found ↦ inl (suc found.0, omega (arith, found.1), none_later p c z found.0 no_ found.2, found.3)
    | inr none ↦ inr (none_later p c z (length z) no_ none)
  ]
]

utf8_within : (n q : ℕ) (s : Bool) (z : List ℕ) → length z ≤ n → q < 128 → IsUtf8 z → IsUtf8 (doubled q s z)
utf8_within zero q s z le low text = elim (first_or_none (is_doubled q s) z) [
  | inl found ↦ absurd (omega (arith, found.1))
  | inr none ↦ rw (doubled_none q s z none) text
]
utf8_within (suc n) q s z le low text = elim (first_or_none (is_doubled q s) z) [
  | inl found ↦
      let at_ = found.0 in
      let ascii = doubled_low q s (slice_index z at_) low found.3 in
      let before = IsCharBoundary-before_ascii z at_ found.1 ascii in
      let after = IsCharBoundary-after_ascii z at_ text found.1 ascii in
      let shorter : length (drop (at_ + 1) z) ≤ n = omega (arith, found.1, length-drop (at_ + 1) z) in
      let rest = utf8_within n q s (drop (at_ + 1) z) shorter low (IsUtf8-drop z (at_ + 1) text after) in
      let one : (at_ + 1) - at_ ≡ 1 = omega arith in
      let quote = rw one at (IsUtf8-between z at_ (at_ + 1) text (omega arith) before after) in
      let run : doubled q s z ≡ take (at_ + 1) z ++ (take 1 (drop at_ z) ++ doubled q s (drop (at_ + 1) z)) = rw add-one (doubled_run q s at_ z found.1 found.2 found.3) in
      rw run (IsUtf8-append (take (at_ + 1) z) (take 1 (drop at_ z) ++ doubled q s (drop (at_ + 1) z)) (IsUtf8-take z (at_ + 1) text after)
      (IsUtf8-append (take 1 (drop at_ z)) (doubled q s (drop (at_ + 1) z)) quote rest))
  | inr none ↦ rw (doubled_none q s z none) text
]

-- a text that is doubled is one
pub utf8_doubled : (q : ℕ) (s : Bool) (z : List ℕ) → q < 128 → IsUtf8 z → IsUtf8 (doubled q s z)
utf8_doubled q s z low text = utf8_within (length z) q s z (omega arith) low text
