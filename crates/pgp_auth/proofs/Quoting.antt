-- The text that is written is read back, and nothing that follows changes how it is read.
use Rattle.pgp_auth.proofs.Common.{◌≡◌, ◌≢◌, ℕ, zero, suc, ◌+◌, ◌-◌, ◌<◌, ◌==◌, Bool, true, false, List, [], ◌∷◌, ◌++◌, length, take, drop, slice_index, refl, arith, inl, inr, add-one, append_assoc, IsCharBoundary-after_ascii, IsUtf8, IsCharBoundary, cases_Bool, cases_eq, ne_eqb, eq-eqb, two_quotes, two_slashes, itself, Body, empty, join, Literal, plain, escape, Identifier, is_doubled, doubled}
use Rattle.memchr.specs.Find.{Passes, NoneBefore, Nowhere, is_byte}

-- ---- the runs

pub true_not_false : false ≡ true → ⊥
true_not_false e = cc

-- a byte that is written twice is ASCII
pub doubled_low : (q : ℕ) (s : Bool) (c : ℕ) → q < 128 → is_doubled q s c ≡ true → c < 128
doubled_low q true c low e = elim (cases_eq c q) [
  | inl same ↦ omega arith
  | inr other ↦ elim (cases_eq c 92) [
    | inl slash ↦ omega arith
    | inr neither ↦ absurd (true_not_false (rw (ne_eqb c q other, ne_eqb c 92 neither) at e))
  ]
]
doubled_low q false c low e = elim (cases_eq c q) [
  | inl same ↦ omega arith
  | inr other ↦ absurd (true_not_false (rw (ne_eqb c q other) at e))
]

-- a text in which nothing is written twice
pub doubled_none : (q : ℕ) (s : Bool) (z : List ℕ) → ((k : ℕ) → k < length z → is_doubled q s (slice_index z k) ≢ true) → doubled q s z ≡ z
unfolding doubled
doubled_none q s [] none = refl
doubled_none q s (c ∷ z) none = elim (cases_Bool (is_doubled q s c)) [
  | inl yes_ ↦ absurd (none 0 (omega arith) yes_)
  | inr no_ ↦ rw (no_, doubled_none q s z (λ k lt. none (suc k) (omega arith))) refl
]

-- up to the first byte that is written twice the text is as it was
pub doubled_run : (q : ℕ) (s : Bool) (at : ℕ) (z : List ℕ) → at < length z → ((k : ℕ) → k < at → is_doubled q s (slice_index z k) ≢ true)
    → is_doubled q s (slice_index z at) ≡ true
    → doubled q s z ≡ take (suc at) z ++ (take 1 (drop at z) ++ doubled q s (drop (suc at) z))
unfolding doubled
doubled_run q s at [] lt none here = absurd (omega arith)
doubled_run q s zero (c ∷ z) lt none here = rw here refl
doubled_run q s (suc at) (c ∷ z) lt none here = elim (cases_Bool (is_doubled q s c)) [
  | inl yes_ ↦ absurd (none 0 (omega arith) yes_)
  | inr no_ ↦ rw (no_, doubled_run q s at z (omega arith) (λ k below. none (suc k) (omega arith)) here) refl
]

-- the first byte that is written twice stands at `at`
abbrev pub Found : ℕ → Bool → List ℕ → ℕ → Type 0
Found q s z at = NoneBefore (Passes (is_doubled q s) z) 0 (length z) at × Passes (is_doubled q s) z at

-- a text may be cut after it
pub cut_behind : (q : ℕ) (s : Bool) (bytes z : List ℕ) (at : ℕ) → bytes ≡ z → q < 128 → IsUtf8 bytes → Found q s bytes at → IsCharBoundary z (at + 1)
cut_behind q s bytes z at same low utf8 found =
    let here = rw same at found in
    let text = rw same at utf8 in
    let ascii = doubled_low q s (slice_index z at) low here.1 in
    IsCharBoundary-after_ascii z at text here.0.high ascii

joined : (a b c d : List ℕ) → ((a ++ b) ++ c) ++ d ≡ a ++ (b ++ (c ++ d))
joined a b c d = simp append_assoc

-- one run is written
pub run_step : (q : ℕ) (s : Bool) (at : ℕ) (bytes z front whole : List ℕ) → bytes ≡ z → Found q s bytes at → front ++ doubled q s z ≡ whole
    → ((front ++ take ((at + 1) - 0) z) ++ take ((at + 1) - at) (drop at z)) ++ doubled q s (drop (at + 1) z) ≡ whole
run_step q s at bytes z front whole same found before =
    let here = rw same at found in
    let all : (at + 1) - 0 ≡ at + 1 = omega arith in
    let one : (at + 1) - at ≡ 1 = omega arith in
    let run = doubled_run q s at z here.0.high (λ k lt. here.0.before k (omega arith) lt) here.1 in
    rw (all, one, joined front (take (at + 1) z) (take 1 (drop at z)) (doubled q s (drop (at + 1) z)), add-one, ← run) before

-- the last run is written
pub run_end : (q : ℕ) (s : Bool) (bytes z front whole : List ℕ) → bytes ≡ z → Nowhere (Passes (is_doubled q s) bytes) 0 (length bytes)
    → front ++ doubled q s z ≡ whole → front ++ z ≡ whole
run_end q s bytes z front whole same none before =
    let nowhere = rw same at none in
    rw (doubled_none q s z (λ k lt. nowhere k (omega arith) lt)) at before

-- ---- what is written is read back

pub doubled_reads : (q : ℕ) (s : Bool) (z : List ℕ) → Body q s (doubled q s z) z
unfolding doubled
doubled_reads q s [] = empty
doubled_reads q true (c ∷ z) = elim (cases_eq c q) [
  | inl same ↦ rw (eq-eqb c q same, same) (join two_quotes (doubled_reads q true z))
  | inr other ↦ elim (cases_eq c 92) [
    | inl slash ↦ rw (ne_eqb c q other, eq-eqb c 92 slash, slash) (join (two_slashes refl) (doubled_reads q true z))
    | inr neither ↦ rw (ne_eqb c q other, ne_eqb c 92 neither) (join (itself other (λ _. neither)) (doubled_reads q true z))
  ]
]
doubled_reads q false (c ∷ z) = elim (cases_eq c q) [
  | inl same ↦ rw (eq-eqb c q same, same) (join two_quotes (doubled_reads q false z))
  | inr other ↦ rw (ne_eqb c q other) (join (itself other (λ e. cc)) (doubled_reads q false z))
]

pub identifier_reads : (t z : List ℕ) → t ≡ [] ++ 34 ∷ (doubled 34 false z ++ 34 ∷ []) → Identifier t z
identifier_reads t z e = record { body = doubled 34 false z; text_is = e; reads = doubled_reads 34 false z }

pub escape_reads : (on : Bool) (t z : List ℕ) → t ≡ (32 ∷ 69 ∷ []) ++ 39 ∷ (doubled 39 true z ++ 39 ∷ []) → Literal on t z
escape_reads on t z e = rw e (escape (record { body = doubled 39 true z; text_is = refl; reads = doubled_reads 39 true z }))

-- without a backslash the two readings agree
no_backslash : (z : List ℕ) → ((k : ℕ) → k < length z → (slice_index z k == 92) ≢ true) → doubled 39 true z ≡ doubled 39 false z
unfolding doubled
no_backslash [] none = refl
no_backslash (c ∷ z) none = elim (cases_eq c 92) [
  | inl slash ↦ absurd (none 0 (omega arith) (eq-eqb c 92 slash))
  | inr other ↦ elim (cases_Bool (c == 39)) [
    | inl yes_ ↦ rw (yes_, no_backslash z (λ k lt. none (suc k) (omega arith))) refl
    | inr no_ ↦ rw (no_, ne_eqb c 92 other, no_backslash z (λ k lt. none (suc k) (omega arith))) refl
  ]
]

pub plain_reads : (on : Bool) (t bytes z : List ℕ) → bytes ≡ z → Nowhere (Passes (is_byte 92) bytes) 0 (length bytes)
    → t ≡ [] ++ 39 ∷ (doubled 39 false z ++ 39 ∷ []) → Literal on t z
plain_reads true t bytes z same none e = plain (record { body = doubled 39 false z; text_is = e; reads = doubled_reads 39 false z })
plain_reads false t bytes z same none e =
    let nowhere = rw same at none in
    let both = no_backslash z (λ k lt. nowhere k (omega arith) lt) in
    plain (record { body = doubled 39 false z; text_is = e; reads = rw (← both) (doubled_reads 39 true z) })
