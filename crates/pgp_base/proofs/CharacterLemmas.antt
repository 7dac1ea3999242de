-- Bytes by a row of the table are a character, and where no row fits, none begins there.
use Rattle.pgp_base.proofs.Common.{◌≡◌, ℕ, ◌+◌, ◌-◌, ◌*◌, ◌/◌, ◌≤◌, ◌<◌, ◌⊎◌, true, List, [], ◌∷◌, ◌++◌, length, get_or, take, drop, IsUtf8, sym, ap, subst, ◌∙◌, inl, inr, arith, lt-ltb, le-ltb, le-leb, length-drop, take-add, StartsWithNoChar, cases_lt, and_parts, encode_ascii, IsUtf8-append, IsUtf8-encode, IsUtf8-drop, IsCharBoundary-from_take, AreAscii}
use lib.Utf8.{scalar, scalars, encode, encodes, next, low_scalar, scalar_cases}
use Rattle.pgp_base.specs.Characters.{AreTwo, AreThree, AreFour, BeginsText}
use Rattle.pgp_base.proofs.AsciiLemmas.{front_is_text}

-- ---- how a character is spelled, by its number

spelled_by_two : (c : ℕ) → 128 ≤ c → c < 2048 → encode c ≡ (192 + c / 64) ∷ next c ∷ []
unfolding encode
spelled_by_two c low high = rw (le-ltb c 128 low, lt-ltb c 2048 high)

spelled_by_three : (c : ℕ) → 2048 ≤ c → c < 65536 → encode c ≡ (224 + c / 4096) ∷ next (c / 64) ∷ next c ∷ []
unfolding encode
spelled_by_three c low high = rw (le-ltb c 128 (omega arith), le-ltb c 2048 low, lt-ltb c 65536 high)

spelled_by_four : (c : ℕ) → 65536 ≤ c → encode c ≡ (240 + c / 262144) ∷ next (c / 4096) ∷ next (c / 64) ∷ next c ∷ []
unfolding encode
spelled_by_four c low = rw (le-ltb c 128 (omega arith), le-ltb c 2048 (omega arith), le-ltb c 65536 low)

past_surrogates : (c : ℕ) → 57344 ≤ c → c < 1114112 → scalar c ≡ true
past_surrogates c low high = rw (le-ltb c 55296 (omega arith), le-leb 57344 c low, lt-ltb c 1114112 high)

-- ---- from a row to a character

two_are_text : (x y : ℕ) → AreTwo x y → IsUtf8 (x ∷ y ∷ [])
two_are_text x y t =
    let c = (x - 192) * 64 + (y - 128) in
    let p : 192 + c / 64 ≡ x = omega arith in
    let q : next c ≡ y = omega arith in
    subst IsUtf8 (spelled_by_two c (omega arith) (omega arith) ∙ (λ i. p i ∷ q i ∷ [])) (IsUtf8-encode c (low_scalar c (omega arith)))

three_are_text : (x y z : ℕ) → AreThree x y z → IsUtf8 (x ∷ y ∷ z ∷ [])
three_are_text x y z t =
    let c = (x - 224) * 4096 + (y - 128) * 64 + (z - 128) in
    let p : 224 + c / 4096 ≡ x = omega arith in
    let q : next (c / 64) ≡ y = omega arith in
    let r : next c ≡ z = omega arith in
    let long : 2048 ≤ c = elim (cases_lt x 225) [ inl l ↦ (let b : 160 ≤ y = t.4 (omega arith) in omega arith) | inr l ↦ omega arith ] in
    let ok : scalar c ≡ true = elim (cases_lt x 237) [
      | inl l ↦ low_scalar c (omega arith)
      | inr l ↦ elim (cases_lt x 238) [ inl m ↦ low_scalar c (let b : y < 160 = t.5 (omega arith) in omega arith) | inr m ↦ past_surrogates c (omega arith) (omega arith) ]
    ] in
    subst IsUtf8 (spelled_by_three c long (omega arith) ∙ (λ i. p i ∷ q i ∷ r i ∷ [])) (IsUtf8-encode c ok)

four_are_text : (x y z w : ℕ) → AreFour x y z w → IsUtf8 (x ∷ y ∷ z ∷ w ∷ [])
four_are_text x y z w t =
    let c = (x - 240) * 262144 + (y - 128) * 4096 + (z - 128) * 64 + (w - 128) in
    let p : 240 + c / 262144 ≡ x = omega arith in
    let q : next (c / 4096) ≡ y = omega arith in
    let cut : c / 64 ≡ (x - 240) * 4096 + (y - 128) * 64 + (z - 128) = omega arith in
    let r : next (c / 64) ≡ z = rw cut (omega arith) in
    let s : next c ≡ w = omega arith in
    let long : 65536 ≤ c = elim (cases_lt x 241) [ inl l ↦ (let b : 144 ≤ y = t.5 (omega arith) in omega arith) | inr l ↦ omega arith ] in
    let high : c < 1114112 = elim (cases_lt x 244) [ inl l ↦ omega arith | inr l ↦ (let b : y < 144 = t.6 (omega arith) in omega arith) ] in
    subst IsUtf8 (spelled_by_four c long ∙ (λ i. p i ∷ q i ∷ r i ∷ s i ∷ [])) (IsUtf8-encode c (past_surrogates c (omega arith) high))

-- ---- from a character to its row

-- some row fits what begins with a character past ASCII
abbrev FitsRow : List ℕ → Type 0
FitsRow bs = ((2 ≤ length bs) × AreTwo (get_or bs 0 0) (get_or bs 1 0)) ⊎ (((3 ≤ length bs) × AreThree (get_or bs 0 0) (get_or bs 1 0) (get_or bs 2 0)) ⊎ ((4 ≤ length bs) × AreFour (get_or bs 0 0) (get_or bs 1 0) (get_or bs 2 0) (get_or bs 3 0)))

three_in_row : (c : ℕ) → scalar c ≡ true → 2048 ≤ c → c < 65536 → AreThree (224 + c / 4096) (next (c / 64)) (next c)
three_in_row c ok low high =
    (omega arith, omega arith, (omega arith, omega arith), (omega arith, omega arith), λ e. omega arith, λ e. elim (scalar_cases c ok) [ inl l ↦ omega arith | inr l ↦ omega arith ])

four_in_row : (c : ℕ) → 65536 ≤ c → c < 1114112 → AreFour (240 + c / 262144) (next (c / 4096)) (next (c / 64)) (next c)
four_in_row c low high = (omega arith, omega arith, (omega arith, omega arith), (omega arith, omega arith), (omega arith, omega arith), λ e. omega arith, λ e. omega arith)

below_all : (c : ℕ) → scalar c ≡ true → c < 1114112
below_all c ok = elim (scalar_cases c ok) [ inl l ↦ omega arith | inr l ↦ l.1 ]

fits : (c : ℕ) (rest : List ℕ) → scalar c ≡ true → 128 ≤ get_or (encode c ++ rest) 0 0 → FitsRow (encode c ++ rest)
fits c rest ok past = elim (cases_lt c 128) [
  | inl a ↦ (let e : get_or (encode c ++ rest) 0 0 ≡ c = ap (λ l. get_or (l ++ rest) 0 0) (encode_ascii c a) in absurd (omega arith))
  | inr a ↦ elim (cases_lt c 2048) [
    | inl b ↦ subst (λ l. FitsRow (l ++ rest)) (sym (spelled_by_two c a b)) (inl (omega arith, (omega arith, omega arith, (omega arith, omega arith))))
    | inr b ↦ elim (cases_lt c 65536) [
      | inl d ↦ subst (λ l. FitsRow (l ++ rest)) (sym (spelled_by_three c b d)) (inr (inl (omega arith, three_in_row c ok b d)))
      | inr d ↦ subst (λ l. FitsRow (l ++ rest)) (sym (spelled_by_four c d)) (inr (inr (omega arith, four_in_row c d (below_all c ok))))
    ]
  ]
]

-- ---- at the front of some bytes

module _ (bs : List ℕ) where
  abbrev at : ℕ → ℕ
  at i = get_or bs i 0

  -- some ASCII at the front
  pub ascii_begins : (n : ℕ) → 0 < n → n ≤ length bs → AreAscii bs 0 n → BeginsText bs n
  ascii_begins n some within a = record { some = some; within = within; front = front_is_text bs n within a }

  pub one_begins : 0 < length bs → at 0 < 128 → BeginsText bs 1
  one_begins l low = ascii_begins 1 (omega arith) l (λ k from to. let e : 0 ≡ k = omega arith in subst (λ i. at i < 128) e low)

  pub none_begins : 128 ≤ at 0 → (2 ≤ length bs → AreTwo (at 0) (at 1) → ⊥) → (3 ≤ length bs → AreThree (at 0) (at 1) (at 2) → ⊥) → (4 ≤ length bs → AreFour (at 0) (at 1) (at 2) (at 3) → ⊥) → StartsWithNoChar bs
  none_begins past two three four c rest ok e = elim (subst FitsRow (sym e) (fits c rest ok (subst (λ l. 128 ≤ get_or l 0 0) e past))) [
    | inl row ↦ two row.0 row.1
    | inr row ↦ elim row [ inl r ↦ three r.0 r.1 | inr r ↦ four r.0 r.1 ]
  ]

-- the front of a list whose first bytes are known
pub two_begin : (bs : List ℕ) → 2 ≤ length bs → AreTwo (get_or bs 0 0) (get_or bs 1 0) → BeginsText bs 2
two_begin [] l t = absurd (omega arith)
two_begin (x ∷ []) l t = absurd (omega arith)
two_begin (x ∷ y ∷ bs) l t = record { some = omega arith; within = l; front = two_are_text x y t }

pub three_begin : (bs : List ℕ) → 3 ≤ length bs → AreThree (get_or bs 0 0) (get_or bs 1 0) (get_or bs 2 0) → BeginsText bs 3
three_begin [] l t = absurd (omega arith)
three_begin (x ∷ []) l t = absurd (omega arith)
three_begin (x ∷ y ∷ []) l t = absurd (omega arith)
three_begin (x ∷ y ∷ z ∷ bs) l t = record { some = omega arith; within = l; front = three_are_text x y z t }

pub four_begin : (bs : List ℕ) → 4 ≤ length bs → AreFour (get_or bs 0 0) (get_or bs 1 0) (get_or bs 2 0) (get_or bs 3 0) → BeginsText bs 4
four_begin [] l t = absurd (omega arith)
four_begin (x ∷ []) l t = absurd (omega arith)
four_begin (x ∷ y ∷ []) l t = absurd (omega arith)
four_begin (x ∷ y ∷ z ∷ []) l t = absurd (omega arith)
four_begin (x ∷ y ∷ z ∷ w ∷ bs) l t = record { some = omega arith; within = l; front = four_are_text x y z w t }

-- ---- a walk that has come to a place: what is after it decides

-- text that doesn't end begins with a character
begins : (cs : List ℕ) (bs : List ℕ) → scalars cs ≡ true → encodes cs ≡ bs → 0 < length bs → StartsWithNoChar bs → ⊥
begins [] bs ok e some none = absurd (omega (arith, ap length e))
begins (c ∷ cs) bs ok e some none = none c (encodes cs) (and_parts (scalar c) (scalars cs) ok).0 (sym e)

module _ (bs : List ℕ) (at : ℕ) (before : at < length bs) (front : IsUtf8 (take at bs)) where
  pub no_further : StartsWithNoChar (drop at bs) → IsUtf8 bs → ⊥
  no_further none whole =
      let rest = IsUtf8-drop bs at whole (IsCharBoundary-from_take bs at whole (omega arith) front) in
      begins rest.0 (drop at bs) rest.1.0 rest.1.1 (omega (arith, length-drop at bs)) none

  pub further : (n : ℕ) → BeginsText (drop at bs) n → (at + n ≤ length bs) × IsUtf8 (take (at + n) bs)
  further n b = (omega (arith, b.within, length-drop at bs), subst IsUtf8 (sym (take-add at n bs)) (IsUtf8-append (take at bs) (take n (drop at bs)) front b.front))
