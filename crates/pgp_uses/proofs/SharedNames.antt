-- The client's number ends at the `_`, since no digit is one.
use Rattle.pgp_uses.proofs.Common.{◌≡◌, inl, inr, ℕ, ◌<◌, ◌^◌, List, [], ◌∷◌, ◌++◌, length, refl, sym, subst, arith, decimal, digit_value}
use Rattle.std.proofs.Common.{◌⊎◌}
use Rattle.std.specs.Str.Parse.{AllDigits}
use Rattle.std.proofs.lemmas.Fmt.{decimal_injective, decimal_is_IsNumeral}
use Rattle.pgp_uses.specs.Statements.{shared_name}

no_digit : (y : ℕ) → digit_value y < 10 → 95 ≡ y → ⊥
no_digit y low same = let h : digit_value 95 < 10 = subst (λ k. digit_value k < 10) (sym same) low in absurd (omega (arith, h))

cut_once : (xs ys one other : List ℕ) → AllDigits 10 xs → AllDigits 10 ys → xs ++ 95 ∷ one ≡ ys ++ 95 ∷ other → (xs ≡ ys) × (one ≡ other)
cut_once [] [] one other g h e = (refl, cc)
cut_once [] (y ∷ ys) one other g h e = let same : 95 ≡ y = cc in absurd (no_digit y h.0 same)
cut_once (x ∷ xs) [] one other g h e = let same : 95 ≡ x = cc in absurd (no_digit x g.0 same)
cut_once (x ∷ xs) (y ∷ ys) one other g h e =
    let first : x ≡ y = cc in
    let rest : xs ++ 95 ∷ one ≡ ys ++ 95 ∷ other = cc in
    let r = cut_once xs ys one other g.1 h.1 rest in
    (rw (first, r.0) refl, r.1)

starts : (n : ℕ) (more : List ℕ) → n < 2 ^ 64 → decimal n ++ more ≡ [] → ⊥
starts n more h e = absurd (none (decimal n) (decimal_is_IsNumeral n h).0.0 e) where
  none : (xs : List ℕ) → 0 < length xs → xs ++ more ≡ [] → ⊥
  none [] low e = omega (arith, low)
  none (x ∷ xs) low e = cc

pub names_differ : (client other : ℕ) (name word : List ℕ) → client < 2 ^ 64 → other < 2 ^ 64 → shared_name client name ≡ shared_name other word
    → ((name ≡ []) × (word ≡ [])) ⊎ ((client ≡ other) × (name ≡ word))
names_differ client other [] [] g h e = inl (refl, refl)
names_differ client other [] (b ∷ word) g h e = absurd (starts other (95 ∷ b ∷ word) h (sym e))
names_differ client other (a ∷ name) [] g h e = absurd (starts client (95 ∷ a ∷ name) g e)
names_differ client other (a ∷ name) (b ∷ word) g h e =
    let r = cut_once (decimal client) (decimal other) (a ∷ name) (b ∷ word) (decimal_is_IsNumeral client g).0.1 (decimal_is_IsNumeral other h).0.1 e in
    inr (decimal_injective client other g h r.0, r.1)
