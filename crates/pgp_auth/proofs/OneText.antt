-- A text is written in one way in each form.
use Rattle.pgp_auth.proofs.Common.{◌≡◌, ◌≢◌, ◌==◌, ℕ, ◌<◌, Bool, true, false, not, List, [], ◌∷◌, ◌++◌, refl, sym, ap, ◌∙◌, arith, inl, inr, Some, slice_get, cases_Bool, ne_eqb, eq-eqb, Body, empty, join, two_quotes, two_slashes, itself, Quoted, Literal, plain, escape, IsPlain, is_doubled, doubled}
use Rattle.std.proofs.Common.{◌↔◌}

quote_doubled : (q : ℕ) (s : Bool) → is_doubled q s q ≡ true
quote_doubled q true = rw (eq-eqb q q refl) refl
quote_doubled q false = eq-eqb q q refl

slash_doubled : (q : ℕ) (s : Bool) → s ≡ true → is_doubled q s 92 ≡ true
slash_doubled q false off = cc
slash_doubled q true on = elim (cases_Bool (92 == q)) [
  | inl yes_ ↦ rw yes_ refl
  | inr no_ ↦ rw no_ refl
]

kept : (q : ℕ) (s : Bool) (c : ℕ) → c ≢ q → (s ≡ true → c ≢ 92) → is_doubled q s c ≡ false
kept q true c other no_slash = rw (ne_eqb c q other, ne_eqb c 92 (no_slash refl)) refl
kept q false c other no_slash = ne_eqb c q other

-- what stands between the quotes is the doubled text
body_is : (q : ℕ) (s : Bool) (b z : List ℕ) → Body q s b z → b ≡ doubled q s z
unfolding doubled
body_is q s _ _ empty = refl
body_is q s _ _ (join {body = b} {z = z} two_quotes h) = rw (quote_doubled q s) (ap (λ l. q ∷ q ∷ l) (body_is q s b z h))
body_is q s _ _ (join {body = b} {z = z} (two_slashes on) h) = rw (slash_doubled q s on) (ap (λ l. 92 ∷ 92 ∷ l) (body_is q s b z h))
body_is q s _ _ (join {body = b} {z = z} (itself {c} other no_slash) h) = rw (kept q s c other no_slash) (ap (λ l. c ∷ l) (body_is q s b z h))

quoted_is : (q : ℕ) (s : Bool) (t z : List ℕ) → Quoted q s t z → t ≡ q ∷ (doubled q s z ++ q ∷ [])
quoted_is q s t z h = h.text_is ∙ ap (λ b. q ∷ (b ++ q ∷ [])) (body_is q s h.body z h.reads)

pub one_quoted : (q : ℕ) (s : Bool) (t u z : List ℕ) → Quoted q s t z → Quoted q s u z → t ≡ u
one_quoted q s t u z a b = quoted_is q s t z a ∙ sym (quoted_is q s u z b)

begins : (q : ℕ) (s : Bool) (t z : List ℕ) → Quoted q s t z → slice_get t 0 ≡ Some q
begins q s t z h = rw (h.text_is) refl

unequal : (n m : ℕ) → n < m → Some n ≡ Some m → ⊥
unequal n m less e =
    let same : n ≡ m = cc in
    omega arith

pub one_literal : (on : Bool) (t u z : List ℕ) → Literal on t z → Literal on u z → (IsPlain t ↔ IsPlain u) → t ≡ u
one_literal on t u z (plain a) (plain b) same = one_quoted 39 (not on) t u z a b
one_literal on t _ z (plain a) (escape {text = u} b) same = absurd (unequal 32 39 (omega arith) (same.0 (begins 39 (not on) t z a)))
one_literal on _ u z (escape {text = t} a) (plain b) same = absurd (unequal 32 39 (omega arith) (same.1 (begins 39 (not on) u z b)))
one_literal on _ _ z (escape {text = t} a) (escape {text = u} b) same = ap (λ l. 32 ∷ 69 ∷ l) (one_quoted 39 true t u z a b)
