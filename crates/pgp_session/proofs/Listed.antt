-- Whether a text is one of a list's.
use Rattle.pgp_session.proofs.Common.{◌≡◌, ℕ, zero, suc, Bool, List, [], ◌∷◌, map, refl, arith, inl, inr, Bor, list_any, cases_Bool, Decides, true≢false, sym, ◌∙◌}
use Rattle.std.specs.List.{Contains}

shifted : (y : Bor (List ℕ)) (ys : List (Bor (List ℕ))) (text : List ℕ) → (y.now ≡ text → ⊥) → Contains (map (λ (r : Bor (List ℕ)). r.now) (y ∷ ys)) text → Contains (map (λ (r : Bor (List ℕ)). r.now) ys) text
shifted y ys text other (zero, lt, at) = absurd (other at)
shifted y ys text other (suc k, lt, at) = (k, omega (arith, lt), at)

pub listed : (E : Bor (List ℕ) → Bool) (text : List ℕ) → ((y : Bor (List ℕ)) → Decides (E y) (y.now ≡ text)) → (texts : List (Bor (List ℕ))) → Decides (list_any E texts) (Contains (map (λ (r : Bor (List ℕ)). r.now) texts) text)
listed E text d [] = (λ e. absurd (true≢false (sym e)), λ c. absurd (omega (arith, c.1)))
listed E text d (y ∷ ys) =
    let rest = listed E text d ys in
    elim (cases_Bool (E y)) [
      | inl is ↦ rw is (λ e. (0, omega arith, (d y).0 is), λ c. refl)
      | inr other ↦ rw other (λ e. let r = rest.0 e in (suc r.0, omega (arith, r.1), r.2), λ c. rest.1 (shifted y ys text (λ same. true≢false (sym ((d y).1 same) ∙ other)) c))
    ]
