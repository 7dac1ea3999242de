-- A name among the items of a walk.
use Rattle.std.proofs.Common.{◌≡◌, ℕ, zero, suc, Bool, true, false, List, [], ◌∷◌, ◌++◌, Some, None, refl, sym, ap, subst, ◌∙◌, inl, inr, arith, Contains, append_assoc}
use Rattle.std.proofs.lemmas.List.{append-nil}
use Rattle.std.proofs.lemmas.List.Elements.{Contains-append_left, Contains-append_right, Contains-append_cases}
use Rattle.pgp_base.specs.Walk.{Walk, TakesItem, IsFinished, IsRefused}
use Rattle.pgp_base.specs.declared.error.Error.{Error}

-- these items came, and among them the name was found or wasn't
pub record HasSought (name : List ℕ) (from : Walk (List ℕ)) (found : Bool) (now : Walk (List ℕ)) : Type 0 where
  pub taken : List (List ℕ)
  pub items : from.items ≡ taken ++ now.items
  pub end : now.end ≡ from.end
  pub yes : found ≡ true → Contains taken name
  pub no : found ≡ false → Contains taken name → ⊥

nothing_in : {X : Type 0} (x : X) → Contains [] x → ⊥
nothing_in x c = absurd (let below = c.1 in omega (arith, below))

at_front : {X : Type 0} (x : X) → Contains (x ∷ []) x
at_front x = (0, omega arith, refl)

pub only_it : {X : Type 0} (x y : X) → Contains (x ∷ []) y → x ≡ y
only_it x y (zero, below, is) = is
only_it x y (suc k, below, is) = absurd (omega (arith, below))

pub none_sought : (name : List ℕ) (w : Walk (List ℕ)) → HasSought name w false w
none_sought name w = record { taken = []; items = refl; end = refl; yes = λ e. absurd cc; no = λ e c. nothing_in name c }

-- one more came: the name was found before, or this is it
pub one_sought : (name : List ℕ) (from now next : Walk (List ℕ)) (found after : Bool) (x : List ℕ)
    → HasSought name from found now → TakesItem now x next → (found ≡ true → after ≡ true) → (found ≡ false → after ≡ true → x ≡ name) → (after ≡ false → (found ≡ false) × ¬ (x ≡ name)) → HasSought name from after next
one_sought name from now next found after x h t stays finds misses = record {
  taken = h.taken ++ x ∷ [];
  items = h.items ∙ (ap (λ l. h.taken ++ l) t.items ∙ sym (append_assoc h.taken (x ∷ []) next.items));
  end = t.end ∙ h.end;
  yes = λ e. elim found as (λ b. (b ≡ true → Contains h.taken name) → (b ≡ false → after ≡ true → x ≡ name) → Contains (h.taken ++ x ∷ []) name) [
    | true ↦ λ y f. Contains-append_left h.taken (x ∷ []) name (y refl)
    | false ↦ λ y f. Contains-append_right h.taken (x ∷ []) name (subst (λ (n : List ℕ). Contains (x ∷ []) n) (f refl e) (at_front x))
  ] h.yes finds;
  no = λ e c. elim (Contains-append_cases h.taken (x ∷ []) name c) [
    | inl before ↦ h.no (misses e).0 before
    | inr last ↦ (misses e).1 (only_it x name last)
  ];
}

-- all came
pub all_sought : (name : List ℕ) (from now next : Walk (List ℕ)) (found : Bool) → HasSought name from found now → IsFinished now next
    → (from.end ≡ None) × ((found ≡ true → Contains from.items name) × (found ≡ false → Contains from.items name → ⊥))
all_sought name from now next found h t =
    let all : from.items ≡ h.taken = h.items ∙ (ap (λ l. h.taken ++ l) t.items ∙ append-nil h.taken) in
    (sym h.end ∙ t.end, (λ e. subst (λ (l : List (List ℕ)). Contains l name) (sym all) (h.yes e), λ e c. h.no e (subst (λ (l : List (List ℕ)). Contains l name) all c)))

-- the walk was rejected, so it doesn't end well
pub refused_sought : (name : List ℕ) (from now next : Walk (List ℕ)) (e : Error) (found : Bool) → HasSought name from found now → IsRefused now e next → from.end ≡ None → ⊥
refused_sought name from now next e found h t none = absurd (let both : Some e ≡ None = sym t.end ∙ (h.end ∙ none) in cc)
