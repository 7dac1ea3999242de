-- What is found once something is put under a name, or let go.
use Rattle.pgtrace_summary.proofs.Common.{◌≡◌, ℕ, Bool, true, false, List, [], ◌∷◌, Option, Some, None, refl, ap, sym, subst, ◌∙◌, ◌⊎◌, inl, inr, position, if◌then◌else◌, AllByRecursion, IsDistinct, lookup, bytes_eq, slice_get-get_or, swap_remove_entry, AreApart, found, names_of, put, without}
use Rattle.std.proofs.lemmas.Bool.{cases_Bool}
use Rattle.std.proofs.lemmas.Cmp.{nat_list_eq_equiv}
use Rattle.indexmap.proofs.MapLemmas.{Found-position, swap_remove_entry-found, swap_remove_entry-missing}
use Rattle.indexmap.proofs.RemoveLemmas.{none_out, swap_out}

pub no_none : {A : Type 0} {x : A} → None ≡ Some x → ⊥
no_none e = cc

differs_back : (x y : List ℕ) → bytes_eq x y ≡ false → bytes_eq y x ≡ false
differs_back x y e = nat_list_eq_equiv.symm y x ∙ e

-- one that differs from one of two that are the same differs from the other
differs_too : (x y z : List ℕ) → bytes_eq x y ≡ true → bytes_eq x z ≡ false → bytes_eq y z ≡ false
differs_too x y z same e = sym (nat_list_eq_equiv.congr x y z same) ∙ e

module _ {V : Type 0} where
  pub found_put : (name other : List ℕ) (value : V) (list : List (List ℕ × V)) → found other (put name value list) ≡ (if bytes_eq name other then Some value else found other list)
  found_put name other value [] = ap (λ b. if b then Some value else None) (nat_list_eq_equiv.symm other name)
  found_put name other value (e ∷ more) =
      elim (cases_Bool (bytes_eq name e.0)) [
        | inl same ↦ rw same (at (cases_Bool (bytes_eq name other)) same)
        | inr differs ↦ rw differs (ap (λ r. if bytes_eq other e.0 then Some e.1 else r) (found_put name other value more) ∙ past (cases_Bool (bytes_eq name other)) differs)
      ]
    where
      at : (bytes_eq name other ≡ true) ⊎ (bytes_eq name other ≡ false) → bytes_eq name e.0 ≡ true
          → (if bytes_eq other e.0 then Some value else found other more) ≡ (if bytes_eq name other then Some value else found other (e ∷ more))
      at (inl is) same = rw (is, sym (nat_list_eq_equiv.congr name other e.0 is) ∙ same) refl
      at (inr not) same = rw (not, differs_back e.0 other (differs_too name e.0 other same not)) refl

      past : (bytes_eq name other ≡ true) ⊎ (bytes_eq name other ≡ false) → bytes_eq name e.0 ≡ false
          → (if bytes_eq other e.0 then Some e.1 else (if bytes_eq name other then Some value else found other more)) ≡ (if bytes_eq name other then Some value else found other (e ∷ more))
      past (inl is) differs = rw (is, differs_too name other e.0 is differs) refl
      past (inr not) differs = rw not refl

  found_lookup : (name : List ℕ) (list : List (List ℕ × V)) → found name list ≡ lookup (bytes_eq name) list
  found_lookup name [] = refl
  found_lookup name (e ∷ more) = ap (λ r. if bytes_eq name e.0 then Some e.1 else r) (found_lookup name more)

  without_entry : (name : List ℕ) (list : List (List ℕ × V)) → without name list ≡ swap_remove_entry (bytes_eq name) list
  without_entry name [] = refl
  without_entry name (e ∷ more) = refl

  -- what is left keeps its names apart, and each what it had
  abbrev Left : (name : List ℕ) (list left : List (List ℕ × V)) → Type 0
  Left name list left = ((other : List ℕ) → lookup (bytes_eq other) left ≡ (if bytes_eq name other then None else lookup (bytes_eq other) list)) × AreApart left

  left_at : (name : List ℕ) (list : List (List ℕ × V)) (i : ℕ) → position (bytes_eq name) (names_of list) ≡ Some i → AreApart list → Left name list (swap_remove_entry (bytes_eq name) list)
  left_at name [] i at apart = absurd (no_none at)
  left_at name (e ∷ more) i at apart =
      let entry = slice_get-get_or (e ∷ more) i e (Found-position (bytes_eq name) (e ∷ more) i at).within in
      let out = swap_out bytes_eq nat_list_eq_equiv (bytes_eq name) (nat_list_eq_equiv.congr name) (e ∷ more) i _ at entry apart _ (swap_remove_entry-found (bytes_eq name) (e ∷ more) i _ at) in
      (out.updated.0, out.unique)

  left : (name : List ℕ) (list : List (List ℕ × V)) → AreApart list → Left name list (without name list)
  left name list apart = subst (Left name list) (sym (without_entry name list)) (by (position (bytes_eq name) (names_of list)) refl)
    where
      by : (p : Option ℕ) → position (bytes_eq name) (names_of list) ≡ p → Left name list (swap_remove_entry (bytes_eq name) list)
      by None at =
          let same = swap_remove_entry-missing (bytes_eq name) list at in
          ((none_out bytes_eq nat_list_eq_equiv (bytes_eq name) (nat_list_eq_equiv.congr name) list _ at same).0, subst AreApart (sym same) apart)
      by (Some i) at = left_at name list i at apart

  pub found_without : (name other : List ℕ) (list : List (List ℕ × V)) → AreApart list → found other (without name list) ≡ (if bytes_eq name other then None else found other list)
  found_without name other list apart =
      found_lookup other (without name list) ∙ (left name list apart).0 other ∙ ap (λ r. if bytes_eq name other then None else r) (sym (found_lookup other list))

  pub apart_without : (name : List ℕ) (list : List (List ℕ × V)) → AreApart list → AreApart (without name list)
  apart_without name list apart = (left name list apart).1

  -- a name that differs from a new one and from all others differs from all that are then there
  differs_put : (x name : List ℕ) (value : V) (list : List (List ℕ × V)) → bytes_eq x name ≡ false → AllByRecursion (λ y. bytes_eq x y ≡ false) (names_of list) → AllByRecursion (λ y. bytes_eq x y ≡ false) (names_of (put name value list))
  differs_put x name value [] differs all = (differs, tt)
  differs_put x name value (e ∷ more) differs all = by (bytes_eq name e.0) (differs_put x name value more differs all.1)
    where
      by : (b : Bool) → AllByRecursion (λ y. bytes_eq x y ≡ false) (names_of (put name value more)) → AllByRecursion (λ y. bytes_eq x y ≡ false) (names_of (if b then (e.0, value) ∷ more else e ∷ put name value more))
      by true rest = all
      by false rest = (all.0, rest)

  pub apart_put : (name : List ℕ) (value : V) (list : List (List ℕ × V)) → AreApart list → AreApart (put name value list)
  unfolding IsDistinct
  apart_put name value [] apart = (tt, tt)
  apart_put name value (e ∷ more) apart = by (bytes_eq name e.0) refl (apart_put name value more apart.1)
    where
      by : (b : Bool) → bytes_eq name e.0 ≡ b → AreApart (put name value more) → AreApart (if b then (e.0, value) ∷ more else e ∷ put name value more)
      by true at rest = apart
      by false at rest = (differs_put e.0 name value more (differs_back name e.0 at) apart.0, rest)
