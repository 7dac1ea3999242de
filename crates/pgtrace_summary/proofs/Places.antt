-- One more run of a statement.
use Rattle.pgtrace_summary.proofs.Common.{◌≡◌, ℕ, Bool, true, false, List, [], ◌∷◌, Some, None, refl, sym, ap, ◌∙◌, inl, inr, if◌then◌else◌, bytes_eq, bytes_eq-Decides, cases_Bool, found, put, Ran, more_of, no_run, tallies_of, tally_of, tallied, nat_list_eq_equiv}
use Rattle.pgtrace_summary.proofs.FoundLemmas.{no_none}

pub turned : (x y : List ℕ) (b : Bool) → bytes_eq x y ≡ b → bytes_eq y x ≡ b
turned x y b e = nat_list_eq_equiv.symm y x ∙ e

-- what is put twice is put the second time
pub put_put : {V : Type 0} (name : List ℕ) (v w : V) (list : List (List ℕ × V)) → put name w (put name v list) ≡ put name w list
put_put name v w [] = rw ((bytes_eq-Decides name name).1 refl) refl
put_put name v w (e ∷ more) =
    elim (cases_Bool (bytes_eq name e.0)) [
      | inl same ↦ rw (same, same) refl
      | inr other ↦ rw (other, other) (ap (λ l. e ∷ l) (put_put name v w more))
    ]

pub some_more : (text : List ℕ) (add had : Ran) (list : List (List ℕ × Ran)) → found text list ≡ Some had
    → tallies_of (put text (more_of add had) list) ≡ tallied (tally_of (text, add)) (tallies_of list)
some_more text add had [] is = absurd (no_none is)
some_more text add had (e ∷ more) is =
    elim (cases_Bool (bytes_eq text e.0)) [
      | inl same ↦ (let x : e.1 ≡ had = here (ap (λ b. if b then Some e.1 else found text more) (sym same) ∙ is) in
          rw (same, turned text e.0 true same) (ap (λ (r : Ran). tally_of (e.0, more_of add r) ∷ tallies_of more) (sym x)))
      | inr other ↦ rw (other, turned text e.0 false other) (ap (λ l. tally_of e ∷ l) (some_more text add had more (ap (λ b. if b then Some e.1 else found text more) (sym other) ∙ is)))
    ]
  where
    here : {x y : Ran} → Some x ≡ Some y → x ≡ y
    here e = cc

pub none_more : (text : List ℕ) (add : Ran) (list : List (List ℕ × Ran)) → found text list ≡ None
    → tallies_of (put text (more_of add no_run) list) ≡ tallied (tally_of (text, add)) (tallies_of list)
none_more text add [] is = refl
none_more text add (e ∷ more) is =
    elim (cases_Bool (bytes_eq text e.0)) [
      | inl same ↦ absurd (no_none (sym (ap (λ b. if b then Some e.1 else found text more) (sym same) ∙ is)))
      | inr other ↦ rw (other, turned text e.0 false other) (ap (λ l. tally_of e ∷ l) (none_more text add more (ap (λ b. if b then Some e.1 else found text more) (sym other) ∙ is)))
    ]
