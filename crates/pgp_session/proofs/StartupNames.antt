-- The names of a startup packet, one more with each step.
use Rattle.pgp_session.proofs.Common.{◌≡◌, ◌≢◌, ℕ, List, [], ◌∷◌, ◌++◌, Option, Some, None, refl, sym, ap, subst, ◌∙◌, inl, inr, append_assoc, append-nil, Walk, TakesItem, NamesLast, NoneStands, OneStands, OtherStands, IsNewer}

-- these pairs came, and the last of them with this name is that
pub record HasNamed (key : List ℕ) (from now : Walk (List ℕ × List ℕ)) (last : Option (List ℕ)) : Type 0 where
  pub taken : List (List ℕ × List ℕ)
  pub items : from.items ≡ taken ++ now.items
  pub last_is : NamesLast key taken last

pub none_named : (key : List ℕ) (w : Walk (List ℕ × List ℕ)) → HasNamed key w w None
none_named key w = record { taken = []; items = refl; last_is = NoneStands }

module _ (key name value : List ℕ) (taken : List (List ℕ × List ℕ)) (before after : Option (List ℕ)) where
  is_one : name ≡ key → after ≡ Some value → NamesLast key taken before → NamesLast key (taken ++ ((name, value) ∷ [])) after
  is_one e f h =
      let one : NamesLast key (taken ++ ((name, value) ∷ [])) (Some value) = subst (λ (k : List ℕ). NamesLast key (taken ++ ((k, value) ∷ [])) (Some value)) (sym e) (OneStands h) in
      subst (λ (o : Option (List ℕ)). NamesLast key (taken ++ ((name, value) ∷ [])) o) (sym f) one

  is_other : name ≢ key → after ≡ before → NamesLast key taken before → NamesLast key (taken ++ ((name, value) ∷ [])) after
  is_other n f h = subst (λ (o : Option (List ℕ)). NamesLast key (taken ++ ((name, value) ∷ [])) o) (sym f) (OtherStands name value n h)

-- one more came
pub one_named : (key name value : List ℕ) (from now next : Walk (List ℕ × List ℕ)) (before after : Option (List ℕ))
    → HasNamed key from now before → TakesItem now (name, value) next → IsNewer key name value before after → HasNamed key from next after
one_named key name value from now next before after h t newer = record {
  taken = h.taken ++ (name, value) ∷ [];
  items = h.items ∙ (ap (λ l. h.taken ++ l) t.items ∙ sym (append_assoc h.taken ((name, value) ∷ []) next.items));
  last_is = elim newer [
    | inl e ↦ is_one key name value h.taken before after e.0 e.1 h.last_is
    | inr n ↦ is_other key name value h.taken before after n.0 n.1 h.last_is
  ];
}

-- all came
pub all_named : (key : List ℕ) (from now : Walk (List ℕ × List ℕ)) (last : Option (List ℕ)) → HasNamed key from now last → now.items ≡ [] → NamesLast key from.items last
all_named key from now last h e =
    let all : from.items ≡ h.taken = h.items ∙ (ap (λ l. h.taken ++ l) e ∙ append-nil h.taken) in
    subst (λ (l : List (List ℕ × List ℕ)). NamesLast key l last) (sym all) h.last_is
