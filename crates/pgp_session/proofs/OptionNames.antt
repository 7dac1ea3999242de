-- The protocol options of a startup packet, one more name with each step, and where no answer is due.
use Rattle.pgp_session.proofs.Common.{◌≡◌, ℕ, List, [], ◌∷◌, ◌++◌, map, refl, sym, ap, ◌∙◌, append_assoc, append-nil, Walk, TakesItem, filter, filter-append, is_option}
use Rattle.std.proofs.lemmas.List.{map-append}
use Rattle.pgp_session.proofs.Common.{true, None, Held, ◌⊕◌, nothing_more}
use Rattle.pgp_session.specs.ServingVersions.{answered, cause_of, has_all}

-- these pairs came, and those are the options among their names
pub record HasListed (from now : Walk (List ℕ × List ℕ)) (names : List (List ℕ)) : Type 0 where
  pub taken : List (List ℕ × List ℕ)
  pub items : from.items ≡ taken ++ now.items
  pub names_are : names ≡ filter is_option (map (λ (p : List ℕ × List ℕ). p.0) taken)

pub none_listed : (w : Walk (List ℕ × List ℕ)) (names : List (List ℕ)) → names ≡ [] → HasListed w w names
none_listed w names none = record { taken = []; items = refl; names_are = none }

-- one more came
pub one_listed : (name value : List ℕ) (from now next : Walk (List ℕ × List ℕ)) (before after : List (List ℕ))
    → HasListed from now before → TakesItem now (name, value) next → after ≡ before ++ filter is_option (name ∷ []) → HasListed from next after
one_listed name value from now next before after h t is = record {
  taken = h.taken ++ (name, value) ∷ [];
  items = h.items ∙ (ap (λ l. h.taken ++ l) t.items ∙ sym (append_assoc h.taken ((name, value) ∷ []) next.items));
  names_are = is ∙ ap (λ l. l ++ filter is_option (name ∷ [])) h.names_are ∙ sym (filter-append is_option (map (λ (p : List ℕ × List ℕ). p.0) h.taken) (name ∷ []))
      ∙ ap (λ (l : List (List ℕ)). filter is_option l) (sym (map-append (λ (p : List ℕ × List ℕ). p.0) h.taken ((name, value) ∷ [])));
}

-- all came
pub all_listed : (from now : Walk (List ℕ × List ℕ)) (names : List (List ℕ)) → HasListed from now names → now.items ≡ [] → names ≡ filter is_option (map (λ (p : List ℕ × List ℕ). p.0) from.items)
all_listed from now names h e =
    let all : from.items ≡ h.taken = h.items ∙ (ap (λ l. h.taken ++ l) e ∙ append-nil h.taken) in
    h.names_are ∙ ap (λ (l : List (List ℕ × List ℕ)). filter is_option (map (λ (p : List ℕ × List ℕ). p.0) l)) (sym all)

-- nothing is appended where no answer is due
pub none_due : {K : Type 0} (minor : ℕ) (options : List (List ℕ)) (here : Held K) → has_all minor options ≡ true → (cause_of minor options ≡ None) × (here ≡ here ⊕ answered minor options)
none_due minor options here all = rw all (refl, sym (nothing_more here))
