use Rattle.pgp_value_text.proofs.Common.{◌≡◌, ℕ, List, None, ap, ◌∙◌, sym, subst, refl, rules, ◌++◌, length, ShowsArray, ShowsElement, all_bounds, placed, ShowsEach, hint_of}
use Rattle.pgp_value_text.proofs.Elements.{array_none, array_shown}
use Rattle.pgp_value_text.proofs.Texts.{tells_one}
use Rattle.pgp_value_text.proofs.array.put_elements.Goals as goal

pub returns-then-branch : goal.returns-then-branch
returns-then-branch g c =
    let a = c.args.array.now in
    let n = c.size_hint-size.result.0 in
    let bounds = c.push_all_bounds.new.out.items in
    let same : n ≡ (hint_of a.values.announced).0 = search rules in
    let is : bounds ≡ all_bounds a.dimensions.items = c.in_ok-push_all_bounds.ensures.ok ∙ ap (λ l. l ++ all_bounds a.dimensions.items) c.new-shown.ensures.items in
    let pushed : (a.values.end ≡ None) × (length a.values.items ≡ n) × ShowsEach (ShowsElement a.element_type) (placed a.element_type n a.dimensions.items) 0 a.values.items bounds c.push_elements.new.out.items =
    rw c.if-branch.true at c.in_ok-push_elements.ensures in
    tells_one _ _ _ c.as_slice.result.now (ShowsArray a) c.put_raw.result
    (subst (ShowsArray a) (sym c.as_slice.ensures) (array_shown a n bounds c.if-size-eq0.false same is c.push_elements.new.out.items pushed)) c.put_raw.ensures

pub returns : goal.returns
returns g c =
    let a = c.args.array.now in
    let n = c.size_hint-size.result.0 in
    let bounds = c.push_all_bounds.new.out.items in
    let same : n ≡ (hint_of a.values.announced).0 = search rules in
    let is : bounds ≡ all_bounds a.dimensions.items = c.in_ok-push_all_bounds.ensures.ok ∙ ap (λ l. l ++ all_bounds a.dimensions.items) c.new-shown.ensures.items in
    let none : a.values.end ≡ None → length a.values.items ≡ n → (t : List ℕ) → ShowsEach (ShowsElement a.element_type) (placed a.element_type n a.dimensions.items) 0 a.values.items bounds t → ⊥ =
    rw c.if-branch.false at c.in_ok-push_elements.ensures in
    (array_none a n bounds c.if-size-eq0.false same is none, refl)
