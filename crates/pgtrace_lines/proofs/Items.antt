-- The parts of a line, a part and an item at a time.
use Rattle.pgtrace_lines.proofs.Common.{◌≡◌, ℕ, List, [], ◌∷◌, ◌++◌, refl, sym, ap, ◌∙◌, Error, Walk, TakesItem, IsFinished, IsRefused, Style, Part, extended, followed, closed, ending, refused}

-- parts after parts
pub followed_join : (style : Style) (line : List ℕ) (ps qs : List Part) → followed style line (ps ++ qs) ≡ followed style (followed style line ps) qs
followed_join style line [] qs = refl
followed_join style line (p ∷ ps) qs = followed_join style (extended style line p) ps qs

-- an item came
pub item_more : {V : Type 0} (style : Style) (close : Part) (parts : V → List Part) (old new all : List ℕ) (before after : Walk V) (x : V)
    → followed style old (closed close parts before.items before.end) ≡ all → TakesItem before x after → new ≡ followed style old (parts x) → followed style new (closed close parts after.items after.end) ≡ all
item_more style close parts old new all before after x so_far takes grown =
    let items : closed close parts before.items before.end ≡ parts x ++ closed close parts after.items after.end =
    ap (λ l. closed close parts l before.end) takes.items ∙ ap (λ e. parts x ++ closed close parts after.items e) (sym takes.end) in
    ap (λ l. followed style l (closed close parts after.items after.end)) grown
    ∙ sym (followed_join style old (parts x) (closed close parts after.items after.end)) ∙ ap (followed style old) (sym items) ∙ so_far

-- none is left
pub items_end : {V : Type 0} (style : Style) (close : Part) (parts : V → List Part) (old new all : List ℕ) (before after : Walk V)
    → followed style old (closed close parts before.items before.end) ≡ all → IsFinished before after → new ≡ followed style old (close ∷ []) → new ≡ all
items_end style close parts old new all before after so_far ends grown =
    let none : closed close parts before.items before.end ≡ close ∷ [] = ap (λ l. closed close parts l before.end) ends.items ∙ ap (ending close) ends.end in
    grown ∙ ap (followed style old) (sym none) ∙ so_far

-- the list breaks off
pub items_fault : {V : Type 0} (style : Style) (close : Part) (parts : V → List Part) (old new all : List ℕ) (before after : Walk V) (e : Error)
    → followed style old (closed close parts before.items before.end) ≡ all → IsRefused before e after → new ≡ followed style old (close ∷ refused e) → new ≡ all
items_fault style close parts old new all before after e so_far ends grown =
    let none : closed close parts before.items before.end ≡ close ∷ refused e = ap (λ l. closed close parts l before.end) ends.items ∙ ap (ending close) ends.end in
    grown ∙ ap (followed style old) (sym none) ∙ so_far
