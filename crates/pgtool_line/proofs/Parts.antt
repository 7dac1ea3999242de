-- Lists, one element after another.
use Rattle.pgtool_line.proofs.Common.{◌≡◌, ℕ, ◌+◌, ◌<◌, List, [], ◌∷◌, ◌++◌, length, take, get_or, sym, ap, ◌∙◌, append_assoc, flat_map, append-nil, take_more, flat_map-cons, flat_map-append}

-- one element more
pub one_more : (f : ℕ → List ℕ) (xs : List ℕ) (i d : ℕ) → i < length xs → flat_map f (take (i + 1) xs) ≡ flat_map f (take i xs) ++ f (get_or xs i d)
one_more f xs i d lt =
    ap (flat_map f) (take_more xs i d lt) ∙ flat_map-append f (take i xs) (get_or xs i d ∷ [])
    ∙ ap (λ l. flat_map f (take i xs) ++ l) (flat_map-cons f (get_or xs i d) [] ∙ append-nil (f (get_or xs i d)))

-- and its part of a text
pub text_more : (f : ℕ → List ℕ) (xs before old new : List ℕ) (i d : ℕ) → i < length xs → old ≡ before ++ flat_map f (take i xs) → new ≡ old ++ f (get_or xs i d) → new ≡ before ++ flat_map f (take (i + 1) xs)
text_more f xs before old new i d lt so_far grown =
    grown ∙ ap (λ l. l ++ f (get_or xs i d)) so_far ∙ append_assoc before (flat_map f (take i xs)) (f (get_or xs i d)) ∙ ap (λ l. before ++ l) (sym (one_more f xs i d lt))
