-- Items of a list that are written one after another: a front of them, and one more.
use Rattle.for_c.proofs.Common.{◌≡◌, ℕ, ◌+◌, ◌<◌, ◌≤◌, List, [], ◌∷◌, ◌++◌, length, map, take, drop, Some, None, sym, ap, ◌∙◌, get_or, arith, length-append, take_more, map-append, take-append-drop, drop_more, flat_map, flat_map-append, Cause, first, Wants, WantsMemory, Held, ◌⊕◌, Error, first_more, first_here, memory_then, more_parts}

-- the values of one item more, and all of them around one
values_more : {X Y : Type 0} (of : X → Y) (xs : List X) (i : ℕ) (d : X) → i < length xs → map of (take (i + 1) xs) ≡ map of (take i xs) ++ of (get_or xs i d) ∷ []
values_more of xs i d h = ap (map of) (take_more xs i d h) ∙ map-append of (take i xs) (get_or xs i d ∷ [])

values_split : {X Y : Type 0} (of : X → Y) (xs : List X) (i : ℕ) (d : X) → i < length xs → map of xs ≡ map of (take i xs) ++ of (get_or xs i d) ∷ map of (drop (i + 1) xs)
values_split of xs i d h =
    ap (map of) (sym (take-append-drop i xs) ∙ ap (λ rest. take i xs ++ rest) (drop_more xs i d h)) ∙ map-append of (take i xs) (get_or xs i d ∷ drop (i + 1) xs)

pub items_none : {X Y : Type 0} (of : X → Y) (cause : Y → Cause) (xs : List X) (i : ℕ) (d : X) → i < length xs → first (map cause (map of (take i xs))) ≡ None → cause (of (get_or xs i d)) ≡ None
    → first (map cause (map of (take (i + 1) xs))) ≡ None
items_none of cause xs i d h e f =
    ap (λ l. first (map cause l)) (values_more of xs i d h)
    ∙ (ap first (map-append cause (map of (take i xs)) (of (get_or xs i d) ∷ [])) ∙ first_more (map cause (map of (take i xs))) (cause (of (get_or xs i d))) e f)

pub items_joined : {X Y K : Type 0} (of : X → Y) (bytes : Y → List ℕ) (xs : List X) (i : ℕ) (d : X) (old b c : Held K) → i < length xs → b ≡ old ⊕ flat_map bytes (map of (take i xs)) → c ≡ b ⊕ bytes (of (get_or xs i d))
    → c ≡ old ⊕ flat_map bytes (map of (take (i + 1) xs))
items_joined of bytes xs i d old b c h e f =
    more_parts bytes old b c (map of (take i xs)) (of (get_or xs i d)) e f ∙ ap (λ l. old ⊕ flat_map bytes l) (sym (values_more of xs i d h))

pub items_refused : {X Y : Type 0} (of : X → Y) (cause : Y → Cause) (xs : List X) (i : ℕ) (d : X) (e : Error) → i < length xs → first (map cause (map of (take i xs))) ≡ None → cause (of (get_or xs i d)) ≡ Some e
    → first (map cause (map of xs)) ≡ Some e
items_refused of cause xs i d e h f k =
    ap (λ l. first (map cause l)) (values_split of xs i d h)
    ∙ (ap first (map-append cause (map of (take i xs)) (of (get_or xs i d) ∷ map of (drop (i + 1) xs)))
    ∙ first_here (map cause (map of (take i xs))) (cause (of (get_or xs i d))) (map cause (map of (drop (i + 1) xs))) e f k)

-- what a front of the items and the next one take
need : {X Y : Type 0} (of : X → Y) (bytes : Y → List ℕ) (xs : List X) (i : ℕ) (d : X) → i < length xs
    → length (flat_map bytes (map of (take i xs))) + length (bytes (of (get_or xs i d))) ≤ length (flat_map bytes (map of xs))
need of bytes xs i d h =
    let there = flat_map bytes (map of (take i xs)) in
    let here = bytes (of (get_or xs i d)) in
    let behind = flat_map bytes (map of (drop (i + 1) xs)) in
    let e : flat_map bytes (map of xs) ≡ there ++ (here ++ behind) =
    ap (flat_map bytes) (values_split of xs i d h) ∙ flat_map-append bytes (map of (take i xs)) (of (get_or xs i d) ∷ map of (drop (i + 1) xs)) in
    omega (arith, ap length e, length-append there (here ++ behind), length-append here behind)

pub items_want : {X Y K : Type 0} {lacks : Held K → ℕ → Type 0} (of : X → Y) (bytes : Y → List ℕ) (xs : List X) (i : ℕ) (d : X) (old b : Held K) (e : Error) → i < length xs → b ≡ old ⊕ flat_map bytes (map of (take i xs))
    → WantsMemory (Wants lacks b (length (bytes (of (get_or xs i d))))) e → WantsMemory (Wants lacks old (length (flat_map bytes (map of xs)))) e
items_want of bytes xs i d old b e h s w = memory_then old b (flat_map bytes (map of (take i xs))) _ _ e s (need of bytes xs i d h) w
