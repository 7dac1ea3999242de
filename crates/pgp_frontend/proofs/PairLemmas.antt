-- Names and values, one pair more.
use Rattle.pgp_frontend.proofs.Common.{◌≡◌, ℕ, ◌+◌, length, length-append, arith, List, [], ◌∷◌, ◌++◌, Some, None, sym, ap, ◌∙◌, map, flat_map, map-append, text, first, either, text_cause, either_none, either_first, either_then, first_more, first_here, more_parts, more_twice, Held, ◌⊕◌, Error, shown_by, flat_more, pair, pair_cause, part_cause, Pairs}

causes_more : {T : Type 0} (show : T → List ℕ) (xs : List (T × T)) (x : T × T) → map pair_cause (map (shown_by show) (xs ++ x ∷ [])) ≡ map pair_cause (map (shown_by show) xs) ++ pair_cause (shown_by show x) ∷ []
causes_more show xs x = ap (map pair_cause) (map-append (shown_by show) xs (x ∷ [])) ∙ map-append pair_cause (map (shown_by show) xs) (shown_by show x ∷ [])

module _ {T : Type 0} (show : T → List ℕ) (xs : List (T × T)) (name value : T) (n v : List ℕ) (is_name : n ≡ show name) (is_value : v ≡ show value) where
  pub pairs_none : part_cause (Pairs (map (shown_by show) xs)) ≡ None → text_cause n ≡ None → text_cause v ≡ None → part_cause (Pairs (map (shown_by show) (xs ++ (name, value) ∷ []))) ≡ None
  pairs_none h e f =
      let c : either (text_cause (show name)) (text_cause (show value)) ≡ None = either_none (text_cause (show name)) (text_cause (show value)) (ap text_cause (sym is_name) ∙ e) (ap text_cause (sym is_value) ∙ f) in
      ap first (causes_more show xs (name, value)) ∙ first_more (map pair_cause (map (shown_by show) xs)) (pair_cause (shown_by show (name, value))) h c

  pub name_refused : (e : Error) → part_cause (Pairs (map (shown_by show) xs)) ≡ None → text_cause n ≡ Some e → part_cause (Pairs (map (shown_by show) (xs ++ (name, value) ∷ []))) ≡ Some e
  name_refused e h k =
      let c : either (text_cause (show name)) (text_cause (show value)) ≡ Some e = either_first (text_cause (show name)) (text_cause (show value)) e (ap text_cause (sym is_name) ∙ k) in
      ap first (causes_more show xs (name, value)) ∙ first_here (map pair_cause (map (shown_by show) xs)) (pair_cause (shown_by show (name, value))) [] e h c

  pub value_refused : (e : Error) → part_cause (Pairs (map (shown_by show) xs)) ≡ None → text_cause n ≡ None → text_cause v ≡ Some e → part_cause (Pairs (map (shown_by show) (xs ++ (name, value) ∷ []))) ≡ Some e
  value_refused e h j k =
      let c : either (text_cause (show name)) (text_cause (show value)) ≡ Some e = either_then (text_cause (show name)) (text_cause (show value)) (ap text_cause (sym is_name) ∙ j) ∙ (ap text_cause (sym is_value) ∙ k) in
      ap first (causes_more show xs (name, value)) ∙ first_here (map pair_cause (map (shown_by show) xs)) (pair_cause (shown_by show (name, value))) [] e h c

  pub pairs_held : {K : Type 0} (a b d r : Held K) → b ≡ a ⊕ flat_map pair (map (shown_by show) xs) → d ≡ b ⊕ text n → r ≡ d ⊕ text v → r ≡ a ⊕ flat_map pair (map (shown_by show) (xs ++ (name, value) ∷ []))
  pairs_held a b d r e f h =
      let step : r ≡ b ⊕ pair (shown_by show (name, value)) = h ∙ (ap (λ d. d ⊕ text v) f ∙ (more_twice b (text n) (text v) ∙ (ap (λ n. b ⊕ (text n ++ text v)) is_name ∙ ap (λ v. b ⊕ (text (show name) ++ text v)) is_value))) in
      more_parts pair a b r (map (shown_by show) xs) (shown_by show (name, value)) e step ∙ ap (λ ps. a ⊕ flat_map pair ps) (sym (map-append (shown_by show) xs ((name, value) ∷ [])))

  -- what they take, with the 0 byte after them
  pub pairs_length : length (flat_map pair (map (shown_by show) (xs ++ (name, value) ∷ [])) ++ 0 ∷ []) ≡ length (flat_map pair (map (shown_by show) xs)) + length n + length v + 3
  pairs_length =
      let e : length (flat_map pair (map (shown_by show) (xs ++ (name, value) ∷ []))) ≡ length (flat_map pair (map (shown_by show) xs)) + length (pair (shown_by show (name, value))) =
      ap (λ ps. length (flat_map pair ps)) (map-append (shown_by show) xs ((name, value) ∷ [])) ∙ flat_more pair (map (shown_by show) xs) (shown_by show (name, value)) in
      omega (arith, e, length-append (flat_map pair (map (shown_by show) (xs ++ (name, value) ∷ []))) (0 ∷ []), length-append (text (show name)) (text (show value)), length-append (show name) (0 ∷ []), length-append (show value) (0 ∷ []), ap length is_name, ap length is_value)
