-- Parts after parts, and a front of a list's items with the item after it.
use Rattle.pgp_message_write.proofs.Common.{◌≡◌, ℕ, ◌+◌, ◌<◌, List, [], ◌∷◌, ◌++◌, length, map, take, drop, Some, None, sym, ap, ◌∙◌, get_or, arith, inl, inr, length-append, subst, flat_map, take_more, map-append, append-nil, take-append-drop, drop_more, flat_map-append, first, Held, ◌⊕◌, Error, first-append, either_first, either_then, memory_more, memory_then, more_twice, Part, spelling, part_cause, parts_cause, joined, PutsParts, PartsRefused}
use Rattle.std.proofs.lemmas.List.{append_cancel_left}
use Rattle.pgp_base.proofs.Parts.{more_bytes}

pub joined-append : (ps qs : List Part) → joined (ps ++ qs) ≡ joined ps ++ joined qs
joined-append ps qs = flat_map-append spelling ps qs

cause-append : (ps qs : List Part) → parts_cause (ps ++ qs) ≡ first (map part_cause ps ++ map part_cause qs)
cause-append ps qs = ap first (map-append part_cause ps qs)

-- where the first parts have no cause, the first cause is that of the others
pub cause_behind : (ps qs : List Part) → parts_cause ps ≡ None → parts_cause (ps ++ qs) ≡ parts_cause qs
cause_behind ps qs h = cause-append ps qs ∙ (first-append (map part_cause ps) (map part_cause qs) ∙ either_then (parts_cause ps) (parts_cause qs) h)

pub cause_before : (ps qs : List Part) (e : Error) → parts_cause ps ≡ Some e → parts_cause (ps ++ qs) ≡ Some e
cause_before ps qs e h = cause-append ps qs ∙ (first-append (map part_cause ps) (map part_cause qs) ∙ either_first (parts_cause ps) (parts_cause qs) e h)

-- what stands after the same bytes is the same
pub same_more : {K : Type 0} (a b : Held K) (p q : List ℕ) → b ≡ a ⊕ p → b ≡ a ⊕ q → p ≡ q
same_more a b p q e f = append_cancel_left a.bytes p q (sym (more_bytes a p) ∙ (ap (λ h. h.bytes) (sym e ∙ f) ∙ more_bytes a q))

module _ {K : Type 0} where
  pub puts_then : (ps qs : List Part) (a b c : Held K) → PutsParts ps a b → PutsParts qs b c → PutsParts (ps ++ qs) a c
  puts_then ps qs a b c p q = (
    cause_behind ps qs p.0 ∙ q.0,
    q.1 ∙ (ap (λ held. held ⊕ joined qs) p.1 ∙ (more_twice a (joined ps) (joined qs) ∙ ap (λ z. a ⊕ z) (sym (joined-append ps qs)))),
  )

module _ {K : Type 0} {lacks : Held K → ℕ → Type 0} where
  -- the first parts were rejected
  pub refused_before : (ps qs : List Part) (a : Held K) (e : Error) → PartsRefused ps lacks a e → PartsRefused (ps ++ qs) lacks a e
  refused_before ps qs a e (inl w) = inl (memory_more a _ _ e (omega (arith, ap length (joined-append ps qs), length-append (joined ps) (joined qs))) w)
  refused_before ps qs a e (inr h) = inr (cause_before ps qs e h)

  -- those after them were
  pub refused_behind : (ps qs : List Part) (a b : Held K) (e : Error) → PutsParts ps a b → PartsRefused qs lacks b e → PartsRefused (ps ++ qs) lacks a e
  refused_behind ps qs a b e p (inl w) = inl (memory_then a b (joined ps) _ _ e p.1 (omega (arith, ap length (joined-append ps qs), length-append (joined ps) (joined qs))) w)
  refused_behind ps qs a b e p (inr h) = inr (cause_behind ps qs p.0 ∙ h)

-- The items of a list.
module _ {D : Type 0} (parts : D → List Part) where
  pub items_more : (xs : List D) (i : ℕ) (d : D) → i < length xs → flat_map parts (take (i + 1) xs) ≡ flat_map parts (take i xs) ++ parts (get_or xs i d)
  items_more xs i d h =
      ap (flat_map parts) (take_more xs i d h)
      ∙ (flat_map-append parts (take i xs) (get_or xs i d ∷ []) ∙ ap (λ ps. flat_map parts (take i xs) ++ ps) (append-nil (parts (get_or xs i d))))

  pub items_split : (xs : List D) (i : ℕ) (d : D) → i < length xs → flat_map parts xs ≡ flat_map parts (take i xs) ++ (parts (get_or xs i d) ++ flat_map parts (drop (i + 1) xs))
  items_split xs i d h =
      ap (flat_map parts) (sym (take-append-drop i xs) ∙ ap (λ rest. take i xs ++ rest) (drop_more xs i d h))
      ∙ flat_map-append parts (take i xs) (get_or xs i d ∷ drop (i + 1) xs)

  -- x is the item at i
  module _ (xs : List D) (i : ℕ) (x d : D) (h : i < length xs) (is : x ≡ get_or xs i d) where
    pub items_put : {K : Type 0} (a b c : Held K) → PutsParts (flat_map parts (take i xs)) a b → PutsParts (parts x) b c → PutsParts (flat_map parts (take (i + 1) xs)) a c
    items_put a b c p q =
        subst (λ ps. PutsParts ps a c) (ap (λ x. flat_map parts (take i xs) ++ parts x) is ∙ sym (items_more xs i d h)) (puts_then (flat_map parts (take i xs)) (parts x) a b c p q)

    pub items_refused : {K : Type 0} {lacks : Held K → ℕ → Type 0} (a b : Held K) (e : Error) → PutsParts (flat_map parts (take i xs)) a b → PartsRefused (parts x) lacks b e → PartsRefused (flat_map parts xs) lacks a e
    items_refused {lacks = lacks} a b e p r =
        let before = flat_map parts (take i xs) in
        let later = flat_map parts (drop (i + 1) xs) in
        subst (λ ps. PartsRefused ps lacks a e) (ap (λ x. before ++ (parts x ++ later)) is ∙ sym (items_split xs i d h)) (refused_behind before (parts x ++ later) a b e p (refused_before (parts x) later b e r))
