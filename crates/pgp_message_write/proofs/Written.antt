-- What the writer of a list appends is the message of its items.
use Rattle.pgp_message_write.proofs.Common.{◌≡◌, ℕ, List, [], ◌∷◌, ◌++◌, length, map, Some, None, sym, ap, ◌∙◌, subst, Result, flat_map, append-nil, length-map, flat_map-map, uint16, frame, Cause, count_cause, Writes, Held, Error, either_then, Part, Byte, Rest, joined, frame_cause, WritesFrame, Message, tag_of, with_list, parts, bytes_of, WritesList}
use Rattle.pgp_message_write.proofs.Lists.{joined-append}

-- the parts ps, which are spelled as the message is, were written
pub list_written : {K : Type 0} (m : Message) (count : Cause) (ps qs : List Part) (lacks : Held K → ℕ → Type 0) (old new : Held K) (result : Result (Unit {0}) Error)
    → count ≡ None → ps ≡ qs → joined qs ≡ joined (parts m) → WritesFrame (Some (tag_of m)) ps lacks old new result → WritesList m count qs lacks old new result
list_written m count ps qs lacks old new result none same spelled w =
    subst (λ c. Writes (bytes_of m) c lacks old new result) (sym (either_then count (frame_cause qs) none))
    (subst (λ body. Writes (frame (tag_of m) body) (frame_cause qs) lacks old new result) spelled (subst (λ ps. WritesFrame (Some (tag_of m)) ps lacks old new result) same w))

-- the items after their count
pub counted_joined : (count : List ℕ) (items : List Part) → joined (Rest count ∷ (items ++ [])) ≡ joined (Rest count ∷ Rest (joined items) ∷ [])
counted_joined count items = ap (λ z. count ++ z) (joined-append items [])

-- the items, and a 0 byte after them
pub marked_joined : (items : List Part) → joined (items ++ Byte 0 ∷ []) ≡ joined (Rest (joined items ++ 0 ∷ []) ∷ [])
marked_joined items = joined-append items (Byte 0 ∷ []) ∙ sym (append-nil (joined items ++ 0 ∷ []))

-- the same of what a view makes of them
module _ {D A : Type 0} (view : D → A) (item : A → List Part) (xs : List D) where
  pub viewed : (head tail : List Part) → with_list head (flat_map (λ x. item (view x)) xs) tail ≡ with_list head (flat_map item (map view xs)) tail
  viewed head tail = ap (λ items. head ++ (items ++ tail)) (sym (flat_map-map item view xs))

  pub viewed_counted : with_list (Rest (uint16 (length xs)) ∷ []) (flat_map (λ x. item (view x)) xs) [] ≡ with_list (Rest (uint16 (length (map view xs))) ∷ []) (flat_map item (map view xs)) []
  viewed_counted = viewed (Rest (uint16 (length xs)) ∷ []) [] ∙ ap (λ n. with_list (Rest (uint16 n) ∷ []) (flat_map item (map view xs)) []) (sym (length-map xs view))

  pub few : count_cause (length xs) ≡ None → count_cause (length (map view xs)) ≡ None
  few h = ap count_cause (length-map xs view) ∙ h
