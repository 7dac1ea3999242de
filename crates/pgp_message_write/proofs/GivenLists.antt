-- Lists whose items come from an iterator.
use Rattle.pgp_message_write.proofs.Common.{◌≡◌, ℕ, ◌+◌, List, [], ◌∷◌, ◌++◌, length, map, Option, Some, None, Ok, Err, refl, sym, ap, ◌∙◌, subst, arith, inl, inr, length-append, true, false, ◌<◌, ◌^◌, ◌⊎◌, OnOk, w32, cast_unsigned, flat_map, append-nil, length-map, flat_map-append, flat_map-map, uint16, uint32, int32, frame, Cause, either, count_cause, length_cause, Wants, WantsMemory, Held, ◌⊕◌, Leaves, Error, either_then, memory_then, int32_spelled, length-uint16, length-uint32, Part, Byte, Rest, joined, parts_cause, frame_cause, framed, PutsParts, PartsRefused, framed_length, length-int32, tagged_length, Message, tag_of, number_cause, uncounted, items_cause, Arrived, SoFarRefused, GivenRefused, WritesBytes, WritesGiven, counted_list, wide_list, marked_list, parts, bytes_of}
use Rattle.std.proofs.Common.{Result}
use Rattle.std.specs.Prelude.{pos}
use Rattle.std.specs.Result.{IsErr, IsErrAnd}
use Rattle.std.proofs.lemmas.Int.{of_z-to_z, to_z_pos}
use Rattle.pgp_message_write.specs.declared.list_message_of.Ending.{Ending}
use Rattle.pgp_message_write.specs.declared.list_message_of.Ending.TheVariants.{Count, WideCount, Zero}
use Rattle.pgp_message_write.proofs.Lists.{cause_before, cause_behind, joined-append, puts_then, refused_behind}

-- an iterator is made of itself
abbrev pub FromItself : {S : Type 0} → S → S → Type 0
FromItself source it = it ≡ source

-- one item more, at the end
module _ {D : Type 0} (parts : D → List Part) (xs : List D) (x : D) where
  one_more : flat_map parts (xs ++ x ∷ []) ≡ flat_map parts xs ++ parts x
  one_more = flat_map-append parts xs (x ∷ []) ∙ ap (λ ps. flat_map parts xs ++ ps) (append-nil (parts x))

  pub more_put : {K : Type 0} (a b c : Held K) → PutsParts (flat_map parts xs) a b → PutsParts (parts x) b c → PutsParts (flat_map parts (xs ++ x ∷ [])) a c
  more_put a b c p q = subst (λ ps. PutsParts ps a c) (sym one_more) (puts_then (flat_map parts xs) (parts x) a b c p q)

  pub more_refused : {K : Type 0} {lacks : Held K → ℕ → Type 0} (a b : Held K) (e : Error) → PutsParts (flat_map parts xs) a b → PartsRefused (parts x) lacks b e → PartsRefused (flat_map parts (xs ++ x ∷ [])) lacks a e
  more_refused {lacks = lacks} a b e p r = subst (λ ps. PartsRefused ps lacks a e) (sym one_more) (refused_behind (flat_map parts xs) (parts x) a b e p r)

-- items after the place of their count
module _ {D K : Type 0} {lacks : Held K → ℕ → Type 0} (parts : D → List Part) (xs : List D) (old : Held K) (e : Error) where
  pub counted_refused : count_cause (length xs) ≡ None → PartsRefused (flat_map parts xs) lacks (old ⊕ uint16 0) e → WantsMemory (Wants lacks old (length (joined (counted_list parts xs)))) e ⊎ (items_cause count_cause (counted_list parts) xs ≡ Some e)
  counted_refused few (inl w) = inl (memory_then old (old ⊕ uint16 0) (uint16 0) _ _ e refl (omega (arith, length-uint16 0, length-uint16 (length xs), length-append (uint16 (length xs)) (joined (flat_map parts xs)))) w)
  counted_refused few (inr r) = inr (either_then (count_cause (length xs)) (parts_cause (counted_list parts xs)) few ∙ r)

  pub wide_refused : length_cause (length xs) ≡ None → PartsRefused (flat_map parts xs) lacks (old ⊕ uint32 0) e → WantsMemory (Wants lacks old (length (joined (wide_list parts xs)))) e ⊎ (items_cause length_cause (wide_list parts) xs ≡ Some e)
  wide_refused few (inl w) = inl (memory_then old (old ⊕ uint32 0) (uint32 0) _ _ e refl (omega (arith, length-uint32 0, length-int32 (pos (length xs)), length-append (int32 (pos (length xs))) (joined (flat_map parts xs)))) w)
  wide_refused few (inr r) = inr (either_then (length_cause (length xs)) (parts_cause (wide_list parts xs)) few ∙ r)

-- parts with the same causes
module _ {A : Type 0} (given : List A → Option A → Type 0) (number : ℕ → Cause) (ps qs : List A → List Part) (same : (xs : List A) → parts_cause (qs xs) ≡ parts_cause (ps xs)) where
  pub causes_as : (xs : List A) → items_cause number qs xs ≡ items_cause number ps xs
  causes_as xs = ap (λ c. either (number (length xs)) c) (same xs)

  pub arrived_as : (xs : List A) → Arrived given number ps xs → Arrived given number qs xs
  arrived_as xs (inl none) = inl none
  arrived_as xs (inr r) = inr (record { before = r.before; next = r.next; received = r.received; none = causes_as r.before ∙ r.none; are = r.are })

-- the same parts, and the same bytes
module _ {A : Type 0} (given : List A → Option A → Type 0) (number : ℕ → Cause) (ps qs : List A → List Part) (bytes cs : List A → List ℕ)
    (same : (xs : List A) → ps xs ≡ qs xs) (spelled : (xs : List A) → bytes xs ≡ cs xs) {K : Type 0} (lacks : Held K → ℕ → Type 0) (old : Held K) where
  causes : (xs : List A) → parts_cause (qs xs) ≡ parts_cause (ps xs)
  causes xs = ap parts_cause (sym (same xs))

  refused_as : (e : Error) → GivenRefused given number ps bytes lacks old e → GivenRefused given number qs cs lacks old e
  refused_as e (inl (xs, received, inl memory)) = inl (xs, arrived_as given number ps qs causes xs received, inl (subst (λ (z : List ℕ). WantsMemory (Wants lacks old (length z)) e) (spelled xs) memory))
  refused_as e (inl (xs, received, inr refused)) = inl (xs, arrived_as given number ps qs causes xs received, inr (causes_as given number ps qs causes xs ∙ refused))
  refused_as e (inr (xs, received, none, long)) = inr (xs, received, causes_as given number ps qs causes xs ∙ none, ap frame_cause (sym (same xs)) ∙ long)

  pub given_as : (new : Held K) (result : Result (Unit {0}) Error) → WritesBytes given number ps bytes lacks old new result → WritesBytes given number qs cs lacks old new result
  given_as new (Ok done) w = (w.0, w.1, ap (λ ps. either (number (length w.0)) (frame_cause ps)) (sym (same w.0)) ∙ w.2, w.3 ∙ ap (λ z. old ⊕ z) (spelled w.0))
  given_as new (Err e) w = (refused_as e w.0, w.1)

-- what a view makes of the items
module _ {D A : Type 0} (view : D → A) (item : A → List Part) (xs : List D) where
  pub counted_view : counted_list (λ x. item (view x)) xs ≡ counted_list item (map view xs)
  counted_view = ap (λ ps. Rest (uint16 (length xs)) ∷ ps) (sym (flat_map-map item view xs)) ∙ ap (λ n. Rest (uint16 n) ∷ flat_map item (map view xs)) (sym (length-map xs view))

  pub wide_view : wide_list (λ x. item (view x)) xs ≡ wide_list item (map view xs)
  wide_view = ap (λ ps. Rest (int32 (pos (length xs))) ∷ ps) (sym (flat_map-map item view xs)) ∙ ap (λ n. Rest (int32 (pos n)) ∷ flat_map item (map view xs)) (sym (length-map xs view))

  pub marked_view : marked_list (λ x. item (view x)) xs ≡ marked_list item (map view xs)
  marked_view = ap (λ ps. ps ++ Byte 0 ∷ []) (sym (flat_map-map item view xs))

-- items with a 0 byte after them
module _ {D : Type 0} (parts : D → List Part) (xs : List D) where
  pub marked_none : parts_cause (flat_map parts xs) ≡ None → items_cause uncounted (marked_list parts) xs ≡ None
  marked_none h = cause_behind (flat_map parts xs) (Byte 0 ∷ []) h

  pub marked_put : {K : Type 0} (given : List D → Option D → Type 0) (old b new : Held K) → given xs None → PutsParts (flat_map parts xs) old b → (result : Result (Unit {0}) Error) → OnOk result (new ≡ b ⊕ 0 ∷ [])
      → OnOk result ((xs : List D) × given xs None × PutsParts (marked_list parts xs) old new)
  marked_put given old b new received p (Ok done) put = (xs, received, puts_then (flat_map parts xs) (Byte 0 ∷ []) old b new p (refl, put))
  marked_put given old b new received p (Err e) put = tt

-- a count of four bytes with a sign
pub wide_number : (n : ℕ) → n < 2 ^ 31 → int32 (pos n) ≡ uint32 n
wide_number n h = int32_spelled (pos n) ∙ ap uint32 (ap (cast_unsigned w32) (sym (to_z_pos w32 n h)) ∙ of_z-to_z w32 n (omega arith))

-- no items aren't too many
pub none_counted : (ending : Ending) → number_cause ending 0 ≡ None
none_counted Count = refl
none_counted WideCount = refl
none_counted Zero = refl

joined_length : (ps qs : List Part) → length (joined (ps ++ qs)) ≡ length (joined ps) + length (joined qs)
joined_length ps qs = ap length (joined-append ps qs) ∙ length-append (joined ps) (joined qs)

-- A list after other parts, in a frame.
module _ {A : Type 0} (given : List A → Option A → Type 0) (number : ℕ → Cause) (ps : List A → List Part) {K : Type 0} {lacks : Held K → ℕ → Type 0} where
  -- after the place of the length and the head
  pub list_behind : (head : List Part) (old b d : Held K) (e : Error) → b ≡ old ⊕ uint32 0 → PutsParts head b d → SoFarRefused given number ps (λ xs. joined (ps xs)) lacks d e
      → GivenRefused given number (λ xs. head ++ ps xs) (λ xs. framed None (joined (head ++ ps xs))) lacks old e
  list_behind head old b d e place front (xs, received, why) =
      let qs : List A → List Part = λ xs. head ++ ps xs in
      let same : (xs : List A) → parts_cause (qs xs) ≡ parts_cause (ps xs) = λ xs. cause_behind head (ps xs) front.0 in
      inl (
        xs,
        arrived_as given number ps qs same xs received,
        elim why [
          | inl memory ↦
              let whole : length (joined (head ++ ps xs)) ≡ length (joined head) + length (joined (ps xs)) = joined_length head (ps xs) in
              inl (memory_then old b (uint32 0) (length (joined head) + length (joined (ps xs))) _ e place (omega (arith, framed_length (joined (head ++ ps xs)), length-uint32 0, whole)) (memory_then b d (joined head) _ _ e front.1 (omega arith) memory))
          | inr refused ↦ inr (causes_as given number ps qs same xs ∙ refused)
        ],
      )

  -- the head was rejected, and no item was asked for
  pub head_refused : (head : List Part) (old b : Held K) (e : Error) → number 0 ≡ None → b ≡ old ⊕ uint32 0 → PartsRefused head lacks b e
      → GivenRefused given number (λ xs. head ++ ps xs) (λ xs. framed None (joined (head ++ ps xs))) lacks old e
  head_refused head old b e few place (inl memory) =
      inl ([], inl refl, inl (memory_then old b (uint32 0) _ _ e place (omega (arith, framed_length (joined (head ++ ps [])), length-uint32 0, joined_length head (ps []))) memory))
  head_refused head old b e few place (inr refused) = inl ([], inl refl, inr (either_then (number 0) (parts_cause (head ++ ps [])) few ∙ cause_before head (ps []) e refused))

  -- a tag before the frame
  module _ (tag : ℕ) (old b : Held K) (is : b ≡ old ⊕ tag ∷ []) where
    pub tagged_refused : (e : Error) → GivenRefused given number ps (λ xs. framed None (joined (ps xs))) lacks b e → GivenRefused given number ps (λ xs. framed (Some tag) (joined (ps xs))) lacks old e
    tagged_refused e (inl (xs, received, inl memory)) =
        inl (xs, received, inl (memory_then old b (tag ∷ []) _ _ e is (omega (arith, framed_length (joined (ps xs)), tagged_length tag (joined (ps xs)))) memory))
    tagged_refused e (inl (xs, received, inr refused)) = inl (xs, received, inr refused)
    tagged_refused e (inr long) = inr long

  -- nothing came yet
  pub given_memory : (bytes : List A → List ℕ) (r : Result (Unit {0}) Error) (x : Error) (old new : Held K) → IsErr r → IsErrAnd r (λ e. e ≡ x) → WantsMemory (Wants lacks old (length (bytes []))) x → Leaves old new → WritesBytes given number ps bytes lacks old new r
  given_memory bytes (Ok done) x old new is h w l = let e : false ≡ true = is in cc
  given_memory bytes (Err e) x old new is h w l = (inl ([], inl refl, inl (h ∙ w.0, w.1)), l)

-- What was written is the message, whose parts have the same bytes.
module _ {D : Type 0} (given : List D → Option D → Type 0) (number : ℕ → Cause) (ps qs : List D → List Part) (tag : ℕ) (message : List D → Message)
    (same : (xs : List D) → ps xs ≡ qs xs) (is : (xs : List D) → tag_of (message xs) ≡ tag) (spelled : (xs : List D) → joined (qs xs) ≡ joined (parts (message xs))) where
  bytes_are : (xs : List D) → framed (Some tag) (joined (ps xs)) ≡ bytes_of (message xs)
  bytes_are xs = ap (λ ps. frame tag (joined ps)) (same xs) ∙ (ap (λ z. frame tag z) (spelled xs) ∙ ap (λ t. frame t (joined (parts (message xs)))) (sym (is xs)))

  pub message_given : {K : Type 0} (lacks : Held K → ℕ → Type 0) (old new : Held K) (result : Result (Unit {0}) Error) → WritesBytes given number ps (λ xs. framed (Some tag) (joined (ps xs))) lacks old new result → WritesGiven given number qs message lacks old new result
  message_given lacks old new result w = given_as given number ps qs (λ xs. framed (Some tag) (joined (ps xs))) (λ xs. bytes_of (message xs)) same bytes_are lacks old new result w

pub counted_spelled : (count items : List ℕ) → count ++ items ≡ count ++ (items ++ [])
counted_spelled count items = ap (λ z. count ++ z) (sym (append-nil items))
