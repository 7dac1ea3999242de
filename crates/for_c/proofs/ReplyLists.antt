-- The messages of the lists that C hands over.
use Rattle.for_c.proofs.Common.{◌≡◌, ℕ, ℤ, pos, ◌+◌, ◌≤◌, List, [], ◌∷◌, ◌++◌, map, length, take, Option, Some, None, Result, Ok, Err, Bor, sym, ap, subst, ◌∙◌, arith, length-append, Mut, GName, Called, map_source, map_callee, Map, flat_map, maps, YieldsList, YieldsList-from_map_by, flat_map-append, Yielded, Cause, length_cause, number_of, int32, uint16, frame, window_held, window_lacks, Error, Window, length-uint16, Part, Int32, joined, all_given, some_given, length-int32, tagged_length, Message, Authentication, AuthenticationSasl, ErrorResponse, NoticeResponse, ErrorPart, FieldPart, WritesGiven, uncounted, column_parts, field_parts, text_parts, value_parts, wide_list, description_of, fields_of, names_of, negotiation_of, row_of, NotRepliedList, RepliedList, FromItself}
use Rattle.pgp_message_write.specs.Given.{items_cause}
use Rattle.pgp_message_write.specs.Reply.{bytes_of}
use Rattle.pgp_message_write.proofs.Lists.{joined-append}
use Rattle.for_c.proofs.NeverMemory.{Never, never_none}
use Rattle.for_c.proofs.Replies.{list_replied, list_not_replied}

-- ---- the message of more items is no shorter

module _ {A : Type 0} (item : A → List Part) (xs more : List A) where
  abbrev stored : List A → List ℕ
  stored xs = joined (flat_map item xs)

  items_longer : length (joined (flat_map item xs)) ≤ length (joined (flat_map item (xs ++ more)))
  items_longer =
      let e : joined (flat_map item (xs ++ more)) ≡ joined (flat_map item xs) ++ joined (flat_map item more) = ap joined (flat_map-append item xs more) ∙ joined-append (flat_map item xs) (flat_map item more) in
      omega (arith, ap length e, length-append (joined (flat_map item xs)) (joined (flat_map item more)))

  counted_size : (tag : ℕ) (xs : List A) → length (frame tag (uint16 (length xs) ++ (joined (flat_map item xs) ++ []))) ≡ 7 + length (joined (flat_map item xs))
  counted_size tag xs =
      omega (arith, tagged_length tag (uint16 (length xs) ++ (joined (flat_map item xs) ++ [])), length-append (uint16 (length xs)) (joined (flat_map item xs) ++ []), length-uint16 (length xs), length-append (joined (flat_map item xs)) [])

  counted_longer : (tag : ℕ) → length (frame tag (uint16 (length xs) ++ (joined (flat_map item xs) ++ []))) ≤ length (frame tag (uint16 (length (xs ++ more)) ++ (joined (flat_map item (xs ++ more)) ++ [])))
  counted_longer tag = omega (arith, items_longer, counted_size tag xs, counted_size tag (xs ++ more))

  marked_size : (tag : ℕ) (xs : List A) → length (frame tag ((joined (flat_map item xs) ++ 0 ∷ []) ++ [])) ≡ 6 + length (joined (flat_map item xs))
  marked_size tag xs =
      omega (arith, tagged_length tag ((joined (flat_map item xs) ++ 0 ∷ []) ++ []), length-append (joined (flat_map item xs) ++ 0 ∷ []) [], length-append (joined (flat_map item xs)) (0 ∷ []))

  marked_longer : (tag : ℕ) → length (frame tag ((joined (flat_map item xs) ++ 0 ∷ []) ++ [])) ≤ length (frame tag ((joined (flat_map item (xs ++ more)) ++ 0 ∷ []) ++ []))
  marked_longer tag = omega (arith, items_longer, marked_size tag xs, marked_size tag (xs ++ more))

pub row_longer : (xs more : List (Option (List ℕ))) → length (bytes_of (row_of xs)) ≤ length (bytes_of (row_of (xs ++ more)))
row_longer xs more = counted_longer value_parts xs more 68

pub description_longer : (xs more : List FieldPart) → length (bytes_of (description_of xs)) ≤ length (bytes_of (description_of (xs ++ more)))
description_longer xs more = counted_longer column_parts xs more 84

pub error_longer : (xs more : List ErrorPart) → length (bytes_of (ErrorResponse (fields_of xs))) ≤ length (bytes_of (ErrorResponse (fields_of (xs ++ more))))
error_longer xs more = marked_longer field_parts xs more 69

pub notice_longer : (xs more : List ErrorPart) → length (bytes_of (NoticeResponse (fields_of xs))) ≤ length (bytes_of (NoticeResponse (fields_of (xs ++ more))))
notice_longer xs more = marked_longer field_parts xs more 78

sasl_size : (xs : List (List ℕ)) → length (bytes_of (Authentication (AuthenticationSasl (names_of xs)))) ≡ 10 + length (joined (flat_map text_parts xs))
sasl_size xs =
    let names = joined (flat_map text_parts xs) in
    let ten : ℤ = pos 10 in
    omega (arith, tagged_length 82 (int32 ten ++ ((names ++ 0 ∷ []) ++ [])), length-append (int32 ten) ((names ++ 0 ∷ []) ++ []), length-int32 ten, length-append (names ++ 0 ∷ []) [], length-append names (0 ∷ []))

pub sasl_longer : (xs more : List (List ℕ)) → length (bytes_of (Authentication (AuthenticationSasl (names_of xs)))) ≤ length (bytes_of (Authentication (AuthenticationSasl (names_of (xs ++ more)))))
sasl_longer xs more = omega (arith, items_longer text_parts xs more, sasl_size xs, sasl_size (xs ++ more))

negotiation_size : (v : ℤ) (xs : List (List ℕ)) → length (bytes_of (negotiation_of v xs)) ≡ 13 + length (joined (flat_map text_parts xs))
negotiation_size v xs =
    let names = joined (flat_map text_parts xs) in
    let n : ℤ = pos (length xs) in
    omega (arith, tagged_length 118 (int32 v ++ (int32 n ++ (names ++ []))), length-append (int32 v) (int32 n ++ (names ++ [])), length-int32 v, length-append (int32 n) (names ++ []), length-int32 n, length-append names [])

pub negotiation_longer : (v : ℤ) (xs more : List (List ℕ)) → length (bytes_of (negotiation_of v xs)) ≤ length (bytes_of (negotiation_of v (xs ++ more)))
negotiation_longer v xs more = omega (arith, items_longer text_parts xs more, negotiation_size v xs, negotiation_size v (xs ++ more))

pub never_uncounted : (n : ℕ) → Never (uncounted n)
never_uncounted n = never_none

-- ---- items that a function makes of those of a slice

module _ {S F C R V : Type 0} (view : R → V) (of : C → V) (number : ℕ → Cause) (ps : List V → List Part) (message : List V → Message) (none_first : items_cause number ps [] ≡ None)
    (longer : (xs more : List V) → length (bytes_of (message xs)) ≤ length (bytes_of (message (xs ++ more)))) (steps : S → Option (Bor C) → S → Type 0) (g : Mut F (Bor C × Unit {0}) R) (source : Map S F) (all : List C)
    (road : YieldsList steps (λ (x : Bor C). x.now) (map_source source) all) (f : F) (callee : map_callee source ≡ f) (called : (x : Bor C) (r : R) (q : F) → Called g f (x, tt) r q → (q ≡ f) × (view r ≡ of x.now))
    (w v : Window) (old : List ℕ) (name : GName) (new : window_held w ≡ record { bytes = []; behind = old; kept = (name, length old) }) (r : Result (Unit {0}) Error)
    (writes : WritesGiven (Yielded FromItself (maps steps g) source) number (λ xs. ps (map view xs)) (λ xs. message (map view xs)) window_lacks (window_held w) (window_held v) r) where
  roads : (it : Map S F) → FromItself source it → YieldsList (maps steps g) view it (map of all)
  roads it from = subst (λ s. YieldsList (maps steps g) view s (map of all)) (sym from) (YieldsList-from_map_by g view of road callee called)

  all_made : (xs : List R) → Yielded FromItself (maps steps g) source xs None → map view xs ≡ map of all
  all_made xs k = all_given FromItself (maps steps g) source view (map of all) roads xs k

  some_made : (xs : List R) (x : R) → Yielded FromItself (maps steps g) source xs (Some x) → (more : List V) × (map of all ≡ map view xs ++ view x ∷ more)
  some_made xs x k = some_given FromItself (maps steps g) source view (map of all) roads xs x k

  pub made_replied : (x : List ℕ) → (name ≡ v.room.ghost_name → x ≡ v.room.now) → (reported : ℕ) → (r ≡ Ok tt) × (reported ≡ length (take v.len v.room.now)) → RepliedList number ps (message (map of all)) (map of all) old x reported
  made_replied x at_last reported ended =
      list_replied view (Yielded FromItself (maps steps g) source) number ps message (map of all) all_made some_made none_first longer w v old name new r writes x at_last reported ended

  pub made_not_replied : ((n : ℕ) → Never (number n)) → (code reported : ℕ) → (e : Error) × (r ≡ Err e) × (code ≡ number_of e) × (reported ≡ 0) → NotRepliedList number ps (message (map of all)) (map of all) old reported code
  made_not_replied never code reported ended =
      list_not_replied view (Yielded FromItself (maps steps g) source) number ps message (map of all) all_made some_made none_first longer w v old name new r writes never code reported ended

-- a version that is handed on comes back
pub negotiated : (v n : ℤ) → n ≡ v → (xs : List (List ℕ)) (old new : List ℕ) (reported : ℕ) → RepliedList length_cause (λ all. Int32 n ∷ wide_list text_parts all) (negotiation_of n xs) xs old new reported
    → RepliedList length_cause (λ all. Int32 v ∷ wide_list text_parts all) (negotiation_of v xs) xs old new reported
negotiated v n is xs old new reported r = subst (λ (v : ℤ). RepliedList length_cause (λ all. Int32 v ∷ wide_list text_parts all) (negotiation_of v xs) xs old new reported) is r

pub not_negotiated : (v n : ℤ) → n ≡ v → (xs : List (List ℕ)) (old : List ℕ) (reported code : ℕ) → NotRepliedList length_cause (λ all. Int32 n ∷ wide_list text_parts all) (negotiation_of n xs) xs old reported code
    → NotRepliedList length_cause (λ all. Int32 v ∷ wide_list text_parts all) (negotiation_of v xs) xs old reported code
not_negotiated v n is xs old reported code r = subst (λ (v : ℤ). NotRepliedList length_cause (λ all. Int32 v ∷ wide_list text_parts all) (negotiation_of v xs) xs old reported code) is r
