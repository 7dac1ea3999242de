-- Lists that were written are read.
use Rattle.pgp_message_write.proofs.Common.{◌≡◌, ℕ, ◌+◌, ◌-◌, ◌<◌, ◌^◌, List, [], ◌∷◌, ◌++◌, length, map, take, drop, Option, Some, None, refl, sym, ap, ◌∙◌, append_assoc, length-append, pos, arith, negsuc, suc, flat_map, concat, AllByRecursion, slice_range, HasNoZero, int16, int32, uint32, oid, text, Error, Part, joined, column_parts, field_parts, format_parts, text_parts, type_parts, value_parts, IsRowValue, IsColumn, IsOption, IsMechanism, fields_of, names_of, int32_spelled, length-uint32}
use Rattle.std.proofs.Common.{append-nil}
use Rattle.std.specs.declared.ops.Range.{Range}
use Rattle.pgp_base.specs.Items.{Spellings, CountedItems, MarkedItems, Unmarked}
use Rattle.pgp_message.specs.Items.{ErrorPart, ErrorFieldSpelled, ErrorFieldRefused, FieldPart, FieldSpelled, FieldRefused, FormatSpelled, FormatRefused, RangeSpelled, RangeRefused, TextSpelled, TextRefused, TypeSpelled, TypeRefused}
use Rattle.pgp_message.specs.Table.{value_at}
use Rattle.std.proofs.Math.Seq.{drop-append-add, drop-append_seam, take-append_seam}
use Rattle.pgp_message_write.proofs.Lists.{joined-append}

-- what each item is spelled as
abbrev spelled : {V : Type 0} → (V → List Part) → V → List ℕ
spelled parts x = joined (parts x)

-- the items of a list, one after the other
each_joined : {V : Type 0} (parts : V → List Part) (xs : List V) → joined (flat_map parts xs) ≡ concat (map (spelled parts) xs)
each_joined parts [] = refl
each_joined parts (x ∷ xs) = joined-append (parts x) (flat_map parts xs) ∙ ap (λ z. joined (parts x) ++ z) (each_joined parts xs)

module _ {V : Type 0} (Spelled : ℕ → V → List ℕ → Type 0) (Refused : List ℕ → Error → Type 0) (parts : V → List Part) (Fits : V → Type 0) (spells : (place : ℕ) (x : V) → Fits x → Spelled place x (spelled parts x)) where
  spellings : (place : ℕ) (xs : List V) → AllByRecursion Fits xs → Spellings Spelled place xs (map (spelled parts) xs)
  spellings place [] h = tt
  spellings place (x ∷ xs) h = (spells place x h.0, spellings (place + length (spelled parts x)) xs h.1)

  pub counted_back : (xs : List V) → AllByRecursion Fits xs → CountedItems Spelled Refused (length xs) (joined (flat_map parts xs)) xs None
  counted_back xs h = record {
    fronts = map (spelled parts) xs;
    rest = [];
    whole = each_joined parts xs ∙ sym (append-nil (concat (map (spelled parts) xs)));
    each = spellings 0 xs h;
    ends = (refl, refl);
  }

module _ {V : Type 0} (Spelled : ℕ → V → List ℕ → Type 0) (Refused : List ℕ → Error → Type 0) (parts : V → List Part) (Fits : V → Type 0) (spells : (place : ℕ) (x : V) → Fits x → Unmarked Spelled place x (spelled parts x)) where
  pub marked_back : (xs : List V) → AllByRecursion Fits xs → MarkedItems Spelled Refused (joined (flat_map parts xs) ++ 0 ∷ []) xs None
  marked_back xs h = record {
    fronts = map (spelled parts) xs;
    rest = 0 ∷ [];
    whole = ap (λ z. z ++ 0 ∷ []) (each_joined parts xs);
    each = spellings (Unmarked Spelled) Refused parts Fits spells 0 xs h;
    ends = refl;
  }

-- the items, each by itself
column_spelled : (place : ℕ) (x : FieldPart) → IsColumn x → FieldSpelled place x (spelled column_parts x)
column_spelled place x h = record { no_zero = h.0; is = h.1; fits = h.2; parts = ap (λ z. text x.name ++ (oid x.table_oid ++ (int16 x.column_id ++ (oid x.type_oid ++ (int16 x.type_size ++ (int32 x.type_modifier ++ z)))))) (append-nil (int16 x.format)) }

type_spelled : (place n : ℕ) → n < 2 ^ 32 → TypeSpelled place n (spelled type_parts n)
type_spelled place n h = record { fits = h; parts = append-nil _ }

format_spelled : (place n : ℕ) → n < 2 ^ 16 → FormatSpelled place n (spelled format_parts n)
format_spelled place n h = record { fits = h; parts = append-nil _ }

text_spelled : (place : ℕ) (z : List ℕ) → IsOption z → TextSpelled place z (spelled text_parts z)
text_spelled place z h = record { no_zero = h.0; is = h.1; parts = append-nil (text z) }

name_spelled : (place : ℕ) (z : List ℕ) → IsMechanism z → Unmarked TextSpelled place z (spelled text_parts z)
name_spelled place [] h = absurd (h.2 refl)
name_spelled place (b ∷ z) h = (text_spelled place (b ∷ z) (h.0, h.1), h.0.0)

field_spelled : (place : ℕ) (x : ErrorPart) → HasNoZero (x.code ∷ x.value) → Unmarked ErrorFieldSpelled place x (spelled field_parts x)
field_spelled place x h = (record { no_zero = h.1; parts = append-nil (x.code ∷ text x.value) }, h.0)

pub columns_back : (xs : List FieldPart) → AllByRecursion IsColumn xs → CountedItems FieldSpelled FieldRefused (length xs) (joined (flat_map column_parts xs)) xs None
columns_back = counted_back FieldSpelled FieldRefused column_parts IsColumn column_spelled

pub types_back : (xs : List ℕ) → AllByRecursion (λ n. n < 2 ^ 32) xs → CountedItems TypeSpelled TypeRefused (length xs) (joined (flat_map type_parts xs)) xs None
types_back = counted_back TypeSpelled TypeRefused type_parts (λ n. n < 2 ^ 32) type_spelled

pub formats_back : (xs : List ℕ) → AllByRecursion (λ n. n < 2 ^ 16) xs → CountedItems FormatSpelled FormatRefused (length xs) (joined (flat_map format_parts xs)) xs None
formats_back = counted_back FormatSpelled FormatRefused format_parts (λ n. n < 2 ^ 16) format_spelled

pub options_back : (xs : List (List ℕ)) → AllByRecursion IsOption xs → CountedItems TextSpelled TextRefused (length xs) (joined (flat_map text_parts xs)) xs None
options_back = counted_back TextSpelled TextRefused text_parts IsOption text_spelled

pub mechanisms_back : (xs : List (List ℕ)) → AllByRecursion IsMechanism xs → MarkedItems TextSpelled TextRefused (names_of xs) xs None
mechanisms_back = marked_back TextSpelled TextRefused text_parts IsMechanism name_spelled

pub fields_back : (xs : List ErrorPart) → AllByRecursion (λ x. HasNoZero (x.code ∷ x.value)) xs → MarkedItems ErrorFieldSpelled ErrorFieldRefused (fields_of xs) xs None
fields_back = marked_back ErrorFieldSpelled ErrorFieldRefused field_parts (λ x. HasNoZero (x.code ∷ x.value)) field_spelled

-- The values of a row, each at its place.
abbrev place_of : ℕ → Option (List ℕ) → Option (Range ℕ)
place_of place None = None
place_of place (Some z) = Some (record { start = place + 4; end = place + length (spelled value_parts (Some z)) })

abbrev pub places_from : ℕ → List (Option (List ℕ)) → List (Option (Range ℕ))
places_from place [] = []
places_from place (v ∷ vs) = place_of place v ∷ places_from (place + length (spelled value_parts v)) vs

value_spelled : (place : ℕ) (v : Option (List ℕ)) → IsRowValue v → RangeSpelled place (place_of place v) (spelled value_parts v)
value_spelled place None h = record { below = 0; fits = record { sfits = omega arith }; parts = append-nil (int32 (negsuc 0)) }
value_spelled place (Some z) h = record {
  value = z;
  fits = record { sfits = h };
  parts = append-nil (uint32 (length z) ++ z) ∙ ap (λ l. l ++ z) (sym (int32_spelled (pos (length z))));
  starts = refl;
  ends = refl;
}

values_spelled : (place : ℕ) (vs : List (Option (List ℕ))) → AllByRecursion IsRowValue vs → Spellings RangeSpelled place (places_from place vs) (map (spelled value_parts) vs)
values_spelled place [] h = tt
values_spelled place (v ∷ vs) h = (value_spelled place v h.0, values_spelled (place + length (spelled value_parts v)) vs h.1)

as_many : (place : ℕ) (vs : List (Option (List ℕ))) → length (places_from place vs) ≡ length vs
as_many place [] = refl
as_many place (v ∷ vs) = ap suc (as_many (place + length (spelled value_parts v)) vs)

pub values_back : (vs : List (Option (List ℕ))) → AllByRecursion IsRowValue vs → CountedItems RangeSpelled RangeRefused (length vs) (joined (flat_map value_parts vs)) (places_from 0 vs) None
values_back vs h = record {
  fronts = map (spelled value_parts) vs;
  rest = [];
  whole = each_joined value_parts vs ∙ sym (append-nil (concat (map (spelled value_parts) vs)));
  each = values_spelled 0 vs h;
  ends = (as_many 0 vs, refl);
}

-- what stands after `a` and `h`
slice_here : (a h z r : List ℕ) (from to : ℕ) → from ≡ length a + length h → to ≡ from + length z → slice_range (a ++ (h ++ (z ++ r))) from to ≡ z
slice_here a h z r from to e f =
    let behind : drop from (a ++ (h ++ (z ++ r))) ≡ z ++ r = ap (λ n. drop n (a ++ (h ++ (z ++ r)))) e ∙ (drop-append-add a (h ++ (z ++ r)) (length h) ∙ drop-append_seam h (z ++ r)) in
    let size : to - from ≡ length z = omega (arith, f) in
    ap (λ n. take n (drop from (a ++ (h ++ (z ++ r))))) size ∙ (ap (take (length z)) behind ∙ take-append_seam z r)

value_here : (before rest : List ℕ) (v : Option (List ℕ)) → value_at (before ++ (spelled value_parts v ++ rest)) (place_of (length before) v) ≡ v
value_here before rest None = refl
value_here before rest (Some z) =
    let size = uint32 (length z) in
    let front : spelled value_parts (Some z) ≡ size ++ z = append-nil (size ++ z) in
    let whole : before ++ (spelled value_parts (Some z) ++ rest) ≡ before ++ (size ++ (z ++ rest)) = ap (λ l. before ++ (l ++ rest)) front ∙ ap (λ l. before ++ l) (append_assoc size z rest) in
    let end : length before + length (spelled value_parts (Some z)) ≡ length before + 4 + length z = omega (arith, ap length front, length-append size z, length-uint32 (length z)) in
    ap Some
    (ap (λ l. slice_range l (length before + 4) (length before + length (spelled value_parts (Some z)))) whole
    ∙ slice_here before size z rest (length before + 4) (length before + length (spelled value_parts (Some z))) (omega (arith, length-uint32 (length z))) end)

values_from : (before : List ℕ) (vs : List (Option (List ℕ))) → map (value_at (before ++ joined (flat_map value_parts vs))) (places_from (length before) vs) ≡ vs
values_from before [] = refl
values_from before (v ∷ vs) =
    let rest = joined (flat_map value_parts vs) in
    let front = spelled value_parts v in
    let split : joined (flat_map value_parts (v ∷ vs)) ≡ front ++ rest = joined-append (value_parts v) (flat_map value_parts vs) in
    let whole : before ++ joined (flat_map value_parts (v ∷ vs)) ≡ (before ++ front) ++ rest = ap (λ l. before ++ l) split ∙ sym (append_assoc before front rest) in
    let first : value_at (before ++ joined (flat_map value_parts (v ∷ vs))) (place_of (length before) v) ≡ v = ap (λ l. value_at (before ++ l) (place_of (length before) v)) split ∙ value_here before rest v in
    let others : map (value_at (before ++ joined (flat_map value_parts (v ∷ vs)))) (places_from (length before + length front) vs) ≡ vs =
    ap (λ l. map (value_at l) (places_from (length before + length front) vs)) whole ∙ (ap (λ n. map (value_at ((before ++ front) ++ rest)) (places_from n vs)) (sym (length-append before front)) ∙ values_from (before ++ front) vs) in
    ap (λ x. x ∷ map (value_at (before ++ joined (flat_map value_parts (v ∷ vs)))) (places_from (length before + length front) vs)) first ∙ ap (λ l. v ∷ l) others

pub values_stand : (vs : List (Option (List ℕ))) → map (value_at (joined (flat_map value_parts vs))) (places_from 0 vs) ≡ vs
values_stand vs = values_from [] vs
