-- The parts of values stand at their places among the bytes.
use Rattle.for_c.proofs.Common.{◌≡◌, ℕ, ℤ, pos, negsuc, true, false, ◌+◌, ◌-◌, ◌*◌, ◌<◌, ◌≤◌, ◌^◌, List, [], ◌∷◌, ◌++◌, length, take, drop, Option, Some, None, Ok, refl, sym, ap, subst, ◌∙◌, inl, inr, arith, length-append, min, flat_map, append-nil, cases_lt, drop-append_seam, take-append_seam, take-length, StandsAt, IsReader, uint32, int32, length-uint32, Cause, length_cause, number_of, Error, length_fits, length_past, Walk, hint_of, NotDrained, UnexpectedEof, int32_number, oid_number, IsValue, RangeSpelled, ArrayDimension, IsFlag, dimension_bytes, head, ArrayRead, ArrayReads, Entry, entry, entry_count, HstoreReads, Begins, NullableSpelled, Side, between, RangeReads, SideSpelled, lower_bits, upper_bits, Bits, Inclusive, Exclusive, Unbounded, part_reader, fixed_is, then_part, dimension, value_in, BeginsHstore, IsArrayIn, IsRangeInside, IsSideInside, side_in, IsColumnInside, range_of, dimension_at, column_before, value_length, bound_before, side_length, PgpCursor, PgpColumn, StandsFrom, rest_of, rest}
use Rattle.std.specs.declared.ops.Range.{Range}
use Rattle.std.proofs.lemmas.List.{append_assoc}
use Rattle.pgp_types.specs.Varbit.{Varbit, VarbitReads}
use Rattle.pgp_types.proofs.Numbers.{int32_spelling}
use Rattle.for_c.specs.declared.array.PgpArray.{PgpArray}
use Rattle.for_c.specs.declared.range.PgpBound.{PgpBound}
use Rattle.for_c.specs.declared.range.PgpRange.{PgpRange}
use Rattle.for_c.proofs.Listings.{part_stands}
use Rattle.for_c.proofs.Walks.{rest_after, rest_between}

-- a value that ends at a place
value_behind : (bytes rest before v more : List ℕ) (at end : ℕ) → StandsFrom bytes at rest → rest ≡ before ++ (v ++ more) → end ≡ at + (length rest - length more)
    → take (end - (end - length v)) (drop (end - length v) bytes) ≡ v
value_behind bytes rest before v more at end from parts last =
    let size : length rest ≡ length before + (length v + length more) = ap length parts ∙ (length-append before (v ++ more) ∙ ap (λ n. length before + n) (length-append v more)) in
    let start : end - length v ≡ at + length before = omega (arith, size, last) in
    let count : end - (end - length v) ≡ length v = omega (arith, size, last) in
    ap (λ k. take k (drop (end - length v) bytes)) count ∙ (ap (λ k. take (length v) (drop k bytes)) start ∙ part_stands bytes rest before v more at from parts)

pub column_in : (bytes rest before front more : List ℕ) (v : Option (List ℕ)) (at end : ℕ) → StandsFrom bytes at rest → NullableSpelled v front → rest ≡ before ++ (front ++ more) → end ≡ at + (length rest - length more)
    → value_in bytes (column_before v end) ≡ v
column_in bytes rest before front more None at end from spelled parts last = refl
column_in bytes rest before front more (Some v) at end from spelled parts last =
    let head = uint32 (length v) in
    let whole : rest ≡ (before ++ head) ++ (v ++ more) = parts ∙ (ap (λ l. before ++ (l ++ more)) spelled.1 ∙ (ap (λ l. before ++ l) (append_assoc head v more) ∙ sym (append_assoc before head (v ++ more)))) in
    ap (λ x. Some x) (value_behind bytes rest (before ++ head) v more at end from whole last)

pub column_inside : (v : Option (List ℕ)) (end size : ℕ) → end ≤ size → IsColumnInside size (column_before v end)
column_inside None end size few = (omega arith, omega arith)
column_inside (Some v) end size few = (omega arith, few)

-- a value of a row
pub range_inside : (here more : List ℕ) (c : PgpColumn) (at size : ℕ) → c.is_null ≡ false → at + length here ≤ size → StandsAt RangeSpelled at here (range_of c) more → IsColumnInside size c
range_inside here more c at size full few s =
    let r : Range ℕ = record { start = c.start; end = c.end } in
    let is : range_of c ≡ Some r = rw full refl in
    let v : IsValue at r s.front = subst (λ (x : Option (Range ℕ)). RangeSpelled at x s.front) is s.spelled in
    let long = ap length v.parts in
    (omega (arith, v.starts, v.ends, long, length-append (int32 (pos (length v.value))) v.value, int32_number.len (pos (length v.value))), omega (arith, v.ends, few, ap length s.whole, length-append s.front more))

-- an element of an array
pub element_in : (bytes rest front more : List ℕ) (v : Option (List ℕ)) (at end : ℕ) → StandsFrom bytes at rest → NullableSpelled v front → rest ≡ front ++ more → end ≡ at + (length rest - length more)
    → value_in bytes (column_before v end) ≡ v
element_in bytes rest front more v at end from spelled parts last = column_in bytes rest [] front more v at end from spelled parts last

-- an entry of an hstore
pub key_in : (bytes rest more : List ℕ) (x : Entry) (at : ℕ) → StandsFrom bytes at rest → Begins entry rest x more → take (length x.0) (drop (at + 4) bytes) ≡ x.0
key_in bytes rest more x at from b =
    let head = uint32 (length x.0) in
    let parts : rest ≡ head ++ (x.0 ++ (b.spelled.second ++ more)) = b.whole ∙ (ap (λ l. l ++ more) (b.spelled.whole ∙ ap (λ l. l ++ b.spelled.second) b.spelled.one.0.1) ∙ (append_assoc (head ++ x.0) b.spelled.second more ∙ append_assoc head x.0 (b.spelled.second ++ more))) in
    let place : at + 4 ≡ at + length head = omega (arith, length-uint32 (length x.0)) in
    ap (λ k. take (length x.0) (drop k bytes)) place ∙ part_stands bytes rest head x.0 (b.spelled.second ++ more) at from parts

pub entry_value_in : (bytes rest more : List ℕ) (x : Entry) (at end : ℕ) → StandsFrom bytes at rest → Begins entry rest x more → end ≡ at + (length rest - length more) → value_in bytes (column_before x.1 end) ≡ x.1
entry_value_in bytes rest more x at end from b last =
    column_in bytes rest b.spelled.first b.spelled.second more x.1 at end from b.spelled.other.0 (b.whole ∙ (ap (λ l. l ++ more) b.spelled.whole ∙ append_assoc b.spelled.first b.spelled.second more)) last

pub key_inside : (rest more : List ℕ) (x : Entry) → Begins entry rest x more → 4 + length x.0 ≤ length rest
key_inside rest more x b =
    omega (arith, ap length b.whole, length-append b.front more, ap length b.spelled.whole, length-append b.spelled.first b.spelled.second, ap length b.spelled.one.0.1, length-append (uint32 (length x.0)) x.0, length-uint32 (length x.0))

-- how many bytes a value takes with its length
pub value_size : (v : Option (List ℕ)) (front : List ℕ) → NullableSpelled v front → length front ≡ 4 + value_length v
value_size None front s = omega (arith, ap length s.2, int32_number.len (negsuc s.0))
value_size (Some v) front s = omega (arith, ap length s.1, length-append (uint32 (length v)) v, length-uint32 (length v))

-- an entry has two lengths
pub entry_long : (rest more : List ℕ) (x : Entry) → Begins entry rest x more → length more + 8 ≤ length rest
entry_long rest more x b =
    omega (
      arith,
      ap length b.whole,
      length-append b.front more,
      ap length b.spelled.whole,
      length-append b.spelled.first b.spelled.second,
      ap length b.spelled.one.0.1,
      length-append (uint32 (length x.0)) x.0,
      length-uint32 (length x.0),
      value_size x.1 b.spelled.second b.spelled.other.0,
    )

pub entry_placed : (bytes rest more : List ℕ) (x : Entry) (at : ℕ) (value : PgpColumn) → StandsFrom bytes at rest → Begins entry rest x more → value ≡ column_before x.1 (at + (length rest - length more))
    → StandsAt (λ place. entry.Spelled) at rest (take (length x.0) (drop (at + 4) bytes), value_in bytes value) more
entry_placed bytes rest more x at value from b is =
    let placed : value_in bytes value ≡ x.1 = ap (λ v. value_in bytes v) is ∙ entry_value_in bytes rest more x at _ from b refl in
    let found : StandsAt (λ place. entry.Spelled) at rest x more = record { front = b.front; whole = b.whole; spelled = b.spelled } in
    subst (λ k. StandsAt (λ place. entry.Spelled) at rest (k, value_in bytes value) more) (sym (key_in bytes rest more x at from b)) (subst (λ v. StandsAt (λ place. entry.Spelled) at rest (x.0, v) more) (sym placed) found)

-- the entries that are announced
pub begins_hstore : (bytes : List ℕ) (n end : ℕ) (w : Walk Entry) → HstoreReads bytes (Ok w) → n ≡ (hint_of w.announced).0 → end ≡ length bytes → BeginsHstore bytes (record { at = 4; end = end; left = n })
begins_hstore bytes n end w (m, rest, b, walk) hint last =
    let reported : n ≡ m = hint ∙ ap (λ a. (hint_of a).0) walk.announced in
    let size : length b.front ≡ 4 = ap length b.spelled.1 ∙ length-uint32 m in
    let left : rest_of bytes 4 end ≡ rest = rest_after b.front rest bytes 4 end b.whole size last in
    subst (λ k. Begins entry_count bytes k (rest_of bytes 4 end)) (sym reported) (record { front = b.front; whole = b.whole ∙ ap (λ l. b.front ++ l) (sym left); spelled = b.spelled })

-- the bytes after the number of bits
pub bits_behind : (bytes : List ℕ) (v : Varbit) → VarbitReads bytes (Ok v) → VarbitReads bytes (Ok (record { len = v.len; bytes = drop 4 bytes }))
bits_behind bytes v reads =
    let b = reads.0 in
    let size : length b.front ≡ 4 = ap length b.spelled.1 ∙ length-uint32 v.len in
    let cut : drop 4 bytes ≡ v.bytes = ap (λ k. drop k bytes) (sym size) ∙ (ap (λ l. drop (length b.front) l) b.whole ∙ drop-append_seam b.front v.bytes) in
    subst (λ l. VarbitReads bytes (Ok (record { len = v.len; bytes = l }))) (sym cut) reads

-- the dimensions and the elements after a head
dimensions_length : (ds : List ArrayDimension) → length (flat_map dimension_bytes ds) ≡ 8 * length ds
dimensions_length [] = refl
dimensions_length (d ∷ ds) =
    omega (arith, length-append (dimension_bytes d) (flat_map dimension_bytes ds), length-append (int32 d.len) (int32 d.lower_bound), int32_number.len d.len, int32_number.len d.lower_bound, dimensions_length ds)

head_length : (bytes rest : List ℕ) (x : ℕ × (ℤ × ℕ)) (b : Begins head bytes x rest) → length b.front ≡ 12
head_length bytes rest x b =
    omega (
      arith,
      ap length b.spelled.whole,
      length-append b.spelled.first b.spelled.second,
      ap length b.spelled.one.1,
      length-uint32 x.0,
      ap length b.spelled.other.whole,
      length-append b.spelled.other.first b.spelled.other.second,
      ap length b.spelled.other.one.1,
      int32_number.len x.1.0,
      ap length b.spelled.other.other.1,
      oid_number.len x.1.1,
    )

pub array_in : (bytes : List ℕ) (v : ArrayRead) (a : PgpArray) (behind : ℕ) → ArrayReads bytes (Ok v) → a.dimensions ≡ record { at = 12; end = behind; left = (hint_of v.dimensions.announced).0 }
    → a.elements ≡ record { at = behind; end = length bytes; left = (hint_of v.values.announced).0 } → a.element_type ≡ v.element_type → a.has_nulls ≡ v.has_nulls
    → behind ≡ min (min ((hint_of v.dimensions.announced).0 * 8) 18446744073709551615 + 12) 18446744073709551615 → length bytes < 2 ^ 64 → IsArrayIn bytes a
array_in bytes v a behind (f, all, flag, type, walk, values) dimensions_is elements_is type_is nulls_is place fits =
    let end = length bytes in
    let ds = f.dimensions in
    let size = head_length bytes f.behind (f.count, (f.flag, f.element_type)) f.begins in
    let dims = dimensions_length ds in
    let whole : bytes ≡ f.begins.front ++ (flat_map dimension_bytes ds ++ f.rest) = f.begins.whole ∙ ap (λ l. f.begins.front ++ l) f.extent.whole in
    let long : length bytes ≡ 12 + (8 * length ds + length f.rest) = omega (arith, ap length whole, size, dims, length-append f.begins.front (flat_map dimension_bytes ds ++ f.rest), length-append (flat_map dimension_bytes ds) f.rest) in
    let count = (hint_of v.dimensions.announced).0 in
    let reported : count ≡ length ds = ap (λ (w : Walk ArrayDimension). (hint_of w.announced).0) walk in
    let here : behind ≡ 12 + 8 * length ds = omega (arith, place, reported, long, fits) in
    let first : drop 12 bytes ≡ flat_map dimension_bytes ds ++ f.rest = ap (λ k. drop k bytes) (sym size) ∙ (ap (λ l. drop (length f.begins.front) l) whole ∙ drop-append_seam f.begins.front (flat_map dimension_bytes ds ++ f.rest)) in
    let span : behind - 12 ≡ length (flat_map dimension_bytes ds) = omega (arith, here, dims) in
    let joined : bytes ≡ (f.begins.front ++ flat_map dimension_bytes ds) ++ f.rest = whole ∙ sym (append_assoc f.begins.front (flat_map dimension_bytes ds) f.rest) in
    let ends : length (f.begins.front ++ flat_map dimension_bytes ds) ≡ behind = omega (arith, length-append f.begins.front (flat_map dimension_bytes ds), size, dims, here) in
    record {
      front = f;
      count = all;
      flag = subst (λ n. IsFlag n f.flag) (sym nulls_is) flag;
      type = type_is ∙ type;
      dimensions = ap (λ c. rest bytes c) dimensions_is ∙ (rest_between bytes 12 behind (omega (arith, here)) (omega (arith, here, long))
          ∙ (ap (λ l. take (behind - 12) l) first ∙ (ap (λ k. take k (flat_map dimension_bytes ds ++ f.rest)) span ∙ take-append_seam (flat_map dimension_bytes ds) f.rest)));
      dimension_count = ap (λ (c : PgpCursor). c.left) dimensions_is ∙ (reported ∙ all);
      elements = ap (λ c. rest bytes c) elements_is ∙ rest_after (f.begins.front ++ flat_map dimension_bytes ds) f.rest bytes behind end joined ends refl;
      element_count = ap (λ (c : PgpCursor). c.left) elements_is ∙ ap (λ a. (hint_of a).0) values.announced;
    }

-- the sides of a range
side_placed : (bits : Bits) (tag : ℕ) (s : Side) (bytes before front more : List ℕ) (end : ℕ) → SideSpelled bits tag s front → bytes ≡ before ++ (front ++ more) → end ≡ length bytes - length more → side_in bytes (bound_before s end) ≡ s
side_placed bits tag Unbounded bytes before front more end spelled parts last = refl
side_placed bits tag (Inclusive v) bytes before front more end spelled parts last = ap (λ (x : Option (List ℕ)). Inclusive x) (column_in bytes bytes before front more v 0 end (take-length bytes) spelled.2 parts (omega (arith, last)))
side_placed bits tag (Exclusive v) bytes before front more end spelled parts last = ap (λ (x : Option (List ℕ)). Exclusive x) (column_in bytes bytes before front more v 0 end (take-length bytes) spelled.2 parts (omega (arith, last)))

-- a place past the bytes serves where there is no value
lower_placed : (tag : ℕ) (s : Side) (bytes rest front more : List ℕ) (end : ℕ) → SideSpelled lower_bits tag s front → bytes ≡ tag ∷ rest → rest ≡ front ++ more → end ≡ min (side_length s + 5) 18446744073709551615 → length bytes < 2 ^ 64
    → side_in bytes (bound_before s end) ≡ s
lower_placed tag Unbounded bytes rest front more end spelled whole parts last fits = refl
lower_placed tag (Inclusive v) bytes rest front more end spelled whole parts last fits =
    let joined : bytes ≡ (tag ∷ []) ++ (front ++ more) = whole ∙ ap (λ l. tag ∷ l) parts in
    side_placed lower_bits tag (Inclusive v) bytes (tag ∷ []) front more end spelled joined
    (omega (arith, last, fits, ap length whole, ap length parts, length-append front more, value_size v front spelled.2))
lower_placed tag (Exclusive v) bytes rest front more end spelled whole parts last fits =
    let joined : bytes ≡ (tag ∷ []) ++ (front ++ more) = whole ∙ ap (λ l. tag ∷ l) parts in
    side_placed lower_bits tag (Exclusive v) bytes (tag ∷ []) front more end spelled joined
    (omega (arith, last, fits, ap length whole, ap length parts, length-append front more, value_size v front spelled.2))

-- the bound that ends at this place
bound_inside : (s : Side) (end size : ℕ) → end ≤ size → IsSideInside size (bound_before s end)
bound_inside Unbounded end size few = (omega arith, (omega arith, omega arith))
bound_inside (Inclusive v) end size few = (omega arith, column_inside v end size few)
bound_inside (Exclusive v) end size few = (omega arith, column_inside v end size few)

lower_inside : (tag : ℕ) (s : Side) (rest front more : List ℕ) (end size : ℕ) → SideSpelled lower_bits tag s front → size ≡ 1 + length rest → rest ≡ front ++ more → end ≤ side_length s + 5 → IsSideInside size (bound_before s end)
lower_inside tag Unbounded rest front more end size spelled long parts last = (omega arith, (omega arith, omega arith))
lower_inside tag (Inclusive v) rest front more end size spelled long parts last =
    bound_inside (Inclusive v) end size (omega (arith, last, long, ap length parts, length-append front more, value_size v front spelled.2))
lower_inside tag (Exclusive v) rest front more end size spelled long parts last =
    bound_inside (Exclusive v) end size (omega (arith, last, long, ap length parts, length-append front more, value_size v front spelled.2))

pub range_within : (bytes : List ℕ) (l u : Side) (r : PgpRange) (first end : ℕ) → RangeReads bytes (Ok (between l u)) → r.lower ≡ bound_before l first → r.upper ≡ bound_before u end
    → r.is_empty ≡ false → first ≡ min (side_length l + 5) 18446744073709551615 → end ≡ length bytes → IsRangeInside (length bytes) r
range_within bytes l u r first end (tag, rest, whole, other, s) lower_is upper_is full place last = (
  subst (λ b. IsSideInside (length bytes) b) (sym lower_is) (lower_inside tag l rest s.first s.second first (length bytes) s.one (omega (arith, ap length whole)) s.whole (omega (arith, place))),
  subst (λ b. IsSideInside (length bytes) b) (sym upper_is) (bound_inside u end (length bytes) (omega (arith, last))),
  λ is. let e : false ≡ true = sym full ∙ is in absurd cc,
)

pub range_placed : (bytes : List ℕ) (l u : Side) (lower upper : PgpBound) (first end : ℕ) → RangeReads bytes (Ok (between l u)) → lower ≡ bound_before l first → upper ≡ bound_before u end
    → first ≡ min (side_length l + 5) 18446744073709551615 → end ≡ length bytes → length bytes < 2 ^ 64 → RangeReads bytes (Ok (between (side_in bytes lower) (side_in bytes upper)))
range_placed bytes l u lower upper first end (tag, rest, whole, other, s) lower_is upper_is place last fits =
    let low : side_in bytes lower ≡ l = ap (λ b. side_in bytes b) lower_is ∙ lower_placed tag l bytes rest s.first s.second first s.one whole s.whole place fits in
    let joined : bytes ≡ (tag ∷ s.first) ++ (s.second ++ []) = whole ∙ ap (λ l. tag ∷ l) (s.whole ∙ ap (λ l. s.first ++ l) (sym (append-nil s.second))) in
    let high : side_in bytes upper ≡ u = ap (λ b. side_in bytes b) upper_is ∙ side_placed upper_bits tag u bytes (tag ∷ s.first) s.second [] end s.other joined (omega (arith, last)) in
    subst (λ x. RangeReads bytes (Ok (between x (side_in bytes upper)))) (sym low) (subst (λ x. RangeReads bytes (Ok (between l x))) (sym high) (tag, rest, whole, other, s))

-- a dimension is read as it is spelled
dimension_own : (bytes : List ℕ) → dimension.Refused bytes NotDrained → ⊥
dimension_own bytes (inl cut) = let e : NotDrained ≡ UnexpectedEof = cut.1 in absurd cc
dimension_own bytes (inr (x, rest, b, cut)) = let e : NotDrained ≡ UnexpectedEof = cut.1 in absurd cc

pub dimension_reader : IsReader (λ place. dimension.Spelled) dimension.Refused (λ place. dimension_at)
dimension_reader = part_reader (then_part (fixed_is int32_spelling) (fixed_is int32_spelling)) (λ x front s. omega (arith, ap length s.whole, length-append s.first s.second, ap length s.one.1, int32_number.len x.0)) dimension_own

-- a length that passes its field, and the number of that error
abbrev code_of : Cause → ℕ
code_of None = 0
code_of (Some e) = number_of e

pub too_long : (n : ℕ) (e : Error) → length_cause n ≡ Some e → (number_of e ≡ 3) × (2147483647 < n)
too_long n e is = elim (cases_lt 2147483647 n) [
  | inl long ↦ (ap code_of (sym is ∙ length_past n (omega (arith, long))), long)
  | inr few ↦ absurd (let none : length_cause n ≡ None = length_fits n (omega (arith, few)) in let e = sym none ∙ is in cc)
]
