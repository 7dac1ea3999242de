-- The parts of an array are read as they are spelled.
use Rattle.pgp_types.proofs.Common.{◌≡◌, ◌≢◌, ℕ, ℤ, suc, pos, negsuc, ◌+◌, ◌-◌, ◌*◌, ◌<◌, ◌≤◌, ◌^◌, Bool, true, false, List, [], ◌∷◌, ◌++◌, length, take, Option, Some, None, Result, Ok, Err, refl, sym, ap, subst, ◌∙◌, append_assoc, arith, inl, inr, ◌⊎◌, FitsSigned, length-append, All, nat_le, not, eqb, take-append_seam, w32, cast_signed, cast_unsigned, flat_map, le-leb, leb-true, eqb-true, eq-eqb, to_z-of_z, All-push, Error, UnexpectedEof, NotDrained, InvalidCount, InvalidValueLength, InvalidDimension, TooManyElements, int32, uint32, IsBytes, IsReader, counted, counted_run, counted_whole, ok_is, differ, IsBytes-after, fits_of, length_fits, int32_number, number_again, flat_snoc, length-uint32, ArrayDimension, Part, Begins, IsWalk, Reader, IsDimension, dimension_bytes, Product, elements_of, head, dimension, Extent, Front, IsFlag, ArrayRead, ArrayReads, finished, head_at, dimension_at, product_of, product_at, each_at, element_at}
use Rattle.std.specs.Prelude.{IsErrAnd}
use Rattle.pgp_types.specs.Part.{nullable}
use Rattle.pgp_types.proofs.Numbers.{int32_spelling, uint32_spelling}
use Rattle.pgp_types.proofs.PartLemmas.{IsPart, IsTest, natural_part, nullable_part, fixed_is, only_part, then_part, not_passed, and_then_ok, and_then_err, int32_pos, rest_bytes}
use Rattle.pgp_base.proofs.PartLemmas.{int32_value}
use Rattle.std.proofs.Common.{true≢false}

pub head_is : IsPart head head_at
head_is = then_part (natural_part InvalidCount) (then_part (fixed_is int32_spelling) (fixed_is uint32_spelling))

product_test : (p : ℕ) → IsTest (λ (d : ℕ × ℤ). p * d.0 ≤ 2147483647) (λ d. nat_le (p * d.0) 2147483647)
product_test p = record {
  yes = λ d e. leb-true (p * d.0) 2147483647 e;
  passes = λ d h. le-leb (p * d.0) 2147483647 h;
  fails = λ d no. not_passed (nat_le (p * d.0) 2147483647) (λ t. no (leb-true (p * d.0) 2147483647 t));
}

pub dimension_is : (p : ℕ) → IsPart (dimension p) (dimension_at p)
dimension_is p = only_part (product_test p) TooManyElements (then_part (natural_part InvalidDimension) (fixed_is int32_spelling))

abbrev pub of : ℕ × ℤ → ArrayDimension
of d = record { len = pos d.0; lower_bound = d.1 }

-- what stands there where a dimension was read
pub record IsNext (p : ℕ) (bytes : List ℕ) (d : ℕ × ℤ) (rest : List ℕ) : Type 0 where
  pub in_range : IsDimension (of d)
  pub fits : p * d.0 ≤ 2147483647
  pub whole : bytes ≡ dimension_bytes (of d) ++ rest

pub is_next : (p : ℕ) (bytes : List ℕ) (d : ℕ × ℤ) (rest : List ℕ) → Begins (dimension p) bytes d rest → IsNext p bytes d rest
is_next p bytes d rest b =
    let s = b.spelled.0 in
    let spelled : b.front ≡ int32 (pos d.0) ++ int32 d.1 = s.whole ∙ rw (s.one.1, s.other.1, int32_pos d.0) refl in
    record { in_range = (record { sfits = fits_of d.0 s.one.0 }, s.other.0); fits = b.spelled.1; whole = b.whole ∙ ap (λ l. l ++ rest) spelled }

pub next_spelled : (p : ℕ) (d : ℕ × ℤ) → IsDimension (of d) → p * d.0 ≤ 2147483647 → (dimension p).Spelled d (dimension_bytes (of d))
next_spelled p d h fits =
    (record { first = uint32 d.0; second = int32 d.1; whole = rw (int32_pos d.0) refl; one = (length_fits d.0 h.0.sfits, refl); other = (h.1, refl) }, fits)

product_snoc : (q : ℕ) (ds : List ArrayDimension) (p : ℕ) (d : ArrayDimension) (n : ℕ) → Product q ds p → d.len ≡ pos n → p * n ≤ 2147483647 → Product q (ds ++ d ∷ []) (p * n)
product_snoc q [] p d n h e k = (n, e, subst (λ (q : ℕ). q * n ≤ 2147483647) (sym h) k, ap (λ (q : ℕ). q * n) h)
product_snoc q (c ∷ ds) p d n h e k = (h.0, h.1, h.2, product_snoc (q * h.0) ds p d n h.3 e k)

product_small : (q : ℕ) (ds : List ArrayDimension) (p : ℕ) → q ≤ 2147483647 → Product q ds p → p < 2 ^ 31
product_small q [] p small h = omega (arith, h)
product_small q (c ∷ ds) p small h = product_small (q * h.0) ds p h.2 h.3

pub extent_small : (bytes : List ℕ) (ds : List ArrayDimension) (p : ℕ) (rest : List ℕ) → Extent bytes ds p rest → p < 2 ^ 31
extent_small bytes ds p rest x = product_small 1 ds p (omega arith) x.are

-- a property of each of a list
all_none : (P : ArrayDimension → Type 0) → All P []
all_none P k d lt = absurd (omega (arith, lt))

pub all_head : (P : ArrayDimension → Type 0) (x : ArrayDimension) (xs : List ArrayDimension) → All P (x ∷ xs) → P x
all_head P x xs h = h 0 x (omega arith)

pub all_tail : (P : ArrayDimension → Type 0) (x : ArrayDimension) (xs : List ArrayDimension) → All P (x ∷ xs) → All P xs
all_tail P x xs h k d lt = h (suc k) d (omega (arith, lt))

pub extent_none : (bytes : List ℕ) → Extent bytes [] 1 bytes
extent_none bytes = record { in_range = all_none IsDimension; are = refl; whole = refl }

pub extent_more : (bytes : List ℕ) (ds : List ArrayDimension) (p : ℕ) (rest : List ℕ) (d : ℕ × ℤ) (after : List ℕ) → Extent bytes ds p rest → IsNext p rest d after → Extent bytes (ds ++ of d ∷ []) (p * d.0) after
extent_more bytes ds p rest d after x n = record {
  in_range = All-push IsDimension ds (of d) x.in_range n.in_range;
  are = product_snoc 1 ds p (of d) d.0 x.are refl n.fits;
  whole = x.whole ∙ (ap (λ l. flat_map dimension_bytes ds ++ l) n.whole ∙ (sym (append_assoc (flat_map dimension_bytes ds) (dimension_bytes (of d)) after) ∙ ap (λ l. l ++ after) (sym (flat_snoc dimension_bytes ds (of d)))));
}

-- a step along the dimensions
pub product_found : (p : ℕ) (bytes : List ℕ) (q : ℕ) (rest : List ℕ) → IsBytes bytes → product_at p bytes ≡ Ok (q, rest) → (d : ℕ × ℤ) × IsNext p bytes d rest × (p * d.0 ≡ q)
unfolding product_at
product_found p bytes q rest h e =
    let w = and_then_ok (dimension_at p bytes) (product_of p) (q, rest) e in
    let same = ok_is (p * w.0.0.0, w.0.1) (q, rest) w.2 in
    (w.0.0, subst (λ (r : List ℕ). IsNext p bytes w.0.0 r) (ap (λ x. x.1) same) (is_next p bytes w.0.0 w.0.1 ((dimension_is p).found bytes w.0.0 w.0.1 h w.1)), ap (λ x. x.0) same)

pub product_refused : (p : ℕ) (bytes : List ℕ) (e : Error) → IsBytes bytes → product_at p bytes ≡ Err e → (dimension p).Refused bytes e
unfolding product_at
product_refused p bytes e h is =
    elim (and_then_err (dimension_at p bytes) (product_of p) e is) [
      | inl r ↦ (dimension_is p).refused bytes e h r
      | inr w ↦ absurd (differ (p * w.0.0.0, w.0.1) e w.2)
    ]

-- a dimension that was spelled is read
each_again : (d : ArrayDimension) (rest : List ℕ) → IsDimension d → each_at (dimension_bytes d ++ rest) ≡ Ok (d, rest)
unfolding each_at
each_again d rest h =
    rw (append_assoc (int32 d.len) (int32 d.lower_bound) rest, number_again 4 (FitsSigned w32) int32 int32_value int32_number d.len (int32 d.lower_bound ++ rest) h.0, number_again 4 (FitsSigned w32) int32 int32_value int32_number d.lower_bound rest h.1) refl

each_run : (ds : List ArrayDimension) → All IsDimension ds → counted_run each_at (length ds) (flat_map dimension_bytes ds) ≡ (ds, None)
each_run [] h = refl
each_run (d ∷ ds) h = rw (each_again d (flat_map dimension_bytes ds) (all_head IsDimension d ds h), each_run ds (all_tail IsDimension d ds h)) refl

-- the walk over the dimensions that were read is finished
pub each_walk : (ds : List ArrayDimension) (n : ℕ) (bytes : List ℕ) → All IsDimension ds → length ds ≡ n → bytes ≡ flat_map dimension_bytes ds → counted each_at n bytes None ≡ finished ds
each_walk ds n bytes h e is =
    let run = each_run ds h in
    rw (is, sym e, run) refl

-- A part that takes bytes, as what a walk reads.
pub part_reader : {V : Type 0} {p : Part V} {read : Reader V} → IsPart p read → ((x : V) (front : List ℕ) → p.Spelled x front → 0 < length front) → ((bytes : List ℕ) → p.Refused bytes NotDrained → ⊥)
    → IsReader (λ place. p.Spelled) p.Refused (λ place. read)
part_reader {V} {p} {read} part some own = record {
  found = λ place bytes x after h e. let b = part.found bytes x after h e in record { front = b.front; whole = b.whole; spelled = b.spelled };
  again = λ place x front after s. part.again x front after s;
  refused = λ place bytes e h r. part.refused bytes e h r;
  refuses = λ place bytes e r. part.refuses bytes e r;
  some = λ place x front s. some x front s;
  own = own;
}

element_some : (x : Option (List ℕ)) (front : List ℕ) → (nullable InvalidValueLength).Spelled x front → 0 < length front
element_some None front s = omega (arith, ap (λ l. length l) s.2, int32_number.len (negsuc s.0))
element_some (Some v) front s = omega (arith, ap (λ l. length l) s.1, length-append (uint32 (length v)) v, length-uint32 (length v))

element_own : (bytes : List ℕ) → (nullable InvalidValueLength).Refused bytes NotDrained → ⊥
element_own bytes (inl cut) = let e : NotDrained ≡ UnexpectedEof = cut.1 in absurd cc
element_own bytes (inr short) = let e : NotDrained ≡ InvalidValueLength = short.1 in absurd cc

pub element_reader : IsReader (λ place. (nullable InvalidValueLength).Spelled) (nullable InvalidValueLength).Refused (λ place. element_at)
element_reader = part_reader (nullable_part InvalidValueLength) element_some element_own

pub element_walk : (n : ℕ) (bytes : List ℕ) → IsBytes bytes → IsWalk (nullable InvalidValueLength) n bytes (counted element_at n bytes None)
element_walk n bytes h = record { items = counted_whole (λ place. (nullable InvalidValueLength).Spelled) (nullable InvalidValueLength).Refused (λ place. element_at) element_reader n bytes h; announced = refl }

-- What the reader of an array comes to.

pub reads_err : (bytes : List ℕ) (r : Result ArrayRead Error) (x : Error) → IsErrAnd r (λ e. e ≡ x)
    → head.Refused bytes x ⊎ ((f : Front bytes) × (length f.dimensions < f.count) × (dimension f.product).Refused f.rest x) → ArrayReads bytes r
reads_err bytes (Ok y) x h p = absurd h
reads_err bytes (Err e) x h p =
    subst (λ (e : Error). head.Refused bytes e ⊎ ((f : Front bytes) × (length f.dimensions < f.count) × (dimension f.product).Refused f.rest e)) (sym h) p

abbrev pub front_of : (bytes : List ℕ) (count : ℕ) (flag : ℤ) (type : ℕ) (behind : List ℕ) → IsBytes bytes → head_at bytes ≡ Ok ((count, (flag, type)), behind)
    → (ds : List ArrayDimension) (p : ℕ) (rest : List ℕ) → Extent behind ds p rest → Front bytes
front_of bytes count flag type behind h is ds p rest x =
    record { count = count; flag = flag; element_type = type; behind = behind; begins = head_is.found bytes (count, (flag, type)) behind h is; dimensions = ds; product = p; rest = rest; extent = x }

pub behind_bytes : (bytes : List ℕ) (x : ℕ × (ℤ × ℕ)) (behind : List ℕ) → IsBytes bytes → head_at bytes ≡ Ok (x, behind) → IsBytes behind
behind_bytes bytes x behind h is = rest_bytes bytes x behind (head_is.found bytes x behind h is) h

pub next_bytes : (p : ℕ) (bytes : List ℕ) (d : ℕ × ℤ) (rest : List ℕ) → IsNext p bytes d rest → IsBytes bytes → IsBytes rest
next_bytes p bytes d rest n h = IsBytes-after (dimension_bytes (of d)) rest bytes n.whole h

pub extent_bytes : (bytes : List ℕ) (ds : List ArrayDimension) (p : ℕ) (rest : List ℕ) → Extent bytes ds p rest → IsBytes bytes → IsBytes rest
extent_bytes bytes ds p rest x h = IsBytes-after (flat_map dimension_bytes ds) rest bytes x.whole h

-- the bytes of the dimensions, cut off in front of the rest
pub split_length : (bytes : List ℕ) (ds : List ArrayDimension) (p : ℕ) (rest : List ℕ) → Extent bytes ds p rest → length bytes ≡ length (flat_map dimension_bytes ds) + length rest
split_length bytes ds p rest x = ap (λ l. length l) x.whole ∙ length-append (flat_map dimension_bytes ds) rest

pub split_is : (bytes : List ℕ) (ds : List ArrayDimension) (p : ℕ) (rest : List ℕ) (n : ℕ) (front : List ℕ) → Extent bytes ds p rest → n ≡ length bytes - length rest → front ≡ take n bytes → front ≡ flat_map dimension_bytes ds
split_is bytes ds p rest n front x at is =
    let k : n ≡ length (flat_map dimension_bytes ds) = omega (arith, at, split_length bytes ds p rest x) in
    is ∙ rw (x.whole, k) (take-append_seam (flat_map dimension_bytes ds) rest)

pub elements_is : (ds : List ArrayDimension) (count p n : ℕ) → length ds ≡ count → (count ≡ 0 → n ≡ 0) → (count ≢ 0 → n ≡ p) → n ≡ elements_of ds p
elements_is [] count p n e none some = none (sym e)
elements_is (d ∷ ds) count p n e none some = some (λ z. omega (arith, e, z))

-- whether a number is set, by its bits
abbrev pub is_set : ℤ → Bool
is_set z = not (eqb (cast_unsigned w32 z) 0)

set_by : (z : ℤ) (b : Bool) → FitsSigned w32 z → eqb (cast_unsigned w32 z) 0 ≡ b → IsFlag (not b) z
set_by z true fits e = sym (to_z-of_z w32 z fits) ∙ ap (cast_signed w32) (eqb-true (cast_unsigned w32 z) 0 e)
set_by z false fits e = λ zero_is. true≢false (sym (eq-eqb (cast_unsigned w32 z) 0 (ap (cast_unsigned w32) zero_is)) ∙ e)

pub set_is : (z : ℤ) → FitsSigned w32 z → IsFlag (is_set z) z
set_is z fits = set_by z (eqb (cast_unsigned w32 z) 0) fits refl

pub array_read : (bytes : List ℕ) (count : ℕ) (flag : ℤ) (type : ℕ) (behind : List ℕ) (h : IsBytes bytes) (is : head_at bytes ≡ Ok ((count, (flag, type)), behind))
    (ds : List ArrayDimension) (p : ℕ) (rest : List ℕ) (x : Extent behind ds p rest) → length ds ≡ count → (front : List ℕ) → front ≡ flat_map dimension_bytes ds → (n : ℕ) → n ≡ elements_of ds p
    → ArrayReads bytes (Ok (record { has_nulls = is_set flag; element_type = type; dimensions = counted each_at count front None; values = counted element_at n rest None }))
array_read bytes count flag type behind h is ds p rest x all front cut n counts =
    let small = behind_bytes bytes (count, (flag, type)) behind h is in (
      front_of bytes count flag type behind h is ds p rest x,
      all,
      set_is flag ((head_is.found bytes (count, (flag, type)) behind h is).spelled.other.one.0),
      refl,
      each_walk ds count front x.in_range all cut,
      subst (λ (m : ℕ). IsWalk (nullable InvalidValueLength) m rest (counted element_at n rest None)) counts (element_walk n rest (extent_bytes behind ds p rest x small)),
    )
