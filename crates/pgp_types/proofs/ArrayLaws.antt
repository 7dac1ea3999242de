-- Each list of bytes has one reading as an array, and what is written for an array is read as that array.
use Rattle.pgp_types.proofs.Common.{◌≡◌, ℕ, ℤ, zero, suc, pos, ◌+◌, ◌*◌, ◌<◌, ◌≤◌, Bool, true, false, List, [], ◌∷◌, ◌++◌, length, map, Option, Some, None, Result, Ok, Err, refl, sym, ap, subst, ◌∙◌, append_assoc, arith, inl, inr, ◌⊎◌, FitsSigned, length-append, All, not, w32, cast_signed, cast_unsigned, flat_map, concat, eqb, eqb-true, to_z-of_z, Error, InvalidValueLength, first, length_cause, nullable_cause, uint32, int32, IsBytes, Spellings, Walk, counted, counted_one, not_more_items, ok, either_left, either_right, int32_spelled, length-uint32, ArrayDimension, IsSound, Begins, IsWalk, Reader, and_then, Array, IsDimension, dimension_bytes, has_null, flag_of, array_bytes, array_cause, Product, elements_of, head, dimension, Extent, Front, IsFlag, ArrayRead, ArrayReads, IsArray, array_seen, array, finished, head_at, dimension_at, element_at}
use Rattle.pgp_base.specs.Wire.{oid as oid_bytes, nullable as nullable_bytes}
use Rattle.pgp_types.specs.Part.{nullable}
use Rattle.pgp_types.proofs.PartLemmas.{begins_read, int32_pos}
use Rattle.pgp_types.proofs.ArrayLemmas.{head_is, dimension_is, of, all_head, all_tail, is_next, next_spelled, extent_none, extent_more, next_bytes, extent_bytes, behind_bytes, element_reader, element_walk, is_set, set_is}

-- Every list of bytes has a reading.

-- the dimensions that are left stand there, or one of them is rejected
some_dimensions : (behind : List ℕ) (left : ℕ) (ds : List ArrayDimension) (p : ℕ) (rest : List ℕ) → IsBytes rest → Extent behind ds p rest
    → ((es : List ArrayDimension) × (q : ℕ) × (after : List ℕ) × Extent behind es q after × (length es ≡ length ds + left))
    ⊎ ((es : List ArrayDimension) × (q : ℕ) × (after : List ℕ) × (e : Error) × Extent behind es q after × (length es < length ds + left) × (dimension q).Refused after e)
some_dimensions behind zero ds p rest h x = inl (ds, p, rest, x, omega arith)
some_dimensions behind (suc left) ds p rest h x =
    let by_result : (r : Result ((ℕ × ℤ) × List ℕ) Error) → dimension_at p rest ≡ r
    → ((es : List ArrayDimension) × (q : ℕ) × (after : List ℕ) × Extent behind es q after × (length es ≡ length ds + suc left))
    ⊎ ((es : List ArrayDimension) × (q : ℕ) × (after : List ℕ) × (e : Error) × Extent behind es q after × (length es < length ds + suc left) × (dimension q).Refused after e) =
    λ r. elim r as (λ v. dimension_at p rest ≡ v
    → ((es : List ArrayDimension) × (q : ℕ) × (after : List ℕ) × Extent behind es q after × (length es ≡ length ds + suc left))
    ⊎ ((es : List ArrayDimension) × (q : ℕ) × (after : List ℕ) × (e : Error) × Extent behind es q after × (length es < length ds + suc left) × (dimension q).Refused after e)) [
      | Ok w ↦ λ is.
          let n = is_next p rest w.0 w.1 ((dimension_is p).found rest w.0 w.1 h is) in
          let one : length (ds ++ of w.0 ∷ []) ≡ length ds + 1 = length-append ds (of w.0 ∷ []) in
          elim (some_dimensions behind left (ds ++ of w.0 ∷ []) (p * w.0.0) w.1 (next_bytes p rest w.0 w.1 n h) (extent_more behind ds p rest w.0 w.1 x n)) [
            | inl all ↦ inl (all.0, all.1, all.2, all.3, omega (arith, all.4, one))
            | inr cut ↦ inr (cut.0, cut.1, cut.2, cut.3, cut.4, omega (arith, cut.5, one), cut.6)
          ]
      | Err e ↦ λ is. inr (ds, p, rest, e, x, omega arith, (dimension_is p).refused rest e h is)
    ] in
    by_result (dimension_at p rest) refl

some_array : (bytes : List ℕ) → IsBytes bytes → (r : Result ArrayRead Error) × ArrayReads bytes r
some_array bytes h =
    let by_result : (r : Result ((ℕ × (ℤ × ℕ)) × List ℕ) Error) → head_at bytes ≡ r → (r : Result ArrayRead Error) × ArrayReads bytes r =
    λ r. elim r as (λ v. head_at bytes ≡ v → (r : Result ArrayRead Error) × ArrayReads bytes r) [
      | Ok w ↦ λ is.
          let begins = head_is.found bytes w.0 w.1 h is in
          let small = behind_bytes bytes w.0 w.1 h is in
          elim (some_dimensions w.1 w.0.0 [] 1 w.1 small (extent_none w.1)) [
            | inl all ↦
                let f : Front bytes = record { count = w.0.0; flag = w.0.1.0; element_type = w.0.1.1; behind = w.1; begins = begins; dimensions = all.0; product = all.1; rest = all.2; extent = all.3 } in
                let n = elements_of all.0 all.1 in
                let v : ArrayRead = record { has_nulls = is_set w.0.1.0; element_type = w.0.1.1; dimensions = finished all.0; values = counted element_at n all.2 None } in
                (Ok v, (f, omega (arith, all.4), set_is w.0.1.0 begins.spelled.other.one.0, refl, refl, element_walk n all.2 (extent_bytes w.1 all.0 all.1 all.2 all.3 small)))
            | inr cut ↦
                let f : Front bytes = record { count = w.0.0; flag = w.0.1.0; element_type = w.0.1.1; behind = w.1; begins = begins; dimensions = cut.0; product = cut.1; rest = cut.2; extent = cut.4 } in
                (Err cut.3, inr (f, omega (arith, cut.5), cut.6))
          ]
      | Err e ↦ λ is. (Err e, inl (head_is.refused bytes e h is))
    ] in
    by_result (head_at bytes) refl

-- The reading as a function: there is no other.

behind_dimension : ℕ × ℤ → List ArrayDimension × ℕ → List ℕ → Result ((List ArrayDimension × ℕ) × List ℕ) Error
behind_dimension d x rest = Ok ((of d ∷ x.0, x.1), rest)

dimensions_at : ℕ → ℕ → Reader (List ArrayDimension × ℕ)
dimensions_at zero p bytes = Ok (([], p), bytes)
dimensions_at (suc n) p bytes = and_then (dimension_at p bytes) (λ d rest. and_then (dimensions_at n (p * d.0) rest) (behind_dimension d))

array_of : ℕ × (ℤ × ℕ) → List ArrayDimension × ℕ → List ℕ → Result ArrayRead Error
array_of h x rest = Ok (record { has_nulls = is_set h.1.0; element_type = h.1.1; dimensions = finished x.0; values = counted element_at (elements_of x.0 x.1) rest None })

array_at : List ℕ → Result ArrayRead Error
array_at bytes = and_then (head_at bytes) (λ h rest. and_then (dimensions_at h.0 1 rest) (array_of h))

same_dimension : (d : ArrayDimension) (n : ℕ) → d.len ≡ pos n → of (n, d.lower_bound) ≡ d
same_dimension d n e = rw (sym e) refl

-- a dimension that was spelled is read
dimension_again : (p n : ℕ) (d : ArrayDimension) (rest : List ℕ) → IsDimension d → d.len ≡ pos n → p * n ≤ 2147483647 → dimension_at p (dimension_bytes d ++ rest) ≡ Ok ((n, d.lower_bound), rest)
dimension_again p n d rest h e fits =
    let same = same_dimension d n e in
    let in_range : IsDimension (of (n, d.lower_bound)) = subst IsDimension (sym same) h in
    (dimension_is p).again (n, d.lower_bound) (dimension_bytes d) rest (subst (λ (x : ArrayDimension). (dimension p).Spelled (n, d.lower_bound) (dimension_bytes x)) same (next_spelled p (n, d.lower_bound) in_range fits))

dimensions_again : (ds : List ArrayDimension) (q p : ℕ) (rest : List ℕ) → All IsDimension ds → Product q ds p → dimensions_at (length ds) q (flat_map dimension_bytes ds ++ rest) ≡ Ok ((ds, p), rest)
unfolding dimensions_at behind_dimension
dimensions_again [] q p rest h x = rw x refl
dimensions_again (d ∷ ds) q p rest h x =
    let more : List ℕ = flat_map dimension_bytes ds ++ rest in
    rw (append_assoc (dimension_bytes d) (flat_map dimension_bytes ds) rest, dimension_again q x.0 d more (all_head IsDimension d ds h) x.1 x.2, dimensions_again ds (q * x.0) p rest (all_tail IsDimension d ds h) x.3, same_dimension d x.0 x.1) refl

dimensions_stop : (ds : List ArrayDimension) (q p n : ℕ) (rest : List ℕ) (e : Error) → All IsDimension ds → Product q ds p → length ds < n → (dimension p).Refused rest e
    → dimensions_at n q (flat_map dimension_bytes ds ++ rest) ≡ Err e
unfolding dimensions_at behind_dimension
dimensions_stop ds q p zero rest e h x lt r = absurd (omega (arith, lt))
dimensions_stop [] q p (suc n) rest e h x lt r =
    let is : dimension_at q rest ≡ Err e = rw x ((dimension_is p).refuses rest e r) in
    rw is refl
dimensions_stop (d ∷ ds) q p (suc n) rest e h x lt r =
    let more : List ℕ = flat_map dimension_bytes ds ++ rest in
    rw (append_assoc (dimension_bytes d) (flat_map dimension_bytes ds) rest, dimension_again q x.0 d more (all_head IsDimension d ds h) x.1 x.2, dimensions_stop ds (q * x.0) p n rest e (all_tail IsDimension d ds h) x.3 (omega (arith, lt)) r) refl

-- a flag is set as its bits are
set_only : (b : Bool) (z : ℤ) → FitsSigned w32 z → IsFlag b z → b ≡ is_set z
set_only false z fits h = rw h refl
set_only true z fits h =
    let by_test : (b : Bool) → eqb (cast_unsigned w32 z) 0 ≡ b → true ≡ not b = λ b. elim b as (λ v. eqb (cast_unsigned w32 z) 0 ≡ v → true ≡ not v) [
      | true ↦ λ e. absurd (h (sym (to_z-of_z w32 z fits) ∙ ap (cast_signed w32) (eqb-true (cast_unsigned w32 z) 0 e)))
      | false ↦ λ e. refl
    ] in
    by_test (eqb (cast_unsigned w32 z) 0) refl

-- by equal parts
read_by : (a b : Bool) (m n : ℕ) (v w : Walk ArrayDimension) (i j : List (Option (List ℕ))) (d e : Option Error) (k l : Option ℕ) → a ≡ b → m ≡ n → v ≡ w → i ≡ j → d ≡ e → k ≡ l
    → (let x : ArrayRead = record { has_nulls = a; element_type = m; dimensions = v; values = record { items = i; end = d; announced = k } } in
    let y : ArrayRead = record { has_nulls = b; element_type = n; dimensions = w; values = record { items = j; end = e; announced = l } } in x ≡ y)
read_by a b m n v w i j d e k l ab mn vw ij de kl = rw (ab, mn, vw, ij, de, kl) refl

only_array : (bytes : List ℕ) (r : Result ArrayRead Error) → ArrayReads bytes r → array_at bytes ≡ r
unfolding array_at array_of
only_array bytes (Ok v) x =
    let f = x.0 in
    let n = elements_of f.dimensions f.product in
    let dims : dimensions_at f.count 1 f.behind ≡ Ok ((f.dimensions, f.product), f.rest) = rw (f.extent.whole, sym x.1) (dimensions_again f.dimensions 1 f.product f.rest f.extent.in_range f.extent.are) in
    let run = counted_one (λ place. (nullable InvalidValueLength).Spelled) (nullable InvalidValueLength).Refused (λ place. element_at) element_reader n f.rest v.values.items v.values.end x.5.items in
    let same = read_by (is_set f.flag) v.has_nulls f.element_type v.element_type (finished f.dimensions) v.dimensions _ v.values.items _ v.values.end (Some n) v.values.announced
    (sym (set_only v.has_nulls f.flag f.begins.spelled.other.one.0 x.2)) (sym x.3) (sym x.4) (ap (λ w. w.0) run) (ap (λ w. w.1) run) (sym x.5.announced) in
    rw (begins_read head_is bytes (f.count, (f.flag, f.element_type)) f.behind f.begins, dims) (ap (λ w. ok w) same)
only_array bytes (Err e) (inl r) = rw (head_is.refuses bytes e r) refl
only_array bytes (Err e) (inr x) =
    let f = x.0 in
    let dims : dimensions_at f.count 1 f.behind ≡ Err e = rw f.extent.whole (dimensions_stop f.dimensions 1 f.product f.count f.rest e f.extent.in_range f.extent.are x.1 x.2) in
    rw (begins_read head_is bytes (f.count, (f.flag, f.element_type)) f.behind f.begins, dims) refl

-- What is written is read back.

flag_is : (b : Bool) → IsFlag b (pos (flag_of b))
flag_is false = refl
flag_is true = λ e. absurd cc

flag_fits : (b : Bool) → FitsSigned w32 (pos (flag_of b))
flag_fits false = record { sfits = omega arith }
flag_fits true = record { sfits = omega arith }

flat_is_concat : {A : Type 0} (f : A → List ℕ) (xs : List A) → flat_map f xs ≡ concat (map f xs) ++ []
flat_is_concat f [] = refl
flat_is_concat f (x ∷ xs) = ap (λ l. f x ++ l) (flat_is_concat f xs) ∙ sym (append_assoc (f x) (concat (map f xs)) [])

each_spelled : (place : ℕ) (vs : List (Option (List ℕ))) → first (map nullable_cause vs) ≡ None → Spellings (λ place. (nullable InvalidValueLength).Spelled) place vs (map nullable_bytes vs)
each_spelled place [] h = tt
each_spelled place (None ∷ vs) h = ((0, record { sfits = omega arith }, refl), each_spelled (place + length (nullable_bytes None)) vs h)
each_spelled place (Some v ∷ vs) h =
    ((either_left (length_cause (length v)) (first (map nullable_cause vs)) h, refl), each_spelled (place + length (nullable_bytes (Some v))) vs (either_right (length_cause (length v)) (first (map nullable_cause vs)) h))

written_walk : (vs : List (Option (List ℕ))) (n : ℕ) → first (map nullable_cause vs) ≡ None → length vs ≡ n → IsWalk (nullable InvalidValueLength) n (flat_map nullable_bytes vs) (finished vs)
written_walk vs n h all = record {
  items = record { fronts = map nullable_bytes vs; rest = []; whole = flat_is_concat nullable_bytes vs; each = each_spelled 0 vs h; ends = (all, refl) };
  announced = ap (λ n. Some n) all;
}

back_array : (a : Array) → IsArray a → array_cause a ≡ None → ArrayReads (array_bytes a) (Ok (array_seen a))
back_array a is none =
    let counted_fits : length_cause (length a.dimensions) ≡ None = either_left (length_cause (length a.dimensions)) (first (map nullable_cause a.elements)) none in
    let elements_fit = either_right (length_cause (length a.dimensions)) (first (map nullable_cause a.elements)) none in
    let flag = flag_of (has_null a.elements) in
    let c : List ℕ = uint32 (length a.dimensions) in
    let f : List ℕ = uint32 flag in
    let o : List ℕ = oid_bytes a.element_type in
    let ds : List ℕ = flat_map dimension_bytes a.dimensions in
    let es : List ℕ = flat_map nullable_bytes a.elements in
    let whole : array_bytes a ≡ (c ++ (f ++ o)) ++ (ds ++ es) = append_assoc (c ++ f ++ o) ds es ∙ ap (λ l. l ++ (ds ++ es)) (append_assoc c f o) in
    let begins : Begins head (array_bytes a) (length a.dimensions, (pos flag, a.element_type)) (ds ++ es) = record {
      front = c ++ (f ++ o);
      whole = whole;
      spelled = record {
        first = c;
        second = f ++ o;
        whole = refl;
        one = (counted_fits, refl);
        other = record { first = f; second = o; whole = refl; one = (flag_fits (has_null a.elements), sym (int32_pos flag)); other = (is.type, refl) };
      };
    } in
    let front : Front (array_bytes a) = record {
      count = length a.dimensions;
      flag = pos flag;
      element_type = a.element_type;
      behind = ds ++ es;
      begins = begins;
      dimensions = a.dimensions;
      product = is.product;
      rest = es;
      extent = record { in_range = is.in_range; are = is.are; whole = refl };
    } in
    (front, refl, flag_is (has_null a.elements), refl, refl, written_walk a.elements (elements_of a.dimensions is.product) elements_fit is.elements)

pub array_sound : IsSound array
array_sound = record {
  some = some_array;
  one = λ bytes r s p q. sym (only_array bytes r p) ∙ only_array bytes s q;
  back = back_array;
}

-- no more elements than bytes
pub few_elements : (bytes : List ℕ) (v : ArrayRead) → ArrayReads bytes (Ok v) → length v.values.items ≤ length bytes
few_elements bytes v x =
    let f = x.0 in
    let some = not_more_items (λ place. (nullable InvalidValueLength).Spelled) (nullable InvalidValueLength).Refused (λ place. element_at) element_reader _ 0 f.rest v.values.items v.values.end x.5.items in
    omega (arith, some, ap (λ l. length l) f.begins.whole, length-append f.begins.front f.behind, ap (λ l. length l) f.extent.whole, length-append (flat_map dimension_bytes f.dimensions) f.rest)

dimension_length : (d : ArrayDimension) → length (dimension_bytes d) ≡ 8
dimension_length d =
    omega (arith, length-append (int32 d.len) (int32 d.lower_bound), ap length (int32_spelled d.len), length-uint32 (cast_unsigned w32 d.len), ap length (int32_spelled d.lower_bound), length-uint32 (cast_unsigned w32 d.lower_bound))

dimensions_least : (ds : List ArrayDimension) → length ds ≤ length (flat_map dimension_bytes ds)
dimensions_least [] = omega arith
dimensions_least (d ∷ ds) = let least = dimensions_least ds in omega (arith, least, length-append (dimension_bytes d) (flat_map dimension_bytes ds), dimension_length d)

-- no more dimensions than bytes
pub few_dimensions : (bytes : List ℕ) (v : ArrayRead) → ArrayReads bytes (Ok v) → length v.dimensions.items ≤ length bytes
few_dimensions bytes v x =
    let f = x.0 in
    let least = dimensions_least f.dimensions in
    let same : length v.dimensions.items ≡ length f.dimensions = ap (λ (w : Walk ArrayDimension). length w.items) x.4 in
    omega (arith, same, least, ap (λ l. length l) f.begins.whole, length-append f.begins.front f.behind, ap (λ l. length l) f.extent.whole, length-append (flat_map dimension_bytes f.dimensions) f.rest)
