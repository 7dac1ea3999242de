use Rattle.pgp_uses.proofs.Common.{rules, arith, ◌≡◌, ◌<◌, ◌^◌, ℕ, ℤ, zero, suc, pos, List, [], ◌∷◌, map, length, Option, Some, None, option_map, Ok, refl, ap, AllByRecursion, AllZip, slice_index_or, w32, fits_signed_from_abs, length-map, first, nullable_cause, length_cause, int32, either_none, fits_of, int32_number, IsArray, IsDimension, array_seen, ArrayDimension, IsSound, int4, IsInt4, ReadsElement, int4_array}
use Rattle.pgp_uses.proofs.arrays.int4s_read_back.Goals as goal

no_cause : (values : List (Option ℤ)) → first (map nullable_cause (map (option_map int4.written) values)) ≡ None
no_cause [] = refl
no_cause (None ∷ values) = no_cause values
no_cause (Some z ∷ values) = either_none (length_cause (length (int32 z))) (first (map nullable_cause (map (option_map int4.written) values))) (ap length_cause (int32_number.len z)) (no_cause values)

read_back : IsSound int4 → (values : List (Option ℤ)) → AllByRecursion IsInt4 values → AllZip (λ element x. ReadsElement (λ (z : ℤ). z) int4 element (Ok x)) (map (option_map int4.written) values) values
read_back sound [] all = tt
read_back sound (None ∷ values) all = (tt, read_back sound values all.1)
read_back sound (Some z ∷ values) all = (sound.back z all.0 refl, read_back sound values all.1)

abbrev dimension : ℕ → ArrayDimension
dimension n = record { len = pos n; lower_bound = pos 1 }

in_range : (n : ℕ) → n < 2 ^ 31 → (k : ℕ) (d : ArrayDimension) → k < 1 → IsDimension (slice_index_or (dimension n ∷ []) k d)
in_range n fits zero d below = (fits_signed_from_abs w32 (pos n) fits, search rules)
in_range n fits (suc k) d below = absurd (omega (arith, below))

pub returns : goal.returns
returns c = λ values all fits none.
    let n = length values in
    let vs = map (option_map int4.written) values in
    let small : n < 2 ^ 31 = fits_of n fits in
    let is : IsArray (int4_array values) = record {
      in_range = in_range n small;
      type = omega arith;
      product = n;
      are = (n, refl, omega (arith, small), omega arith);
      elements = length-map values (option_map int4.written);
    } in
    let back = c.bound_arrays_read_back.ensures (dimension n ∷ []) 23 vs is (no_cause values) none in
    record { message = back; list = (array_seen (int4_array values), back.value, omega arith, (refl, read_back c.scalars.ensures.of_int4 values all)) }
