-- The column of a row that a walk reaches.
use Rattle.pgp_message.proofs.Common.{◌≡◌, ℕ, zero, suc, ◌≤◌, List, [], ◌∷◌, length, Option, Some, None, Result, Ok, sym, ap, subst, slice_get, AllByRecursion, Range, Error, CountedBytes, HasPlaces, HasColumn, IsPlaceIn, or_end, place_at, value_at}
use Rattle.std.specs.Option.{option_map}
use Rattle.std.specs.Result.{result_map_both}
use Rattle.pgp_message.proofs.TableLemmas.{places_in}

-- a place of all of them
all_at : (n : ℕ) (xs : List (Option (Range ℕ))) (i : ℕ) (x : Option (Range ℕ)) → AllByRecursion (IsPlaceIn n) xs → slice_get xs i ≡ Some x → IsPlaceIn n x
all_at n [] i x all h = absurd cc
all_at n (y ∷ ys) zero x all h = (let same : y ≡ x = cc in subst (IsPlaceIn n) same all.0)
all_at n (y ∷ ys) (suc i) x all h = all_at n ys i x all.1 h

reached : (end : Option Error) (o : Option (Option (Range ℕ))) (x : Option (Range ℕ)) → or_end end o ≡ Ok (Some x) → o ≡ Some x
reached end (Some y) x h = cc
reached None None x h = absurd cc
reached (Some e) None x h = absurd cc

-- the place of a column lies in the row's bytes
pub column_in : (row : CountedBytes) (xs : List (Option (Range ℕ))) (end : Option Error) (i : ℕ) (place : Range ℕ) → HasPlaces row xs end → Ok (Some (Some place)) ≡ place_at xs end i → (place.start ≤ place.end) × (place.end ≤ length row.storage)
column_in row xs end i place has is = all_at (length row.storage) xs i (Some place) (places_in row xs end has) (reached end (slice_get xs i) (Some place) (sym is))

-- what a column is answered by its place
pub column_is : (row : CountedBytes) (xs : List (Option (Range ℕ))) (end : Option Error) (i : ℕ) (r : Result (Option (Option (Range ℕ))) Error) → HasPlaces row xs end → r ≡ place_at xs end i
    → HasColumn row i (result_map_both (option_map (value_at row.storage)) (λ e. e) r)
column_is row xs end i r has is = record { places = xs; end = end; has = has; answer = ap (λ r. result_map_both (option_map (value_at row.storage)) (λ (e : Error). e) r) is }
