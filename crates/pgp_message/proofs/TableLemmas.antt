-- The places of a row lie in its bytes.
use Rattle.pgp_message.proofs.Common.{◌≡◌, ℕ, pos, ◌+◌, ◌≤◌, List, [], ◌∷◌, length, Option, Some, None, sym, ap, subst, arith, length-append, concat, AllByRecursion, Range, map-id, Error, int32, int32_number, CountedBytes, RangeSpelled, HasPlaces, IsPlaceIn}
use Rattle.pgp_base.specs.Items.{Spellings}
use Rattle.pgp_base.specs.Walk.{Walk, CollectsFrom}

place_in : (place n : ℕ) (x : Option (Range ℕ)) (front : List ℕ) → RangeSpelled place x front → place + length front ≤ n → IsPlaceIn n x
place_in place n None front s le = tt
place_in place n (Some r) front s le =
    let long = ap length s.parts in (
      omega (arith, s.starts, s.ends, long, length-append (int32 (pos (length s.value))) s.value, int32_number.len (pos (length s.value))),
      omega (arith, s.ends, le),
    )

spellings_in : (place n : ℕ) (xs : List (Option (Range ℕ))) (fronts : List (List ℕ)) → Spellings RangeSpelled place xs fronts → place + length (concat fronts) ≤ n → AllByRecursion (IsPlaceIn n) xs
spellings_in place n [] fronts each le = tt
spellings_in place n (x ∷ xs) [] each le = absurd each
spellings_in place n (x ∷ xs) (front ∷ fronts) each le =
    let both = length-append front (concat fronts) in
    (place_in place n x front each.0 (omega (arith, le, both)), spellings_in (place + length front) n xs fronts each.1 (omega (arith, le, both)))

-- each place of a row's list lies in the row's bytes
pub places_in : (row : CountedBytes) (xs : List (Option (Range ℕ))) (end : Option Error) → HasPlaces row xs end → AllByRecursion (IsPlaceIn (length row.storage)) xs
places_in row xs end has = spellings_in 0 (length row.storage) xs has.fronts has.each (omega (arith, ap length has.whole, length-append (concat has.fronts) has.rest))

-- the list that a walk collected is the row's
pub collected_places : (row : CountedBytes) (walk : Walk (Option (Range ℕ))) (xs : List (Option (Range ℕ))) → HasPlaces row walk.items walk.end → CollectsFrom (λ place. place) walk xs → HasPlaces row xs None
collected_places row walk xs has all =
    let same : walk.items ≡ xs = subst (λ (l : List (Option (Range ℕ))). walk.items ≡ l) (map-id xs) (sym all.items) in
    subst (λ (l : List (Option (Range ℕ))). HasPlaces row l None) same (subst (λ (e : Option Error). HasPlaces row walk.items e) all.end has)
