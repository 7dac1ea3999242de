-- Private: the walk of which a `Counted` is the rest.
use Rattle.std.specs.Prelude.{◌≡◌, ℕ, List, ◌++◌, length, Option, Some, None, Result, Ok, Err}
use Rattle.std.specs.Borrow.{Bor}
use Rattle.pgp_base.specs.declared.error.Error.{Error}
use Rattle.pgp_base.specs.CountedRest.{Rest, IsTaken, walk_of}
use Rattle.pgp_base.specs.Items.{CountedItems}
use Rattle.pgp_base.specs.PartReading.{Answers}
use Rattle.pgp_base.specs.WalkReading.{left_of}

-- so many items are to come, in these bytes
abbrev pub fresh : List ℕ → ℕ → Rest
fresh bytes n = record { bytes = bytes; remaining = n; failed = None }

-- What a reader itself reports its items: these bytes spell x where it reads x from them, whatever follows; and
-- it rejects bytes so, wherever they stand.
abbrev pub SpelledFor : {V : Type 0} → (ℕ → List ℕ → Result (V × List ℕ) Error) → ℕ → V → List ℕ → Type 0
SpelledFor read place x front = (after : List ℕ) → read place (front ++ after) ≡ Ok (x, after)

abbrev pub RefusedBy : {V : Type 0} → (ℕ → List ℕ → Result (V × List ℕ) Error) → List ℕ → Error → Type 0
RefusedBy read rest e = (place : ℕ) → read place rest ≡ Err e

-- A fresh rest of a whole buffer is the walk over its items.
pub record BeginsWalk {V : Type 0} (read : ℕ → List ℕ → Result (V × List ℕ) Error) (n : ℕ) (buffer : List ℕ) : Type 0 where
  pub items : CountedItems (SpelledFor read) (RefusedBy read) n buffer (walk_of (left_of read (length buffer)) (fresh buffer n)).items (walk_of (left_of read (length buffer)) (fresh buffer n)).end
  pub announced : (walk_of (left_of read (length buffer)) (fresh buffer n)).announced ≡ Some n

-- A call of `next`: what is due, and where an item is, what a reader made of its bytes and `take` of that.
abbrev pub NextOf : {T V : Type 0} → (T → V) → (List ℕ → Result (V × List ℕ) Error) → Rest → Result (Option (Bor (List ℕ))) Error → Rest → Result (Option T) Error → Rest → Type 0
NextOf {T} meaning read before (Ok (Some bytes)) middle r after = (p : Result (T × Bor (List ℕ)) Error)
    × Answers (λ x. (meaning x.0, x.1.now)) p (read bytes.now) × IsTaken (λ x. x.0) (λ x. x.1.now) middle p r after
NextOf {T} meaning read before (Ok None) middle r after = (r ≡ Ok None) × (after ≡ middle)
NextOf {T} meaning read before (Err e) middle r after = (r ≡ Err e) × (after ≡ middle)
