-- One call of next of a counted walk, by what its rest did.
use Rattle.pgp_base.proofs.Common.{◌≡◌, ◌≢◌, ℕ, List, [], ◌∷◌, length, ◌≤◌, IfOk, Option, Some, None, Result, Ok, Err, refl, ap, arith, Error, IsFinished, IsRefused, TakesFront, Answers, Rest, walk_of, Over, IsDue, IsTaken}
use Rattle.pgp_base.proofs.Steps.{counted_over, counted_finished, counted_not_drained, counted_item, counted_cut}

no_length : (bytes : List ℕ) → bytes ≢ [] → length bytes ≢ 0
no_length [] more e = more refl
no_length (b ∷ bytes) more e = omega (arith, e)

module _ {V : Type 0} (read : List ℕ → Result (V × List ℕ) Error) where
  over : (failed : Option Error) (before : Rest) (e : Error) → before.failed ≡ failed → Over failed before e → IsRefused (walk_of read before) e (walk_of read (record before { failed = Some e }))
  over (Some d) before e is h = rw (is, h) (counted_over read before.remaining before.bytes e)
  over None before e is h = rw (is, h.0) (counted_not_drained read before.remaining before.bytes h.1 (no_length before.bytes h.2))

  pub due_err : {B : Type 0} (view : B → List ℕ) (before after : Rest) (e : Error) → IsDue view before (Err e) after → IsRefused (walk_of read before) e (walk_of read after)
  due_err view before after e h = rw h.0 (over before.failed before e refl h.1)

  pub due_none : {B : Type 0} (view : B → List ℕ) (before after : Rest) → IsDue view before (Ok None) after → IsFinished (walk_of read before) (walk_of read after)
  due_none view before after h = rw (h.3, h.2) (counted_finished read before.remaining before.bytes h.0 (ap length h.1))

  pub taken : {P T : Type 0} (item : P → T) (rest : P → List ℕ) (meaning : T → V) (before : Rest) (p : Result P Error) (r : Result (Option T) Error) (after : Rest)
      → before.remaining ≢ 0 → before.failed ≡ None → Answers (λ x. (meaning (item x), rest x)) p (read before.bytes) → IsTaken item rest before p r after
      → TakesFront meaning (walk_of read before) r (walk_of read after)
  taken item rest meaning before (Ok x) r after due open' a t = rw (t.0, t.1, open') (counted_item read before.remaining before.bytes (meaning (item x)) (rest x) due a)
  taken item rest meaning before (Err e) r after due open' a t = rw (t.0, t.1, open') (counted_cut read before.remaining before.bytes e due a)

-- what is left is no longer than it was
pub taken_shorter : {P T : Type 0} (item : P → T) (rest : P → List ℕ) (before : Rest) (p : Result P Error) (r : Result (Option T) Error) (after : Rest)
    → IfOk p (λ x. length (rest x) ≤ length before.bytes) → IsTaken item rest before p r after → length after.bytes ≤ length before.bytes
taken_shorter item rest before (Ok x) r after shorter t = rw t.1 shorter
taken_shorter item rest before (Err e) r after shorter t = rw t.1 (omega arith)
