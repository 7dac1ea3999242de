-- A `Counted` and the walk that it keeps the rest of.
use Rattle.pgp_base.proofs.Common.{◌≡◌, ℕ, List, Option, Some, None, Result, Ok, Err, refl, subst, Bor, Error, IsBytes, IsReader, TakesFront, hint_of, Rest, IsDue, IsTaken, walk_of, hint_at, rest_hint, Answers}
use Rattle.pgp_base.specs.CountedWalk.{BeginsWalk, NextOf, SpelledFor, RefusedBy}
use Rattle.pgp_base.specs.WalkReading.{counted}
use Rattle.pgp_base.proofs.CountedLemmas.{counted_whole}
use Rattle.pgp_base.proofs.RestSteps.{due_err, due_none, taken}

pub begins_walk : {V : Type 0} (read : ℕ → List ℕ → Result (V × List ℕ) Error) (n : ℕ) (buffer : List ℕ)
    → IsReader (SpelledFor read) (RefusedBy read) read → IsBytes buffer → BeginsWalk read n buffer
begins_walk read n buffer reads h = record { items = counted_whole (SpelledFor read) (RefusedBy read) read reads n buffer h; announced = refl }

module _ {T V : Type 0} (meaning : T → V) (read : List ℕ → Result (V × List ℕ) Error) where
  pub next_taken : (before middle after : Rest) (due : Result (Option (Bor (List ℕ))) Error) (r : Result (Option T) Error)
      → IsDue (λ bytes. bytes.now) before due middle → NextOf meaning read before due middle r after → TakesFront meaning (walk_of read before) r (walk_of read after)
  next_taken before middle after (Ok (Some bytes)) r d t =
      let answer = subst (λ (there : List ℕ). Answers (λ (x : T × Bor (List ℕ)). (meaning x.0, x.1.now)) t.0 (read there)) d.0 t.1 in
      let done = subst (λ (here : Rest). IsTaken (λ (x : T × Bor (List ℕ)). x.0) (λ (x : T × Bor (List ℕ)). x.1.now) here t.0 r after) d.3 t.2 in
      taken read (λ (x : T × Bor (List ℕ)). x.0) (λ (x : T × Bor (List ℕ)). x.1.now) meaning before t.0 r after d.1 d.2 answer done
  next_taken before middle after (Ok None) r d t = rw (t.0, t.1) (due_none read (λ (bytes : Bor (List ℕ)). bytes.now) before middle d)
  next_taken before middle after (Err e) r d t = rw (t.0, t.1) (due_err read (λ (bytes : Bor (List ℕ)). bytes.now) before middle e d)

by_failed : {V : Type 0} (read : List ℕ → Result (V × List ℕ) Error) (failed : Option Error) (n : ℕ) (bytes : List ℕ) → hint_at failed n ≡ hint_of (counted read n bytes failed).announced
by_failed read None n bytes = refl
by_failed read (Some e) n bytes = refl

pub hint_reported : {V : Type 0} (read : List ℕ → Result (V × List ℕ) Error) (rest : Rest) → rest_hint rest ≡ hint_of (walk_of read rest).announced
hint_reported read rest = by_failed read rest.failed rest.remaining rest.bytes
