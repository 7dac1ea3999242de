-- A step of a dialogue where it is known how many of the requests are asked after the message was heard.
use Rattle.pgp_client.proofs.Common.{◌≡◌, ℕ, Bool, true, false, List, [], ◌∷◌, Result, Ok, Err, ◌∙◌, ap, arith, refl, length, nat_le, le-leb, if◌then◌else◌, Talk, behind_copy, completes, copied, fails, follows, goes, observed_at, is_aside, is_sync, moved, ready, starts_with_sync, taken, taken_as, Event, Aside, Refusal, Unexpected, Kind, Asked, Stage, Idle, Skipping, Answering, CopyingIn, TakingCopy, Failed}
use Rattle.pgp_client.specs.declared.kind.Kind.TheVariants as kinds

-- the first is a Sync that was asked before: it isn't one of the last `later`
abbrev pub early : ℕ → List Asked → Bool
early later [] = false
early later (a ∷ rest) = if is_sync a.request then nat_le later (length rest) else false

abbrev pub copied_by : ℕ → Stage → Stage → List Asked → Kind → Result (Stage × List Asked) Refusal
copied_by later done after pending kinds.CommandComplete = completes done (behind_copy pending)
copied_by later done after pending kinds.ErrorResponse = fails after (early later pending) pending
copied_by later done after pending k = Err Unexpected

abbrev pub observed_by : ℕ → Stage → List Asked → Kind → Result (Stage × List Asked) Refusal
observed_by later CopyingIn pending k = copied_by later Answering Failed pending k
observed_by later TakingCopy pending k = copied_by later Idle Skipping pending k
observed_by later s pending k = goes (follows s k) pending

abbrev pub heard_by : ℕ → Talk → Kind → Result (Event × Talk) Refusal
heard_by later t k = moved t.name (observed_by later t.stage t.pending k)

abbrev pub taken_by_as : Bool → ℕ → Talk → Kind → Result (Event × Talk) Refusal
taken_by_as true later t k = Ok (Aside, t)
taken_by_as false later t k = heard_by later (ready t) k

-- what comes of a message after which the last so many of all that is pending are asked
abbrev pub taken_by : ℕ → Talk → Kind → Result (Event × Talk) Refusal
taken_by later t k = taken_by_as (is_aside k) later t k

abbrev pub Answer : Type 0
Answer = Result (Event × Talk) Refusal

-- what is taken where it isn't known is taken where it is
module _ (later n : ℕ) (x : Event × Talk) where
  fails_settled : (s : Stage) (test known : Bool) (ps : List Asked) → (test ≡ false → known ≡ false) → moved n (fails s test ps) ≡ Ok x → moved n (fails s known ps) ≡ Ok x
  fails_settled s true known ps h is = cc
  fails_settled s false known ps h is = ap (λ (b : Bool). moved n (fails s b ps)) (h refl) ∙ is

  not_early : (ps : List Asked) → starts_with_sync ps ≡ false → early later ps ≡ false
  not_early [] h = refl
  not_early (a ∷ rest) h = ap (λ (b : Bool). if b then nat_le later (length rest) else false) h

  copied_settled : (done after : Stage) (ps : List Asked) (k : Kind) → moved n (copied done after ps k) ≡ Ok x → moved n (copied_by later done after ps k) ≡ Ok x
  copied_settled done after ps kinds.CommandComplete is = is
  copied_settled done after ps kinds.ErrorResponse is = fails_settled after (starts_with_sync ps) (early later ps) ps (not_early ps) is
  copied_settled done after ps k is = cc

  at_settled : (s : Stage) (ps : List Asked) (k : Kind) → moved n (observed_at s ps k) ≡ Ok x → moved n (observed_by later s ps k) ≡ Ok x
  at_settled CopyingIn ps k is = copied_settled Answering Failed ps k is
  at_settled TakingCopy ps k is = copied_settled Idle Skipping ps k is
  at_settled s ps k is = is

module _ (later : ℕ) (t : Talk) (k : Kind) (x : Event × Talk) where
  as_settled : (b : Bool) → taken_as b t k ≡ Ok x → taken_by_as b later t k ≡ Ok x
  as_settled true is = is
  as_settled false is = at_settled later (ready t).name x (ready t).stage (ready t).pending k is

  pub settled : taken t k ≡ Ok x → taken_by later t k ≡ Ok x
  settled is = as_settled (is_aside k) is

-- where all was asked before, nothing more is known
module _ (n : ℕ) where
  early_at_once : (ps : List Asked) → early 0 ps ≡ starts_with_sync ps
  early_at_once [] = refl
  early_at_once (a ∷ rest) = elim (is_sync a.request) as (λ b. (if b then nat_le 0 (length rest) else false) ≡ b) [
    | true ↦ le-leb 0 (length rest) (omega arith)
    | false ↦ refl
  ]

  copied_at_once : (done after : Stage) (ps : List Asked) (k : Kind) → moved n (copied_by 0 done after ps k) ≡ moved n (copied done after ps k)
  copied_at_once done after ps kinds.CommandComplete = refl
  copied_at_once done after ps kinds.ErrorResponse = ap (λ (b : Bool). moved n (fails after b ps)) (early_at_once ps)
  copied_at_once done after ps k = refl

  at_once_at : (s : Stage) (ps : List Asked) (k : Kind) → moved n (observed_by 0 s ps k) ≡ moved n (observed_at s ps k)
  at_once_at CopyingIn ps k = copied_at_once Answering Failed ps k
  at_once_at TakingCopy ps k = copied_at_once Idle Skipping ps k
  at_once_at s ps k = refl

as_at_once : (b : Bool) (t : Talk) (k : Kind) → taken_by_as b 0 t k ≡ taken_as b t k
as_at_once true t k = refl
as_at_once false t k = at_once_at (ready t).name (ready t).stage (ready t).pending k

pub at_once : (t : Talk) (k : Kind) → taken_by 0 t k ≡ taken t k
at_once t k = as_at_once (is_aside k) t k
