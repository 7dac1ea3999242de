-- Where a dialogue isn't idle, a server may send what belongs to a request that was asked.
use Rattle.pgp_client.proofs.PoolCommon.{starts_with_sync, moved, fails, ◌≡◌, ◌≢◌, ◌∙◌, ℕ, Bool, true, false, List, [], ◌∷◌, ◌++◌, Some, Ok, ap, refl, sym, subst, if◌then◌else◌, BelongInTurns, awaits_none, begins, begun, event_of, first_in, follows, idle_at, is_aside, is_idle, is_passed, observed, ready, taken, taken_as, Talk, Turn, Hears, Follows, FollowsTo, reported_in, start, Event, Part, Last, Aside, Ended, Kind, Asked, Request, Stage, Idle, Skipping, Over, Answering, CopyingIn, TakingCopy, Failed, talk}
use Rattle.pgp_client.specs.Taking.{copying_at, is_copying}
use Rattle.pgp_client.specs.declared.kind.Kind.TheVariants.{AuthenticationOk, ErrorResponse, ReadyForQuery}
use Rattle.pgp_client.specs.declared.request.Request.TheVariants as requests
use Rattle.pgp_client.specs.declared.stage.Stage.TheVariants as stages
use Rattle.pgp_client.specs.declared.stage.Stage.TheVariants.{Authenticating, Starting}
use Rattle.pgp_client.proofs.Stages.{falls, not_aside, stays_ready, step_on}
use Rattle.pgp_client.proofs.Lendings.{follows_so, joined, reported_more}
use Rattle.pgp_client.specs.Pool.{IsAnswer}

-- an answer under way goes on by this message to this stage
record Owes (s : Stage) : Type 0 where
  pub kind : Kind
  pub after : Stage
  pub error : Stage
  pub goes : follows s kind ≡ Some after
  pub falls_to : falls s ≡ Some error
  pub answers : (n : ℕ) → IsAnswer (event_of after n)

by_error : (s after : Stage) → follows s ErrorResponse ≡ Some after → falls s ≡ Some after → ((n : ℕ) → IsAnswer (event_of after n)) → Owes s
by_error s after g f a = record { kind = ErrorResponse; after = after; error = after; goes = g; falls_to = f; answers = a }

-- the stages of an answer, but for a copy to the server
abbrev busy : Stage → Bool
busy Idle = false
busy Skipping = false
busy Over = false
busy s = if copying_at s then false else true

owes : (s : Stage) → busy s ≡ true → Owes s
owes Idle b = cc
owes Skipping b = cc
owes Over b = cc
owes CopyingIn b = cc
owes TakingCopy b = cc
owes Authenticating b = record { kind = AuthenticationOk; after = Starting; error = Over; goes = refl; falls_to = refl; answers = λ n. tt }
owes Starting b = record { kind = ReadyForQuery; after = Idle; error = Over; goes = refl; falls_to = refl; answers = λ n. tt }
owes Failed b = record { kind = ReadyForQuery; after = Idle; error = Over; goes = refl; falls_to = refl; answers = λ n. tt }
owes stages.Asked b = by_error stages.Asked Failed refl refl (λ n. tt)
owes Answering b = by_error Answering Failed refl refl (λ n. tt)
owes stages.Rows b = by_error stages.Rows Failed refl refl (λ n. tt)
owes stages.CopyingOut b = by_error stages.CopyingOut Failed refl refl (λ n. tt)
owes stages.CopyingBoth b = by_error stages.CopyingBoth Failed refl refl (λ n. tt)
owes stages.CopiedBoth b = by_error stages.CopiedBoth Failed refl refl (λ n. tt)
owes stages.Parsing b = by_error stages.Parsing Skipping refl refl (λ n. tt)
owes stages.Binding b = by_error stages.Binding Skipping refl refl (λ n. tt)
owes stages.Closing b = by_error stages.Closing Skipping refl refl (λ n. tt)
owes stages.Describing b = by_error stages.Describing Skipping refl refl (λ n. tt)
owes stages.DescribingRows b = by_error stages.DescribingRows Skipping refl refl (λ n. tt)
owes stages.Executing b = by_error stages.Executing Skipping refl refl (λ n. tt)
owes stages.Returning b = by_error stages.Returning Skipping refl refl (λ n. tt)
owes stages.GivingCopy b = by_error stages.GivingCopy Skipping refl refl (λ n. tt)
owes stages.GaveCopy b = by_error stages.GaveCopy Skipping refl refl (λ n. tt)
owes stages.Calling b = by_error stages.Calling Failed refl refl (λ n. tt)
owes stages.Called b = by_error stages.Called Failed refl refl (λ n. tt)
owes stages.Syncing b = by_error stages.Syncing Failed refl refl (λ n. tt)

begins_busy : (r : Request) → is_passed false r ≡ false → busy (begins r) ≡ true
begins_busy requests.CopyDone h = cc
begins_busy requests.CopyFail h = cc
begins_busy r h = refl

-- the first that is answered, where one is awaited
first_stands : (ps : List Asked) → awaits_none ps ≡ false → (a : Asked) × (rest : List Asked) × (first_in false ps ≡ a ∷ rest) × (is_passed false a.request ≡ false)
first_stands [] h = cc
first_stands (p ∷ ps) h = go (is_passed false p.request) refl h (λ x. first_stands ps x)
  where
    go : (b : Bool) → is_passed false p.request ≡ b → (if b then awaits_none ps else false) ≡ false
        → (awaits_none ps ≡ false → (a : Asked) × (rest : List Asked) × (first_in false ps ≡ a ∷ rest) × (is_passed false a.request ≡ false))
        → (a : Asked) × (rest : List Asked) × ((if b then first_in false ps else p ∷ ps) ≡ a ∷ rest) × (is_passed false a.request ≡ false)
    go true is none more = more none
    go false is none more = (p, ps, refl, is)

abbrev Owed : Talk → Type 0
Owed t = (k : Kind) × (e : Event) × (next : Talk) × (taken t k ≡ Ok (e, next)) × IsAnswer e

under_way : (s : Stage) (n : ℕ) (ps : List Asked) → busy s ≡ true → Owed (talk s n ps)
under_way s n ps b =
    let o = owes s b in
    (o.kind, event_of o.after n, talk o.after n ps, step_on n ps o.kind s o.error o.falls_to o.after o.goes, o.answers n)

-- the same where the next request is under way
next_way : (t : Talk) (s : Stage) (n : ℕ) (ps : List Asked) → busy s ≡ true → ready t ≡ talk s n ps → Owed t
next_way t s n ps b is =
    let o = owes s b in
    let not_one : is_aside o.kind ≡ false = not_aside s o.kind o.after o.goes in
    let there : taken (talk s n ps) o.kind ≡ Ok (event_of o.after n, talk o.after n ps) = step_on n ps o.kind s o.error o.falls_to o.after o.goes in
    let as_heard : taken (talk s n ps) o.kind ≡ observed (talk s n ps) o.kind =
    ap (λ (b : Bool). taken_as b (talk s n ps) o.kind) not_one ∙ ap (λ (u : Talk). observed u o.kind) (stays_ready s o.error o.falls_to (talk s n ps)) in
    let here : taken t o.kind ≡ observed (talk s n ps) o.kind = ap (λ (b : Bool). taken_as b t o.kind) not_one ∙ ap (λ (u : Talk). observed u o.kind) is in
    (o.kind, event_of o.after n, talk o.after n ps, here ∙ sym as_heard ∙ there, o.answers n)

owed_at : (s : Stage) (n : ℕ) (ps : List Asked) → idle_at s ps ≡ false → (copying_at s ≡ true → starts_with_sync ps ≡ false) → s ≢ Skipping → s ≢ Over → Owed (talk s n ps)
owed_at Idle n ps idle copying skipping over =
    let f = first_stands ps idle in
    next_way (talk Idle n ps) (begins f.0.request) f.0.name f.1 (begins_busy f.0.request f.3) (ap (λ (qs : List Asked). begun Idle n qs) f.2)
owed_at Skipping n ps idle copying skipping over = absurd (skipping refl)
owed_at Over n ps idle copying skipping over = absurd (over refl)
owed_at CopyingIn n ps idle copying skipping over = (ErrorResponse, Part n, talk Failed n ps, ap (λ (b : Bool). moved n (fails Failed b ps)) (copying refl), tt)
owed_at TakingCopy n ps idle copying skipping over = (ErrorResponse, Last n, talk Skipping n ps, ap (λ (b : Bool). moved n (fails Skipping b ps)) (copying refl), tt)
owed_at s n ps idle copying skipping over = under_way s n ps refl

live : (e : Event) → IsAnswer e → e ≢ Ended
live (Part n) a = λ h. cc
live (Last n) a = λ h. cc
live Aside a = absurd a
live Ended a = absurd a

pub owed : ((turns : List Turn) → Follows start turns → BelongInTurns turns (reported_in turns))
    → (turns : List Turn) (now : Talk) → FollowsTo start turns now → is_idle now ≡ false → (is_copying now ≡ true → starts_with_sync now.pending ≡ false) → now.stage ≢ Skipping → now.stage ≢ Over
    → (k : Kind) × (e : Event) × IsAnswer e × BelongInTurns (turns ++ Hears k e ∷ []) (reported_in turns ++ e ∷ [])
owed belong turns now f idle copying skipping over =
    let o = owed_at now.stage now.name now.pending idle copying skipping over in
    let all = turns ++ Hears o.0 o.1 ∷ [] in
    let g : FollowsTo start all o.2 = joined turns (Hears o.0 o.1 ∷ []) start now o.2 f (o.2, o.3, live o.1 o.4, refl) in
    (o.0, o.1, o.4, subst (λ (es : List Event). BelongInTurns all es) (reported_more turns (Hears o.0 o.1 ∷ [])) (belong all (follows_so all start o.2 g)))
