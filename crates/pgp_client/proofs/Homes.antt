-- Where a server's run comes to an idle dialogue, what is left of it is a run of its own.
use Rattle.pgp_client.proofs.PoolCommon.{◌≡◌, ◌≢◌, ◌⊎◌, ◌∙◌, ℕ, Bool, true, false, List, [], ◌∷◌, ◌++◌, Option, Some, Result, Ok, Err, ap, inl, inr, length, refl, sym, subst, if◌then◌else◌, is_end_of_copy, AmongTurns, NoTurnLeft, OneAsked, OneAnswer, OneElse, BelongInTurns, asked, awaits_none, begins, begun, behind_copy, completes, event_of, fails, first_in, follows, is_aside, is_idle, is_passed, moved, ready, taken, taken_as, Talk, Turn, Asks, Hears, FollowsTo, asked_all, asked_in, reported_in, start, Event, Part, Last, Aside, Ended, Refusal, Uncertain, Kind, Asked, Request, Stage, Idle, Skipping, Over, Answering, CopyingIn, TakingCopy, Failed, aside_is, ok_parts, talk}
use Rattle.std.proofs.Common.{le-leb}
use Rattle.pgp_client.specs.Flow as flow
use Rattle.pgp_client.specs.Flow.{At, Ready, Skips, Queries, Fails, Progress, NoResult, SomeResult, PastBoth, CopyBreaks, BreaksHere, BreaksBehind, CopyEnds, DoneStands, SyncStands, Serves, has_result, parts}
use Rattle.pgp_client.specs.declared.kind.Kind.TheVariants as kinds
use Rattle.pgp_client.specs.declared.request.Request.TheVariants as requests
use Rattle.pgp_client.specs.declared.stage.Stage.TheVariants.{CopiedBoth}
use Rattle.pgp_client.proofs.Early.{Answer, early, heard_by, settled, taken_by, taken_by_as}
use Rattle.pgp_client.proofs.Paths.{Goes, answered_falls, answers_go, front_goes, goes_falls, in_query, query_falls, result_goes}
use Rattle.pgp_client.proofs.Served.{talk_at}
use Rattle.pgp_client.proofs.Stages.{alone_falls, error_leads, extended_falls, falls, not_aside, not_passed, part_of, stays_ready, step_on}
use Rattle.pgp_client.proofs.Timely.{asked_so, taken_more}
use Rattle.pgp_client.proofs.Levels.{idle_parts}

-- what comes is a run of a server to what is pending, if no request is under way
abbrev pub Home : (ℕ → ℕ) → Talk → List Kind → List Event → Type 0
Home later t ks es = t.stage ≡ Idle → Serves later Ready t.pending ks es

-- Each message is told as what it is, or isn't certain; and at each place between requests what is left is a run of its own.
abbrev pub On : (ℕ → ℕ) → Talk → List Kind → List Event → Type 0
On later t [] [] = Unit {0}
On later t (k ∷ ks) (e ∷ es) = (is_aside k ≡ false) × (((next : Talk) × (taken_by (later (length ks)) t k ≡ Ok (e, next)) × Home later next ks es × On later next ks es) ⊎ (taken_by (later (length ks)) t k ≡ Err Uncertain))
On later t ks es = ⊥

alike : (later : ℕ → ℕ) (t u : Talk) → ready t ≡ ready u → (ks : List Kind) (es : List Event) → On later u ks es → On later t ks es
alike later t u same [] [] w = tt
alike later t u same [] (e ∷ es) w = absurd w
alike later t u same (k ∷ ks) [] w = absurd w
alike later t u same (k ∷ ks) (e ∷ es) w =
    let is_t : taken_by (later (length ks)) t k ≡ heard_by (later (length ks)) (ready t) k = ap (λ (b : Bool). taken_by_as b (later (length ks)) t k) w.0 in
    let is_u : taken_by (later (length ks)) u k ≡ heard_by (later (length ks)) (ready u) k = ap (λ (b : Bool). taken_by_as b (later (length ks)) u k) w.0 in
    let both : taken_by (later (length ks)) t k ≡ taken_by (later (length ks)) u k = is_t ∙ ap (λ (x : Talk). heard_by (later (length ks)) x k) same ∙ sym is_u in (
      w.0,
      elim w.1 [
        | inl x ↦ inl (x.0, both ∙ x.1, x.2, x.3)
        | inr x ↦ inr (both ∙ x)
      ],
    )

-- ---- a row of parts

away : (s x : Stage) → falls s ≡ Some x → s ≡ Idle → ⊥
away Idle x f e = cc
away s x f e = cc

away_from : (later : ℕ → ℕ) (s x : Stage) (n : ℕ) (rs : List Asked) (ks : List Kind) (es : List Event) → falls s ≡ Some x → Home later (talk s n rs) ks es
away_from later s x n rs ks es f = λ e. absurd (away s x f e)

goes_on : (later : ℕ → ℕ) (n : ℕ) (x s : Stage) (ks : List Kind) (m : Stage) → falls s ≡ Some x → Goes s ks m
    → (rs : List Asked) (more : List Kind) (es : List Event) → On later (talk m n rs) more es → On later (talk s n rs) (ks ++ more) (parts n ks ++ es)
goes_on later n x s [] m f g rs more es w = subst (λ (y : Stage). On later (talk y n rs) more es) g w
goes_on later n x s (k ∷ ks) m f g rs more es w =
    let on : falls g.0 ≡ Some x = g.2 ∙ f in
    let step : taken (talk s n rs) k ≡ Ok (Part n, talk g.0 n rs) =
    step_on n rs k s x f g.0 g.1 ∙ ap (λ (e : Event). let r : Result (Event × Talk) Refusal = Ok (e, talk g.0 n rs) in r) (part_of g.0 x on n) in (
      not_aside s k g.0 g.1,
      inl (
        talk g.0 n rs,
        settled (later (length (ks ++ more))) (talk s n rs) k (Part n, talk g.0 n rs) step,
        away_from later g.0 x n rs (ks ++ more) (parts n ks ++ es) on,
        goes_on later n x g.0 ks m on g.3 rs more es w,
      ),
    )

-- and one more message after them
module _ (later : ℕ → ℕ) (n : ℕ) (x s : Stage) (ks : List Kind) (rs : List Asked) (k : Kind) (more : List Kind) (es : List Event) where
  arrives_on : (m end : Stage) → falls s ≡ Some x → Goes s ks m → follows m k ≡ Some end
      → Home later (talk end n rs) more es → On later (talk end n rs) more es → On later (talk s n rs) (ks ++ k ∷ more) (parts n ks ++ event_of end n ∷ es)
  arrives_on m end f g last home w = goes_on later n x s ks m f g rs (k ∷ more) (event_of end n ∷ es)
      (not_aside m k end last, inl (talk end n rs, settled (later (length more)) (talk m n rs) k (event_of end n, talk end n rs) (step_on n rs k m x (goes_falls s ks m g ∙ f) end last), home, w))

-- an error in the place of what is left
module _ (later : ℕ → ℕ) (n : ℕ) (x s : Stage) (ks : List Kind) (rs : List Asked) (more : List Kind) (es : List Event) where
  breaks_on : (m : Stage) → falls s ≡ Some x → Goes s ks m
      → Home later (talk x n rs) more es → On later (talk x n rs) more es → On later (talk s n rs) (ks ++ kinds.ErrorResponse ∷ more) (parts n ks ++ event_of x n ∷ es)
  breaks_on m f g home w = arrives_on later n x s ks rs kinds.ErrorResponse more es m x f g (error_leads m x (goes_falls s ks m g ∙ f)) home w

-- ---- the next request

module _ (later : ℕ → ℕ) (r : Request) (x : Stage) (n : ℕ) (rs : List Asked) (c : ℕ) (f : falls (begins r) ≡ Some x) where
  abbrev first : Asked
  first = record { request = r; name = n }

  opens : ready (talk Idle c (first ∷ rs)) ≡ ready (talk (begins r) n rs)
  opens = ap (λ (b : Bool). begun Idle c (if b then first_in false rs else first ∷ rs)) (not_passed r x f) ∙ sym (stays_ready (begins r) x f (talk (begins r) n rs))

  opened : (ks : List Kind) (es : List Event) → On later (talk (begins r) n rs) ks es → On later (talk Idle c (first ∷ rs)) ks es
  opened ks es w = alike later (talk Idle c (first ∷ rs)) (talk (begins r) n rs) opens ks es w

passed_always : (r : Request) → is_end_of_copy r ≡ true → is_passed false r ≡ true
passed_always requests.CopyDone e = refl
passed_always requests.CopyFail e = refl
passed_always r e = cc

skipped_passed : (r : Request) → r ≢ requests.Sync → is_passed true r ≡ true
skipped_passed requests.Sync other = absurd (other refl)
skipped_passed r other = refl

module _ (r : Request) (n : ℕ) (rs : List Asked) (c : ℕ) where
  passed_over : is_passed false r ≡ true → ready (talk Idle c (record { request = r; name = n } ∷ rs)) ≡ ready (talk Idle c rs)
  passed_over holds = ap (λ (b : Bool). begun Idle c (if b then first_in false rs else record { request = r; name = n } ∷ rs)) holds

  skipped_over : is_passed true r ≡ true → ready (talk Skipping c (record { request = r; name = n } ∷ rs)) ≡ ready (talk Skipping c rs)
  skipped_over holds = ap (λ (b : Bool). begun Skipping c (if b then first_in true rs else record { request = r; name = n } ∷ rs)) holds

-- ---- copies to the server

copy_ends : {rs behind : List Asked} → CopyEnds rs behind → behind_copy rs ≡ Some behind
copy_ends DoneStands = refl
copy_ends (SyncStands more) = copy_ends more

copy_breaks : {later : ℕ} {rs behind : List Asked} → CopyBreaks later rs behind → ((early later rs ≡ false) × (behind ≡ rs)) ⊎ (early later rs ≡ true)
copy_breaks (BreaksHere {behind = []}) = inl (refl, refl)
copy_breaks {later = later} (BreaksHere {behind = a ∷ rest}) =
    let by_test : (b : Bool) → early later (a ∷ rest) ≡ b → ((early later (a ∷ rest) ≡ false) × ((a ∷ rest) ≡ (a ∷ rest))) ⊎ (early later (a ∷ rest) ≡ true) =
    λ b. elim b as (λ v. early later (a ∷ rest) ≡ v → ((early later (a ∷ rest) ≡ false) × ((a ∷ rest) ≡ (a ∷ rest))) ⊎ (early later (a ∷ rest) ≡ true)) [
      | true ↦ λ holds. inr holds
      | false ↦ λ other. inl (other, refl)
    ] in
    by_test (early later (a ∷ rest)) refl
copy_breaks {later = later} (BreaksBehind {rest = rest} before more) = inr (le-leb later (length rest) before)

module _ (later : ℕ → ℕ) (n : ℕ) (rs behind : List Asked) (more : List Kind) (es : List Event) where
  broken : (s after : Stage) → taken_by (later (length more)) (talk s n rs) kinds.ErrorResponse ≡ moved n (fails after (early (later (length more)) rs) rs)
      → CopyBreaks (later (length more)) rs behind → (after ≡ Idle → ⊥) → On later (talk after n behind) more es → On later (talk s n rs) (kinds.ErrorResponse ∷ more) (event_of after n ∷ es)
  broken s after is b out w = (
    refl,
    elim (copy_breaks b) [
      | inl h ↦ inl (talk after n rs, is ∙ ap (λ (b : Bool). moved n (fails after b rs)) h.0, (λ e. absurd (out e)), subst (λ (y : List Asked). On later (talk after n y) more es) h.1 w)
      | inr h ↦ inr (is ∙ ap (λ (b : Bool). moved n (fails after b rs)) h)
    ],
  )

  done : (s after : Stage) → taken_by (later (length more)) (talk s n rs) kinds.CommandComplete ≡ moved n (completes after (behind_copy rs)) → CopyEnds rs behind
      → Home later (talk after n behind) more es → On later (talk after n behind) more es → On later (talk s n rs) (kinds.CommandComplete ∷ more) (event_of after n ∷ es)
  done s after is b home w = (refl, inl (talk after n behind, is ∙ ap (λ (o : Option (List Asked)). moved n (completes after o)) (copy_ends b), home, w))

part_query : (some : Progress) (n : ℕ) → event_of (in_query some) n ≡ Part n
part_query NoResult n = refl
part_query SomeResult n = refl
part_query PastBoth n = refl

done_query : (later : ℕ) (some : Progress) (n : ℕ) (rs : List Asked) → has_result some ≡ true → taken_by later (talk (in_query some) n rs) kinds.ReadyForQuery ≡ Ok (Last n, talk Idle n rs)
done_query later NoResult n rs is = cc
done_query later SomeResult n rs is = refl
done_query later PastBoth n rs is = refl

copies_in : (later : ℕ) (some : Progress) (n : ℕ) (rs : List Asked) → taken_by later (talk (in_query some) n rs) kinds.CopyInResponse ≡ Ok (Part n, talk CopyingIn n rs)
copies_in later NoResult n rs = refl
copies_in later SomeResult n rs = refl
copies_in later PastBoth n rs = refl

-- ---- a server's run

query_out : (some : Progress) → in_query some ≡ Idle → ⊥
query_out NoResult e = cc
query_out SomeResult e = cc
query_out PastBoth e = cc

at_home : (later : ℕ → ℕ) (place : At) (rs : List Asked) (ks : List Kind) (es : List Event) → Serves later place rs ks es → (c : ℕ) → Home later (talk_at place c rs) ks es
at_home later Ready rs ks es s c = λ e. s
at_home later Skips rs ks es s c = λ e. cc
at_home later (Queries some n) rs ks es s c = λ e. absurd (query_out some e)
at_home later (Fails n) rs ks es s c = λ e. cc

on : (later : ℕ → ℕ) {place : At} {rs : List Asked} {ks : List Kind} {es : List Event} → Serves later place rs ks es → (c : ℕ) → On later (talk_at place c rs) ks es
on later flow.Waits c = tt
on later (flow.Answered {r = r} {n = n} {rs = rs} {ks = ks} {more = more} {k = k} {es = es} a s) c =
    let f = answered_falls a in
    let go = answers_go a in
    opened later r f.0 n rs c f.1 (ks ++ k ∷ more) (parts n ks ++ Last n ∷ es)
    (arrives_on later n f.0 (begins r) ks rs k more es go.place Idle f.1 go.path go.last (λ e. s) (on later s n))
on later (flow.Answering {r = r} {n = n} {rs = rs} ks a) c =
    let f = answered_falls a.2 in
    let go = answers_go a.2 in
    let front = front_goes (begins r) ks a.0 go.place go.path in
    opened later r f.0 n rs c f.1 (ks ++ []) (parts n ks ++ []) (goes_on later n f.0 (begins r) ks front.0 f.1 front.1 rs [] [] tt)
on later (flow.Refused {r = r} {n = n} {rs = rs} ks {more = more} {es = es} a holds s) c =
    let f = extended_falls r holds in
    let go = answers_go a.2 in
    let front = front_goes (begins r) ks a.0 go.place go.path in
    opened later r Skipping n rs c f (ks ++ kinds.ErrorResponse ∷ more) (parts n ks ++ Last n ∷ es)
    (breaks_on later n Skipping (begins r) ks rs more es front.0 f front.1 (λ e. cc) (on later s n))
on later (flow.Failed {r = r} {n = n} {rs = rs} ks {more = more} {es = es} a holds s) c =
    let f = alone_falls r holds in
    let go = answers_go a.2 in
    let front = front_goes (begins r) ks a.0 go.place go.path in
    opened later r Failed n rs c f (ks ++ kinds.ErrorResponse ∷ more) (parts n ks ++ Part n ∷ es)
    (breaks_on later n Failed (begins r) ks rs more es front.0 f front.1 (λ e. cc) (on later s n))
on later (flow.TurnedAway {n = n} {rs = rs} ks a) c =
    let go = answers_go a.2 in
    let front = front_goes (begins requests.Startup) ks a.0 go.place go.path in
    opened later requests.Startup Over n rs c refl (ks ++ kinds.ErrorResponse ∷ []) (parts n ks ++ Ended ∷ [])
    (breaks_on later n Over (begins requests.Startup) ks rs [] [] front.0 refl front.1 (λ e. cc) tt)
on later (flow.PassedOver {r = r} {n = n} {rs = rs} {ks = ks} {es = es} holds s) c =
    alike later (talk Idle c (record { request = r; name = n } ∷ rs)) (talk Idle c rs) (passed_over r n rs c (passed_always r holds)) ks es (on later s c)
on later (flow.Skipped {r = r} {n = n} {rs = rs} {ks = ks} {es = es} other s) c =
    alike later (talk Skipping c (record { request = r; name = n } ∷ rs)) (talk Skipping c rs) (skipped_over r n rs c (skipped_passed r other)) ks es (on later s c)
on later (flow.Resumed {n = n} {rs = rs} {ks = ks} {es = es} s) c =
    alike later (talk Skipping c (record { request = requests.Sync; name = n } ∷ rs)) (talk Idle c (record { request = requests.Sync; name = n } ∷ rs)) refl ks es (on later s c)
on later (flow.Queried {n = n} {rs = rs} {ks = ks} {es = es} s) c =
    opened later requests.Query Failed n rs c refl ks es (on later s c)
on later (flow.Resulted {some = some} {next = next} {n = n} {rs = rs} {ks = ks} {more = more} {k = k} {es = es} a s) c =
    let go = result_goes a some in
    subst (λ (d : Event). On later (talk (in_query some) n rs) (ks ++ k ∷ more) (parts n ks ++ d ∷ es)) (part_query next n)
    (arrives_on later n Failed (in_query some) ks rs k more es go.place (in_query next) (query_falls some) go.path go.last (λ e. absurd (query_out next e)) (on later s c))
on later (flow.LateData {n = n} {rs = rs} s) c = (refl, inl (talk CopiedBoth n rs, refl, (λ e. cc), on later s c))
on later (flow.Resulting {some = some} {n = n} {rs = rs} ks a) c =
    let go = result_goes a.3 some in
    let front = front_goes (in_query some) ks a.0 go.place go.path in
    goes_on later n Failed (in_query some) ks front.0 (query_falls some) front.1 rs [] [] tt
on later (flow.QueryFailed {some = some} {n = n} {rs = rs} ks {more = more} {es = es} a s) c =
    let go = result_goes a.3 some in
    let front = front_goes (in_query some) ks a.0 go.place go.path in
    breaks_on later n Failed (in_query some) ks rs more es front.0 (query_falls some) front.1 (λ e. cc) (on later s c)
on later (flow.QueryDone {some = some} {n = n} {rs = rs} {more = more} has s) c = (refl, inl (talk Idle n rs, done_query (later (length more)) some n rs has, (λ e. s), on later s n))
on later (flow.Recovered {n = n} {rs = rs} s) c = (refl, inl (talk Idle n rs, refl, (λ e. s), on later s n))
on later (flow.QueryCopies {some = some} {n = n} {rs = rs} {behind = behind} {more = more} {es = es} b s) c =
    (refl, inl (talk CopyingIn n rs, copies_in (later (length (kinds.ErrorResponse ∷ more))) some n rs, (λ e. cc), done later n rs behind more es CopyingIn Answering refl b (λ e. cc) (on later s c)))
on later (flow.QueryCopying {some = some} {n = n} {rs = rs}) c = (refl, inl (talk CopyingIn n rs, copies_in (later 0) some n rs, (λ e. cc), tt))
on later (flow.QueryCopyFails {some = some} {n = n} {rs = rs} {behind = behind} {more = more} {es = es} b s) c =
    (refl, inl (talk CopyingIn n rs, copies_in (later (length (kinds.ErrorResponse ∷ more))) some n rs, (λ e. cc), broken later n rs behind more es CopyingIn Failed refl b (λ e. cc) (on later s c)))
on later (flow.Copies {n = n} {rs = rs} {behind = behind} {more = more} {es = es} b s) c =
    (refl, inl (talk TakingCopy n rs, refl, (λ e. cc), done later n rs behind more es TakingCopy Idle refl b (λ e. s) (on later s n)))
on later (flow.Copying {n = n} {rs = rs}) c = (refl, inl (talk TakingCopy n rs, refl, (λ e. cc), tt))
on later (flow.CopyFails {n = n} {rs = rs} {behind = behind} {more = more} {es = es} b s) c =
    (refl, inl (talk TakingCopy n rs, refl, (λ e. cc), broken later n rs behind more es TakingCopy Skipping refl b (λ e. cc) (on later s n)))
on later flow.Closed c = (refl, inl (talk Over c [], refl, (λ e. cc), tt))
on later flow.ClosedSkipping c = (refl, inl (talk Over c [], refl, (λ e. cc), tt))
on later (flow.ClosedFailing {n = n} {rs = rs}) c = (refl, inl (talk Over n rs, refl, (λ e. cc), tt))

-- ---- what a server passes over

answers_end : {r : Request} {ks : List Kind} {k : Kind} → flow.Answers r ks k → is_end_of_copy r ≡ false
answers_end (flow.LogsIn x m) = refl
answers_end flow.Parses = refl
answers_end flow.Binds = refl
answers_end flow.Closes = refl
answers_end (flow.DescribesPortal c) = refl
answers_end (flow.DescribesStatement c) = refl
answers_end (flow.Returns rows end) = refl
answers_end flow.ReturnsNothing = refl
answers_end (flow.GivesCopy m) = refl
answers_end flow.Calls = refl
answers_end flow.Syncs = refl

apart : false ≡ true → ⊥
apart e = cc

never : {U : Type 0} (r : Request) → is_end_of_copy r ≡ false → is_end_of_copy r ≡ true → U
never r e h = absurd (apart (sym e ∙ h))

module _ (later : ℕ → ℕ) where
  over_one : {r : Request} {n : ℕ} {rs : List Asked} {ks : List Kind} {es : List Event} → is_end_of_copy r ≡ true → Serves later Ready (record { request = r; name = n } ∷ rs) ks es → Serves later Ready rs ks es
  over_one h flow.Waits = flow.Waits
  over_one h (flow.PassedOver x s) = s
  over_one {r = r} h (flow.Answered a s) = never r (answers_end a) h
  over_one {r = r} h (flow.Answering ks a) = never r (answers_end a.2) h
  over_one {r = r} h (flow.Refused ks a x s) = never r (answers_end a.2) h
  over_one {r = r} h (flow.Failed ks a x s) = never r (answers_end a.2) h
  over_one h (flow.TurnedAway ks a) = never requests.Startup refl h
  over_one h (flow.Queried s) = never requests.Query refl h
  over_one h (flow.Copies b s) = never requests.Execute refl h
  over_one h flow.Copying = never requests.Execute refl h
  over_one h (flow.CopyFails b s) = never requests.Execute refl h

  ends_copies : (r : Request) → is_passed false r ≡ true → is_end_of_copy r ≡ true
  ends_copies requests.CopyDone e = refl
  ends_copies requests.CopyFail e = refl
  ends_copies requests.Sync e = cc
  ends_copies r e = cc

  over_all : (ps rs : List Asked) {ks : List Kind} {es : List Event} → awaits_none ps ≡ true → Serves later Ready (ps ++ rs) ks es → Serves later Ready rs ks es
  over_all [] rs h s = s
  over_all (a ∷ ps) rs {ks = ks} {es = es} h s = go (is_passed false a.request) refl h (λ x y. over_all ps rs x y)
    where
      go : (b : Bool) → is_passed false a.request ≡ b → (if b then awaits_none ps else false) ≡ true
          → (awaits_none ps ≡ true → Serves later Ready (ps ++ rs) ks es → Serves later Ready rs ks es) → Serves later Ready rs ks es
      go true is rest more = more rest (over_one (ends_copies a.request is) s)
      go false is rest more = absurd (apart rest)

-- ---- behind turns that end where the dialogue is idle

turns_behind : List Turn → List Turn
turns_behind [] = []
turns_behind (t ∷ ts) = ts

kind_in : List Turn → Kind → Kind
kind_in (Hears k e ∷ ts) d = k
kind_in ts d = d

asked_first : List Turn → Asked → Asked
asked_first (Asks a ∷ ts) d = a
asked_first ts d = d

-- what is heard behind these turns, and what it is
record Behind (now : Talk) (turns more : List Turn) (truth : List Event) : Type 0 where
  pub later : ℕ → ℕ
  pub sent : List Kind
  pub belong : List Event
  pub rest : List Event
  pub is : truth ≡ reported_in turns ++ rest
  pub among : AmongTurns later sent belong more rest
  pub home : Home later (asked_all now (asked_in more)) sent belong

one_more : (now : Talk) (turns more : List Turn) (truth : List Event) (k : Kind) (d e : Event) → d ≡ e → Behind now turns more truth → Behind now (Hears k e ∷ turns) more (d ∷ truth)
one_more now turns more truth k d e same b = record {
  later = b.later;
  sent = b.sent;
  belong = b.belong;
  rest = b.rest;
  is = cc (same, b.is);
  among = b.among;
  home = b.home;
}

module _ (more : List Turn) where
  behind : {later : ℕ → ℕ} {ks : List Kind} {es truth : List Event} {all : List Turn} → AmongTurns later ks es all truth → (turns : List Turn) (t now : Talk)
      → all ≡ turns ++ more → FollowsTo t turns now → Home later (asked_all t (asked_in all)) ks es → On later (asked_all t (asked_in all)) ks es → Behind now turns more truth
  unfolding asked_first turns_behind kind_in
  behind {later = later} {ks = ks} {es = es} {truth = truth} {all = all} m [] t now at f home w = record {
    later = later;
    sent = ks;
    belong = es;
    rest = truth;
    is = refl;
    among = subst (λ (ts : List Turn). AmongTurns later ks es ts truth) at m;
    home = subst (λ (u : Talk). Home later (asked_all u (asked_in more)) ks es) f (subst (λ (ts : List Turn). Home later (asked_all t (asked_in ts)) ks es) at home);
  }
  behind NoTurnLeft (x ∷ turns) t now at f home w = cc
  behind {later = later} {ks = ks} {es = es} (OneAsked {turns = rest} b m) (Asks a ∷ turns) t now at f home w =
      let same : b ≡ a = ap (λ (ts : List Turn). asked_first ts b) at in
      let left : rest ≡ turns ++ more = ap turns_behind at in
      let h = subst (λ (x : Asked). Home later (asked_all (asked t x) (asked_in rest)) ks es) same home in
      let b = behind m turns (asked t a) now left f h (subst (λ (x : Asked). On later (asked_all (asked t x) (asked_in rest)) ks es) same w) in
      record { later = b.later; sent = b.sent; belong = b.belong; rest = b.rest; is = b.is; among = b.among; home = b.home }
  behind (OneAsked b m) (Hears j d ∷ turns) t now at f home w = cc
  behind (OneAnswer j d told tie m) (Asks a ∷ turns) t now at f home w = cc
  behind {later = later} (OneAnswer {ks = ks} {es = es} {reported = truth} {turns = rest} j d told tie m) (Hears i c ∷ turns) t now at f home w =
      let kind_is : i ≡ j = sym (ap (λ (ts : List Turn). kind_in ts j) at) in
      let left : rest ≡ turns ++ more = ap turns_behind at in
      let took : taken t j ≡ Ok (c, f.0) = subst (λ (x : Kind). taken t x ≡ Ok (c, f.0)) kind_is f.1 in
      let h : taken_by (later (length ks)) (asked_all t (asked_in rest)) j ≡ Ok (c, asked_all f.0 (asked_in rest)) =
      ap (λ (n : ℕ). taken_by n (asked_all t (asked_in rest)) j) tie ∙ taken_more (asked_in rest) t j c f.0 f.2 took in
      elim w.1 [
        | inl x ↦
            let same : (d ≡ c) × (x.0 ≡ asked_all f.0 (asked_in rest)) = ok_parts c d (asked_all f.0 (asked_in rest)) x.0 (taken_by (later (length ks)) (asked_all t (asked_in rest)) j) h x.1 in
            one_more now turns more truth i d c same.0
            (behind m turns f.0 now left f.3 (subst (λ (u : Talk). Home later u ks es) same.1 x.2) (subst (λ (u : Talk). On later u ks es) same.1 x.3))
        | inr x ↦ let no : (let y : Answer = Ok (c, asked_all f.0 (asked_in rest)) in y) ≡ Err Uncertain = sym h ∙ x in cc
      ]
  behind (OneElse j told s m) (Asks a ∷ turns) t now at f home w = cc
  behind {later = later} {ks = ks} {es = es} (OneElse {reported = truth} {turns = rest} j told s m) (Hears i c ∷ turns) t now at f home w =
      let kind_is : i ≡ j = sym (ap (λ (ts : List Turn). kind_in ts j) at) in
      let was : taken t j ≡ Ok (Aside, t) = ap (λ (b : Bool). taken_as b t j) (aside_is s) in
      let took : taken t j ≡ Ok (c, f.0) = subst (λ (x : Kind). taken t x ≡ Ok (c, f.0)) kind_is f.1 in
      let same : (c ≡ Aside) × (f.0 ≡ t) = ok_parts Aside c t f.0 (taken t j) was took in
      one_more now turns more truth i Aside c (sym same.0) (behind m turns t now (ap turns_behind at) (subst (λ (u : Talk). FollowsTo u turns now) same.1 f.3) home w)

pub stands_behind : (turns more : List Turn) (now : Talk) (truth : List Event) → FollowsTo start turns now → is_idle now ≡ true → BelongInTurns (turns ++ more) truth
    → (rest : List Event) × (truth ≡ reported_in turns ++ rest) × BelongInTurns more rest
stands_behind turns more now truth f idle b =
    let asked_now = asked_so Idle 0 [] (asked_in (turns ++ more)) in
    let home : Home b.later (asked_all start (asked_in (turns ++ more))) b.sent b.belong =
    subst (λ (t : Talk). Home b.later t b.sent b.belong) (sym asked_now) (at_home b.later Ready (asked_in (turns ++ more)) b.sent b.belong b.serves 0) in
    let w : On b.later (asked_all start (asked_in (turns ++ more))) b.sent b.belong = subst (λ (t : Talk). On b.later t b.sent b.belong) (sym asked_now) (on b.later b.serves 0) in
    let left = behind more b.among turns start now refl f home w in
    let at = idle_parts now.stage now.pending idle in
    let here : Home left.later (talk now.stage now.name (now.pending ++ asked_in more)) left.sent left.belong =
    subst (λ (t : Talk). Home left.later t left.sent left.belong) (asked_so now.stage now.name now.pending (asked_in more)) left.home in (
      left.rest,
      left.is,
      record {
        later = left.later;
        sent = left.sent;
        belong = left.belong;
        serves = over_all left.later now.pending (asked_in more) at.1 (here at.0);
        among = left.among;
      },
    )
