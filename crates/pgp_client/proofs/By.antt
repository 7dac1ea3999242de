-- What is sent to the requests of one client belongs to these.
use Rattle.pgp_client.proofs.PoolCommon.{◌≡◌, ◌∙◌, ℕ, true, false, List, [], ◌∷◌, ◌++◌, refl, sym, subst, AmongTurns, NoTurnLeft, OneAsked, OneAnswer, OneElse, BelongInTurns, Turn, Asks, Hears, asked_in, Event, Part, Last, Aside, Ended, Kind, Asked, AreTheirs, EndsAnswer, EndsSession, InAnswer, IsTheirs, OfConnection, turns_by, StandsAnywhere, aside_is, begins, is_aside, Stage, Idle}
use Rattle.pgp_client.specs.declared.request.Request.TheVariants.{Startup}
use Rattle.pgp_client.proofs.Paths.{Goes, answers_go, front_goes, in_query, result_goes}
use Rattle.pgp_client.proofs.Stages.{not_aside}
use Rattle.pgp_client.specs.Flow as flow
use Rattle.pgp_client.specs.Flow.{At, Ready, Skips, Queries, Fails, CopyBreaks, BreaksHere, BreaksBehind, CopyEnds, DoneStands, SyncStands, Serves, parts}
use Rattle.pgp_client.specs.declared.kind.Kind.TheVariants.{ErrorResponse}

module _ (c : ℕ) where
  abbrev AllBy : List Asked → Type 0
  AllBy [] = Unit {0}
  AllBy (a ∷ rs) = (a.name ≡ c) × AllBy rs

  abbrev PlaceBy : At → Type 0
  PlaceBy Ready = Unit {0}
  PlaceBy Skips = Unit {0}
  PlaceBy (Queries some n) = n ≡ c
  PlaceBy (Fails n) = n ≡ c

  -- of a message and what it is
  abbrev IsBy : Kind → Event → Type 0
  IsBy k (Part n) = (n ≡ c) × (is_aside k ≡ false)
  IsBy k (Last n) = (n ≡ c) × (is_aside k ≡ false)
  IsBy k Ended = k ≡ ErrorResponse
  IsBy k Aside = ⊥

  abbrev By : List Kind → List Event → Type 0
  By [] [] = Unit {0}
  By (k ∷ ks) (e ∷ es) = IsBy k e × By ks es
  By ks es = ⊥

  goes_by : (n : ℕ) (s : Stage) (ks : List Kind) (m : Stage) (more : List Kind) (es : List Event) → Goes s ks m → n ≡ c → By more es → By (ks ++ more) (parts n ks ++ es)
  goes_by n s [] m more es g is w = w
  goes_by n s (k ∷ ks) m more es g is w = ((is, not_aside s k g.0 g.1), goes_by n g.0 ks m more es g.3 is w)

  ends_by : {rs behind : List Asked} → CopyEnds rs behind → AllBy rs → AllBy behind
  ends_by DoneStands h = h.1
  ends_by (SyncStands more) h = ends_by more h.1

  breaks_by : {later : ℕ} {rs behind : List Asked} → CopyBreaks later rs behind → AllBy rs → AllBy behind
  breaks_by BreaksHere h = h
  breaks_by (BreaksBehind before more) h = breaks_by more h.1

  sent_by : (later : ℕ → ℕ) {place : At} {rs : List Asked} {ks : List Kind} {es : List Event} → Serves later place rs ks es → PlaceBy place → AllBy rs → By ks es
  sent_by later flow.Waits p h = tt
  sent_by later (flow.Answered {r = r} {n = n} {ks = ks} {more = more} {k = k} {es = es} a s) p h =
      let go = answers_go a in
      goes_by n (begins r) ks go.place (k ∷ more) (Last n ∷ es) go.path h.0 ((h.0, not_aside go.place k Idle go.last), sent_by later s tt h.1)
  sent_by later (flow.Answering {r = r} {n = n} ks a) p h =
      let go = answers_go a.2 in
      let front = front_goes (begins r) ks a.0 go.place go.path in
      goes_by n (begins r) ks front.0 [] [] front.1 h.0 tt
  sent_by later (flow.Refused {r = r} {n = n} ks {more = more} {es = es} a x s) p h =
      let go = answers_go a.2 in
      let front = front_goes (begins r) ks a.0 go.place go.path in
      goes_by n (begins r) ks front.0 (ErrorResponse ∷ more) (Last n ∷ es) front.1 h.0 ((h.0, refl), sent_by later s tt h.1)
  sent_by later (flow.Failed {r = r} {n = n} ks {more = more} {es = es} a x s) p h =
      let go = answers_go a.2 in
      let front = front_goes (begins r) ks a.0 go.place go.path in
      goes_by n (begins r) ks front.0 (ErrorResponse ∷ more) (Part n ∷ es) front.1 h.0 ((h.0, refl), sent_by later s h.0 h.1)
  sent_by later (flow.TurnedAway {n = n} ks a) p h =
      let go = answers_go a.2 in
      let front = front_goes (begins Startup) ks a.0 go.place go.path in
      goes_by n (begins Startup) ks front.0 (ErrorResponse ∷ []) (Ended ∷ []) front.1 h.0 (refl, tt)
  sent_by later (flow.PassedOver x s) p h = sent_by later s tt h.1
  sent_by later (flow.Skipped x s) p h = sent_by later s tt h.1
  sent_by later (flow.Resumed s) p h = sent_by later s tt h
  sent_by later (flow.Queried s) p h = sent_by later s h.0 h.1
  sent_by later (flow.Resulted {some = some} {next = next} {n = n} {ks = ks} {more = more} {k = k} {es = es} a s) p h =
      let go = result_goes a some in
      goes_by n (in_query some) ks go.place (k ∷ more) (Part n ∷ es) go.path p ((p, not_aside go.place k (in_query next) go.last), sent_by later s p h)
  sent_by later (flow.LateData s) p h = ((p, refl), sent_by later s p h)
  sent_by later (flow.Resulting {some = some} {n = n} ks a) p h =
      let go = result_goes a.3 some in
      let front = front_goes (in_query some) ks a.0 go.place go.path in
      goes_by n (in_query some) ks front.0 [] [] front.1 p tt
  sent_by later (flow.QueryFailed {some = some} {n = n} ks {more = more} {es = es} a s) p h =
      let go = result_goes a.3 some in
      let front = front_goes (in_query some) ks a.0 go.place go.path in
      goes_by n (in_query some) ks front.0 (ErrorResponse ∷ more) (Part n ∷ es) front.1 p ((p, refl), sent_by later s p h)
  sent_by later (flow.QueryDone has s) p h = ((p, refl), sent_by later s tt h)
  sent_by later (flow.Recovered s) p h = ((p, refl), sent_by later s tt h)
  sent_by later (flow.QueryCopies b s) p h = ((p, refl), ((p, refl), sent_by later s p (ends_by b h)))
  sent_by later flow.QueryCopying p h = ((p, refl), tt)
  sent_by later (flow.QueryCopyFails b s) p h = ((p, refl), ((p, refl), sent_by later s p (breaks_by b h)))
  sent_by later (flow.Copies b s) p h = ((h.0, refl), ((h.0, refl), sent_by later s tt (ends_by b h.1)))
  sent_by later flow.Copying p h = ((h.0, refl), tt)
  sent_by later (flow.CopyFails b s) p h = ((h.0, refl), ((h.0, refl), sent_by later s tt (breaks_by b h.1)))
  sent_by later flow.Closed p h = (refl, tt)
  sent_by later flow.ClosedSkipping p h = (refl, tt)
  sent_by later flow.ClosedFailing p h = (refl, tt)

  no_stands : (k : Kind) → is_aside k ≡ false → StandsAnywhere k → ⊥
  no_stands k other s = let no : true ≡ false = sym (aside_is s) ∙ other in cc

  one_by : (k : Kind) (e : Event) → IsBy k e → IsTheirs c k e
  one_by k (Part n) is = subst (λ (m : ℕ). IsTheirs c k (Part m)) (sym is.0) (InAnswer (no_stands k is.1))
  one_by k (Last n) is = subst (λ (m : ℕ). IsTheirs c k (Last m)) (sym is.0) (EndsAnswer (no_stands k is.1))
  one_by k Ended is = subst (λ (j : Kind). IsTheirs c j Ended) (sym is) EndsSession
  one_by k Aside is = absurd is

  among_by : {later : ℕ → ℕ} {ks : List Kind} {es truth : List Event} {turns : List Turn} → AmongTurns later ks es turns truth → By ks es → AreTheirs c turns truth
  among_by NoTurnLeft w = tt
  among_by (OneAsked a m) w = among_by m w
  among_by (OneAnswer k e told tie m) w = (one_by k e w.0, among_by m w.1)
  among_by (OneElse k told s m) w = (OfConnection s, among_by m w)

  asked_so : (turns : List Turn) → AllBy (asked_in (turns_by c turns))
  asked_so [] = tt
  asked_so (Asks a ∷ turns) = (refl, asked_so turns)
  asked_so (Hears k e ∷ turns) = asked_so turns

  called_so : (turns : List Turn) (truth : List Event) → AreTheirs c (turns_by c turns) truth → AreTheirs c turns truth
  called_so [] [] h = tt
  called_so [] (e ∷ truth) h = absurd h
  called_so (Asks a ∷ turns) truth h = called_so turns truth h
  called_so (Hears k e ∷ turns) [] h = absurd h
  called_so (Hears k e ∷ turns) (d ∷ truth) h = (h.0, called_so turns truth h.1)

  pub belong_to_one : (turns : List Turn) (truth : List Event) → BelongInTurns (turns_by c turns) truth → AreTheirs c turns truth
  belong_to_one turns truth b = called_so turns truth (among_by b.among (sent_by b.later b.serves tt (asked_so turns)))
