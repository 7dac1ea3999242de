-- Where the server awaited the data of no copy it passes over no Sync, and without an error over nothing but ends of copies.
use Rattle.pgp_client.proofs.Common.{◌≡◌, ◌≢◌, ◌⊎◌, ℕ, Bool, true, false, List, [], ◌∷◌, ◌++◌, Option, Some, None, Result, Ok, Err, Contains, refl, sym, ap, subst, ◌∙◌, inl, inr, Talk, begun, event_of, first_in, ready, taken, taken_as, is_aside, observed_at, moved, goes, follows, Turn, Asks, Hears, FollowsTo, observed_in, start, Event, Last, Aside, Ended, Refusal, Kind, CopyInResponse, Asked, Stage, Idle, Skipping, Over, CopyingIn, TakingCopy}
use Rattle.pgp_client.specs.Ending.{after, all_passed, is_error, open_after, open_at, open_in}
use Rattle.pgp_client.specs.Taking.{copying_at}
use Rattle.pgp_client.proofs.Before.{idle_ends, same_ok, same_step}
use Rattle.pgp_client.proofs.Copying.{enters_now, one_behind, ready_outside}
use Rattle.pgp_client.proofs.Copying as copying
use Rattle.pgp_client.proofs.Ends.{Tells, after_is, first_past, followed, observed_tells, open_by, open_on, over_takes_none, tail_follows}
use Rattle.pgp_client.proofs.Served.{talk}

-- the first of the requests that are to end has this name, and the others are pending
abbrev One : ℕ → List Asked → List Asked → Type 0
One n pending line = (a : Asked) × (line ≡ a ∷ pending) × (a.name ≡ n)

abbrev StandsAt : Stage → ℕ → List Asked → List Asked → Type 0
StandsAt Idle n pending line = line ≡ first_in false pending
StandsAt Skipping n pending line = line ≡ first_in true pending
StandsAt Over n pending line = Unit {0}
StandsAt s n pending line = One n pending line

record Stands (line : List Asked) (t : Talk) : Type 0 where
  outside : copying_at t.stage ≡ false
  at : StandsAt t.stage t.name t.pending line

-- what the last message of an answer ends, and leaves
abbrev Ends : Kind → Event → List Asked → List Asked → Type 0
Ends k (Last n) line left = (first : Asked) × (passed : List Asked) × (line ≡ first ∷ passed ++ left) × (first.name ≡ n) × (all_passed (is_error k) passed ≡ true)
Ends k e line left = Unit {0}

-- ---- a request is asked

asked_at : (s : Stage) (n : ℕ) (ps line : List Asked) (a : Asked) → StandsAt s n ps line → StandsAt s n (ps ++ a ∷ []) (open_at s (ps ++ a ∷ []) (line ++ a ∷ []))
asked_at Idle n ps line a h = refl
asked_at Skipping n ps line a h = refl
asked_at Over n ps line a h = tt
asked_at s n ps line a h = (h.0, ap (λ (l : List Asked). l ++ a ∷ []) h.1, h.2)

-- ---- a message is heard

goes_same : (o : Option Stage) (rs : List Asked) (x : Stage × List Asked) → goes o rs ≡ Ok x → rs ≡ x.1
goes_same None rs x e = cc
goes_same (Some s) rs x e = ap (λ (y : Stage × List Asked). y.1) (same_ok (s, rs) x e)

pending_same : (s : Stage) (rs : List Asked) (k : Kind) (x : Stage × List Asked) → copying_at s ≡ false → observed_at s rs k ≡ Ok x → rs ≡ x.1
pending_same CopyingIn rs k x out e = cc
pending_same TakingCopy rs k x out e = cc
pending_same s rs k x out e = goes_same (follows s k) rs x e

abbrev Readied : List Asked → Talk → Type 0
Readied line u = One u.name u.pending line ⊎ ((k : Kind) (x : Stage × List Asked) → observed_at u.stage u.pending k ≡ Ok x → x.0 ≡ Over)

begun_readied : (s : Stage) (n : ℕ) (qs line : List Asked) → ((k : Kind) (x : Stage × List Asked) → observed_at s [] k ≡ Ok x → x.0 ≡ Over) → line ≡ qs → Readied line (begun s n qs)
begun_readied s n [] line over is = inr over
begun_readied s n (a ∷ rest) line over is = inl (a, is, refl)

readied : (s : Stage) (n : ℕ) (ps line : List Asked) → StandsAt s n ps line → Readied line (ready (talk s n ps))
readied Idle n ps line h = begun_readied Idle n (first_in false ps) line (λ k x is. idle_ends k [] x is) h
readied Skipping n ps line h = begun_readied Skipping n (first_in true ps) line (λ k x is. idle_ends k [] x is) h
readied Over n ps line h = inr (over_takes_none ps)
readied s n ps line h = inl h

module _ (k : Kind) where
  last_at : (b : Bool) (n : ℕ) (ps line : List Asked) → is_error k ≡ b → One n ps line → Ends k (Last n) line (first_in b ps)
  last_at b n ps line is h =
      let p = first_past b ps in
      (h.0, p.0, h.1 ∙ ap (λ (l : List Asked). h.0 ∷ l) p.1, h.2, ap (λ (v : Bool). all_passed v p.0) is ∙ p.2)

  stepped_at : (s : Stage) (n : ℕ) (ps line : List Asked) → Tells k s → One n ps line → event_of s n ≢ Ended
      → StandsAt s n ps (open_at s ps line) × Ends k (event_of s n) line (open_at s ps line)
  stepped_at Idle n ps line t h live = (refl, last_at false n ps line (t.0 refl) h)
  stepped_at Skipping n ps line t h live = (refl, last_at true n ps line (t.1 refl) h)
  stepped_at Over n ps line t h live = absurd (live refl)
  stepped_at s n ps line t h live = (h, tt)

  abbrev Leaves : List Asked → Event × Talk → Type 0
  Leaves line x = StandsAt x.1.stage x.1.name x.1.pending (open_at x.1.stage x.1.pending line) × Ends k x.0 line (open_at x.1.stage x.1.pending line)

  moved_stepped : (u : Talk) (line : List Asked) (r : Result (Stage × List Asked) Refusal) (x : Event × Talk) → copying_at u.stage ≡ false → Readied line u → observed_at u.stage u.pending k ≡ r
      → moved u.name r ≡ Ok x → x.0 ≢ Ended → Leaves line x
  moved_stepped u line (Err e) x out h is m live = cc
  moved_stepped u line (Ok y) x out h is m live =
      let same = same_step (event_of y.0 u.name, talk y.0 u.name y.1) x m in
      let on : event_of y.0 u.name ≢ Ended = subst (λ (z : Event × Talk). z.0 ≢ Ended) (sym same) live in
      elim h [
        | inl l ↦
            let one : One u.name y.1 line = (l.0, l.1 ∙ ap (λ (ps : List Asked). l.0 ∷ ps) (pending_same u.stage u.pending k y out is), l.2) in
            subst (Leaves line) same (stepped_at y.0 u.name y.1 line (observed_tells u.pending y u.stage k is) one on)
        | inr over ↦ absurd (on (ap (λ (s : Stage). event_of s u.name) (over k y is)))
      ]

  aside_at : (s : Stage) (n : ℕ) (ps line : List Asked) → StandsAt s n ps line → StandsAt s n ps (open_at s ps line)
  aside_at Idle n ps line h = refl
  aside_at Skipping n ps line h = refl
  aside_at Over n ps line h = tt
  aside_at s n ps line h = h

  taken_stepped : (b : Bool) (t : Talk) (line : List Asked) (x : Event × Talk) → Stands line t → taken_as b t k ≡ Ok x → x.0 ≢ Ended → Leaves line x
  taken_stepped true t line x h is live = subst (Leaves line) (same_step (Aside, t) x is) (aside_at t.stage t.name t.pending line h.at, tt)
  taken_stepped false t line x h is live =
      let u = ready t in
      moved_stepped u line (observed_at u.stage u.pending k) x (ready_outside t.stage t.name t.pending h.outside) (readied t.stage t.name t.pending line h.at) refl is live

-- ---- in turns

still_outside : (k : Kind) (t : Talk) (e : Event) (next : Talk) → copying_at t.stage ≡ false → taken t k ≡ Ok (e, next) → (k ≡ CopyInResponse → ⊥) → copying_at next.stage ≡ false
still_outside k t e next out is never =
    let by_stage : (b : Bool) → copying_at next.stage ≡ b → copying_at next.stage ≡ false = λ b. elim b as (λ v. copying_at next.stage ≡ v → copying_at next.stage ≡ false) [
      | true ↦ λ inside. absurd (never (enters_now k t e next out is inside))
      | false ↦ λ outside. outside
    ] in
    by_stage (copying_at next.stage) refl

-- it doesn't ask for the data of a copy
abbrev NoCopy : Turn → Type 0
NoCopy (Asks a) = Unit {0}
NoCopy (Hears k e) = k ≡ CopyInResponse → ⊥

turn_stepped : (t : Talk) (line : List Asked) (turn : Turn) (now : Talk) → Stands line t → FollowsTo t (turn ∷ []) now → NoCopy turn → Stands (open_by turn now line) now
turn_stepped t line (Asks a) now h f never = subst (λ (u : Talk). Stands (open_by (Asks a) u line) u) f (record { outside = h.outside; at = asked_at t.stage t.name t.pending line a h.at })
turn_stepped t line (Hears k e) now h f never =
    let left = taken_stepped k (is_aside k) t line (e, f.0) h f.1 f.2 in
    let out = still_outside k t e f.0 h.outside f.1 never in
    subst (λ (u : Talk). Stands (open_by (Hears k e) u line) u) f.3 (record { outside = out; at = left.0 })

none_one : (turn : Turn) (turns : List Turn) → (Contains (observed_in (turn ∷ turns)) CopyInResponse → ⊥) → NoCopy turn × (Contains (observed_in turns) CopyInResponse → ⊥)
none_one (Asks a) turns never = (tt, never)
none_one (Hears k e) turns never = (λ is. never (copying.stands_first (observed_in turns) k CopyInResponse is), λ c. never (one_behind (observed_in turns) k CopyInResponse c))

in_turns : (t : Talk) (line : List Asked) (turns : List Turn) (now : Talk) → Stands line t → FollowsTo t turns now → (Contains (observed_in turns) CopyInResponse → ⊥) → Stands (open_in t line turns) now
in_turns t line [] now h f never = subst (λ (u : Talk). Stands line u) f h
in_turns t line (turn ∷ turns) now h f never =
    let x = tail_follows t now turn turns f in
    let n = none_one turn turns never in
    in_turns (after t turn) (open_by turn (after t turn) line) turns now (turn_stepped t line turn (after t turn) h x.0 n.0) x.1 n.1

pub copyless_ends : (turns : List Turn) (now : Talk) (k : Kind) (n : ℕ) → FollowsTo start (turns ++ Hears k (Last n) ∷ []) now → (Contains (observed_in turns) CopyInResponse → ⊥)
    → (first : Asked) × (passed : List Asked) × (open_after turns ≡ first ∷ passed ++ open_after (turns ++ Hears k (Last n) ∷ [])) × (first.name ≡ n) × (all_passed (is_error k) passed ≡ true)
copyless_ends turns now k n f never =
    let turn = Hears k (Last n) in
    let x = followed now start turns (turn ∷ []) f in
    let h = in_turns start [] turns x.0 (record { outside = refl; at = refl }) x.1 never in
    let y = x.2 in
    let e = (taken_stepped k (is_aside k) x.0 (open_after turns) (Last n, y.0) h y.1 y.2).1 in
    let left : open_at y.0.stage y.0.pending (open_after turns) ≡ open_after (turns ++ turn ∷ []) =
    ap (λ (u : Talk). open_by turn u (open_after turns)) (y.3 ∙ sym (after_is x.0 now turn y)) ∙ sym (open_on start [] turns (turn ∷ []) x.0 x.1) in
    (e.0, e.1, e.2 ∙ ap (λ (l : List Asked). e.0 ∷ e.1 ++ l) left, e.3, e.4)
