-- Each request ends once, in the order in which they are asked.
use Rattle.pgp_client.proofs.Common.{◌≡◌, ◌≢◌, ◌⊎◌, ◌<◌, ◌≤◌, ℕ, arith, Bool, true, false, List, [], ◌∷◌, ◌++◌, Option, Some, None, Result, Ok, Err, refl, sym, ap, subst, ◌∙◌, inl, inr, append_assoc, append-nil, if◌then◌else◌, Talk, begun, event_of, first_in, is_passed, ready, taken, taken_as, is_aside, observed_at, moved, asked, idle_at, is_idle, names, Turn, Asks, Hears, FollowsTo, asked_in, start, Event, Part, Last, Aside, Ended, Refusal, Kind, Asked, Request, Stage, Idle, Skipping, Over, Answering, Failed, Starting, Rows, CopyingIn, CopyingOut, CopyingBoth, CopiedBoth, Syncing, Authenticating, Parsing, Binding, Closing, Describing, DescribingRows, Executing, Returning, TakingCopy, GivingCopy, GaveCopy, Calling, Called, begins, observed, is_copying, behind_copy, behind_end, goes, completes, fails, copied, starts_with_sync, follows}
use Rattle.pgp_client.specs.declared.kind.Kind.TheVariants as kinds
use Rattle.pgp_client.specs.declared.request.Request.TheVariants as requests
use Rattle.pgp_client.specs.declared.stage.Stage.TheVariants.{Asked as AskedQuery}
use Rattle.pgp_client.specs.Ending.{BelongsTo, all_in_data, all_passed, is_error, is_in_data, EndsBy, Rises, after, first_name, first_open, first_open_at, left_by, open_after, open_at, open_in, with_asked}
use Rattle.pgp_client.specs.InTurns.{IsAmong, AskedBefore}
use Rattle.pgp_client.proofs.Before.{idle_ends, one_place, same_ok, same_some, same_step, tails}
use Rattle.pgp_client.proofs.Served.{talk}
use Rattle.pgp_client.proofs.Timely.{first_more}
use Rattle.pgp_client.proofs.Truths.{none_first}

-- the second are the last of the first, and before them stands what belongs to the data of copies
abbrev Past : List Asked → List Asked → Type 0
Past rs ps = (copied : List Asked) × (rs ≡ copied ++ ps) × (all_in_data copied ≡ true)

none_past : (rs : List Asked) → Past rs rs
none_past rs = ([], refl, refl)

both : (b v w : Bool) → (v ≡ true → w ≡ true) → (if b then v else false) ≡ true → (if b then w else false) ≡ true
both true v w h e = h e
both false v w h e = cc

all_data : (xs ys : List Asked) → all_in_data xs ≡ true → all_in_data ys ≡ true → all_in_data (xs ++ ys) ≡ true
all_data [] ys g h = h
all_data (x ∷ xs) ys g h = both (is_in_data x.request) (all_in_data xs) (all_in_data (xs ++ ys)) (λ e. all_data xs ys e h) g

past_on : (rs qs ps : List Asked) → Past rs qs → Past qs ps → Past rs ps
past_on rs qs ps e f = (e.0 ++ f.0, e.1 ∙ ap (λ (l : List Asked). e.0 ++ l) f.1 ∙ sym (append_assoc e.0 f.0 ps), all_data e.0 f.0 e.2 f.2)

past_pushed : (rs ps : List Asked) (a : Asked) → Past rs ps → Past (rs ++ a ∷ []) (ps ++ a ∷ [])
past_pushed rs ps a e = (e.0, ap (λ (l : List Asked). l ++ a ∷ []) e.1 ∙ append_assoc e.0 ps (a ∷ []), e.2)

-- those before the first that is answered are passed over
pub first_past : (b : Bool) (ps : List Asked) → (passed : List Asked) × (ps ≡ passed ++ first_in b ps) × (all_passed b passed ≡ true)
first_past b [] = ([], refl, refl)
first_past b (p ∷ ps) =
    let by_test : (v : Bool) → is_passed b p.request ≡ v → (passed : List Asked) × (p ∷ ps ≡ passed ++ first_in b (p ∷ ps)) × (all_passed b passed ≡ true) =
    λ v. elim v as (λ w. is_passed b p.request ≡ w → (passed : List Asked) × (p ∷ ps ≡ passed ++ first_in b (p ∷ ps)) × (all_passed b passed ≡ true)) [
      | true ↦ λ holds.
          let more = first_past b ps in (
            p ∷ more.0,
            ap (λ (l : List Asked). p ∷ l) more.1 ∙ ap (λ (l : List Asked). (p ∷ more.0) ++ l) (sym (ap (λ (w : Bool). if w then first_in b ps else p ∷ ps) holds)),
            ap (λ (w : Bool). if w then all_passed b more.0 else false) holds ∙ more.2,
          )
      | false ↦ λ other. ([], sym (ap (λ (w : Bool). if w then first_in b ps else p ∷ ps) other), refl)
    ] in
    by_test (is_passed b p.request) refl

-- what a message leaves of the requests
one_past : (a : Asked) (rest behind : List Asked) → is_in_data a.request ≡ true → Past rest behind → Past (a ∷ rest) behind
one_past a rest behind is e = (a ∷ e.0, ap (λ (l : List Asked). a ∷ l) e.1, ap (λ (b : Bool). if b then all_in_data e.0 else false) is ∙ e.2)

behind_past : (rs behind : List Asked) → behind_copy rs ≡ Some behind → Past rs behind
behind_past [] behind e = cc
behind_past (a ∷ rest) behind e = at a.request refl (behind_past rest behind) e
  where
    at : (r : Request) → a.request ≡ r → (behind_copy rest ≡ Some behind → Past rest behind) → behind_end r (behind_copy rest) rest ≡ Some behind → Past (a ∷ rest) behind
    at requests.Sync is more x = one_past a rest behind (ap is_in_data is) (more x)
    at requests.CopyDone is more x = one_past a rest behind (ap is_in_data is) (subst (Past rest) (same_some rest behind x) (none_past rest))
    at r is more x = cc

module _ (rs : List Asked) (x : Stage × List Asked) where
  goes_past : (o : Option Stage) → goes o rs ≡ Ok x → Past rs x.1
  goes_past None e = cc
  goes_past (Some s) e = subst (λ (y : Stage × List Asked). Past rs y.1) (same_ok (s, rs) x e) (none_past rs)

  completes_past : (done : Stage) (o : Option (List Asked)) → ((behind : List Asked) → o ≡ Some behind → Past rs behind) → completes done o ≡ Ok x → Past rs x.1
  completes_past done None h e = cc
  completes_past done (Some behind) h e = subst (λ (y : Stage × List Asked). Past rs y.1) (same_ok (done, behind) x e) (h behind refl)

  fails_past : (after : Stage) (b : Bool) → fails after b rs ≡ Ok x → Past rs x.1
  fails_past after true e = cc
  fails_past after false e = subst (λ (y : Stage × List Asked). Past rs y.1) (same_ok (after, rs) x e) (none_past rs)

  copied_past : (done after : Stage) (k : Kind) → copied done after rs k ≡ Ok x → Past rs x.1
  copied_past done after kinds.CommandComplete e = completes_past done (behind_copy rs) (behind_past rs) e
  copied_past done after kinds.ErrorResponse e = fails_past after (starts_with_sync rs) e
  copied_past done after k e = cc

  pending_past : (s : Stage) (k : Kind) → observed_at s rs k ≡ Ok x → Past rs x.1
  pending_past CopyingIn k e = copied_past _ _ k e
  pending_past TakingCopy k e = copied_past _ _ k e
  pending_past s k e = goes_past (follows s k) e

-- an answer's last message is an error where the server passes over what follows up to a Sync, and else none
abbrev pub Tells : Kind → Stage → Type 0
Tells k s = (s ≡ Idle → is_error k ≡ false) × (s ≡ Skipping → is_error k ≡ true)

error_rests : (s m : Stage) → follows s kinds.ErrorResponse ≡ Some m → m ≡ Idle → ⊥
error_rests Idle m e h = cc
error_rests s m e h = cc

idle_by : (s : Stage) (k : Kind) (m : Stage) → follows s k ≡ Some m → m ≡ Idle → is_error k ≡ false
idle_by s kinds.ErrorResponse m e h = absurd (error_rests s m e h)
idle_by s k m e h = refl

skips_by : (s : Stage) (k : Kind) (m : Stage) → follows s k ≡ Some m → m ≡ Skipping → is_error k ≡ true
skips_by s kinds.ErrorResponse m e h = refl
skips_by Idle k m e h = cc
skips_by s k m e h = cc

follows_tells : (s : Stage) (k : Kind) (m : Stage) → follows s k ≡ Some m → Tells k m
follows_tells s k m e = (idle_by s k m e, skips_by s k m e)

module _ (rs : List Asked) (x : Stage × List Asked) where
  goes_tells : (k : Kind) (o : Option Stage) → ((m : Stage) → o ≡ Some m → Tells k m) → goes o rs ≡ Ok x → Tells k x.0
  goes_tells k None h e = cc
  goes_tells k (Some s) h e = subst (λ (y : Stage × List Asked). Tells k y.0) (same_ok (s, rs) x e) (h s refl)

  completes_tells : (done : Stage) (o : Option (List Asked)) → Tells kinds.CommandComplete done → completes done o ≡ Ok x → Tells kinds.CommandComplete x.0
  completes_tells done None h e = cc
  completes_tells done (Some behind) h e = subst (λ (y : Stage × List Asked). Tells kinds.CommandComplete y.0) (same_ok (done, behind) x e) h

  fails_tells : (after : Stage) (b : Bool) → Tells kinds.ErrorResponse after → fails after b rs ≡ Ok x → Tells kinds.ErrorResponse x.0
  fails_tells after true h e = cc
  fails_tells after false h e = subst (λ (y : Stage × List Asked). Tells kinds.ErrorResponse y.0) (same_ok (after, rs) x e) h

  copied_tells : (done after : Stage) (k : Kind) → Tells kinds.CommandComplete done → Tells kinds.ErrorResponse after → copied done after rs k ≡ Ok x → Tells k x.0
  copied_tells done after kinds.CommandComplete g h e = completes_tells done (behind_copy rs) g e
  copied_tells done after kinds.ErrorResponse g h e = fails_tells after (starts_with_sync rs) h e
  copied_tells done after k g h e = cc

  pub observed_tells : (s : Stage) (k : Kind) → observed_at s rs k ≡ Ok x → Tells k x.0
  observed_tells CopyingIn k e = copied_tells Answering Failed k (λ h. refl, λ h. cc) (λ h. cc, λ h. refl) e
  observed_tells TakingCopy k e = copied_tells Idle Skipping k (λ h. refl, λ h. cc) (λ h. cc, λ h. refl) e
  observed_tells s k e = goes_tells k (follows s k) (follows_tells s k) e

-- the first of the requests that are to end has this name, and those that are pending are the last of the others
abbrev Leads : ℕ → List Asked → List Asked → Type 0
Leads n pending line = (a : Asked) × (rest : List Asked) × (line ≡ a ∷ rest) × Past rest pending × (a.name ≡ n)

-- these requests are to end where a dialogue stands so
abbrev StandsAt : Stage → ℕ → List Asked → List Asked → Type 0
StandsAt Idle n pending line = line ≡ first_in false pending
StandsAt Skipping n pending line = line ≡ first_in true pending
StandsAt Over n pending line = line ≡ []
StandsAt s n pending line = Leads n pending line

abbrev Stands : List Asked → Talk → Type 0
Stands line t = StandsAt t.stage t.name t.pending line

-- what a turn leaves of these requests
record Stepped (turn : Turn) (line left : List Asked) (next : Talk) : Type 0 where
  gone : List Asked
  joined : with_asked turn line ≡ gone ++ left
  by : EndsBy turn line gone
  stands : Stands left next

-- ---- a request is asked

pub none_more : (b : Bool) (ps more : List Asked) → first_in b ps ≡ [] → first_in b (ps ++ more) ≡ first_in b more
none_more b [] more h = refl
none_more b (p ∷ ps) more h = go (is_passed b p.request) (none_more b ps more) h
  where
    go : (v : Bool) → (first_in b ps ≡ [] → first_in b (ps ++ more) ≡ first_in b more)
        → (if v then first_in b ps else p ∷ ps) ≡ [] → (if v then first_in b (ps ++ more) else p ∷ (ps ++ more)) ≡ first_in b more
    go true h e = h e
    go false h e = cc

module _ (a : Asked) where
  -- what is asked while none is under way is the next that is answered, or the server passes over it
  alone : (b v : Bool) → is_passed b a.request ≡ v → (line : List Asked) → line ≡ [] → (gone : List Asked) × (line ++ a ∷ [] ≡ gone ++ first_in b (a ∷ [])) × EndsBy (Asks a) line gone
  alone b true is line none = (a ∷ [], ap (λ (l : List Asked). l ++ a ∷ []) none ∙ ap (λ (l : List Asked). a ∷ l) (sym (ap (λ (w : Bool). if w then [] else a ∷ []) is)), inr (none, refl))
  alone b false is line none = ([], ap (λ (l : List Asked). l ++ a ∷ []) none ∙ sym (ap (λ (w : Bool). if w then [] else a ∷ []) is), inl refl)

  asked_first : (b : Bool) (ps line : List Asked) → line ≡ first_in b ps → (gone : List Asked) × (line ++ a ∷ [] ≡ gone ++ first_in b (ps ++ a ∷ [])) × EndsBy (Asks a) line gone
  asked_first b ps line is = elim (first_more (a ∷ []) b ps) [
    | inl none ↦
        let one = alone b (is_passed b a.request) refl line (is ∙ none) in
        (one.0, one.1 ∙ ap (λ (l : List Asked). one.0 ++ l) (sym (none_more b ps (a ∷ []) none)), one.2)
    | inr h ↦ ([], ap (λ (l : List Asked). l ++ a ∷ []) (is ∙ h.2) ∙ sym h.3, inl refl)
  ]

  asked_at : (s : Stage) (n : ℕ) (ps line : List Asked) → StandsAt s n ps line
      → Stepped (Asks a) line (open_at s (ps ++ a ∷ []) (line ++ a ∷ [])) (record { stage = s; name = n; pending = ps ++ a ∷ [] })
  asked_at Idle n ps line h = let x = asked_first false ps line h in record { gone = x.0; joined = x.1; by = x.2; stands = refl }
  asked_at Skipping n ps line h = let x = asked_first true ps line h in record { gone = x.0; joined = x.1; by = x.2; stands = refl }
  asked_at Over n ps line h = record { gone = a ∷ []; joined = ap (λ (l : List Asked). l ++ a ∷ []) h; by = inr (h, refl); stands = refl }
  asked_at s n ps line h = record {
    gone = [];
    joined = refl;
    by = inl refl;
    stands = (h.0, h.1 ++ a ∷ [], ap (λ (l : List Asked). l ++ a ∷ []) h.2, past_pushed h.1 ps a h.3, h.4);
  }

-- ---- a message is heard

-- the first is under way, or none is
abbrev pub Readied : List Asked → Talk → Type 0
Readied line u = Leads u.name u.pending line ⊎ ((k : Kind) (x : Stage × List Asked) → observed_at u.stage u.pending k ≡ Ok x → x.0 ≡ Over)

begun_readied : (s : Stage) (n : ℕ) (qs line : List Asked) → ((k : Kind) (x : Stage × List Asked) → observed_at s [] k ≡ Ok x → x.0 ≡ Over) → line ≡ qs → Readied line (begun s n qs)
begun_readied s n [] line over is = inr over
begun_readied s n (a ∷ rest) line over is = inl (a, rest, is, none_past rest, refl)

pub over_takes_none : (ps : List Asked) (k : Kind) (x : Stage × List Asked) → observed_at Over ps k ≡ Ok x → x.0 ≡ Over
over_takes_none ps k x is = cc

readied : (s : Stage) (n : ℕ) (ps line : List Asked) → StandsAt s n ps line → Readied line (ready (talk s n ps))
readied Idle n ps line h = begun_readied Idle n (first_in false ps) line (λ k x is. idle_ends k [] x is) h
readied Skipping n ps line h = begun_readied Skipping n (first_in true ps) line (λ k x is. idle_ends k [] x is) h
readied Over n ps line h = inr (over_takes_none ps)
readied s n ps line h = inl h

module _ (k : Kind) where
  -- the answer's last message: the server passes over those before the next that is answered
  last_stepped : (b : Bool) (n : ℕ) (ps line : List Asked) → is_error k ≡ b → Leads n ps line → (gone : List Asked) × (line ≡ gone ++ first_in b ps) × EndsBy (Hears k (Last n)) line gone
  last_stepped b n ps line is h =
      let copied = h.3.0 in
      let p = first_past b ps in
      let behind : h.1 ≡ (copied ++ p.0) ++ first_in b ps = h.3.1 ∙ ap (λ (l : List Asked). copied ++ l) p.1 ∙ sym (append_assoc copied p.0 (first_in b ps)) in
      (h.0 ∷ (copied ++ p.0), h.2 ∙ ap (λ (l : List Asked). h.0 ∷ l) behind, (h.0, copied, p.0, refl, h.4, h.3.2, ap (λ (v : Bool). all_passed v p.0) is ∙ p.2))

  stepped_at : (s : Stage) (n : ℕ) (ps line : List Asked) → Tells k s → Leads n ps line → event_of s n ≢ Ended → Stepped (Hears k (event_of s n)) line (open_at s ps line) (talk s n ps)
  stepped_at Idle n ps line t h live = let x = last_stepped false n ps line (t.0 refl) h in record { gone = x.0; joined = x.1; by = x.2; stands = refl }
  stepped_at Skipping n ps line t h live = let x = last_stepped true n ps line (t.1 refl) h in record { gone = x.0; joined = x.1; by = x.2; stands = refl }
  stepped_at Over n ps line t h live = absurd (live refl)
  stepped_at s n ps line t h live = record { gone = []; joined = refl; by = (refl, ap first_name h.2 ∙ ap (λ (m : ℕ). let o : Option ℕ = Some m in o) h.4); stands = h }

  moved_stepped : (u : Talk) (line : List Asked) (r : Result (Stage × List Asked) Refusal) (x : Event × Talk) → Readied line u → observed_at u.stage u.pending k ≡ r → moved u.name r ≡ Ok x → x.0 ≢ Ended
      → Stepped (Hears k x.0) line (open_at x.1.stage x.1.pending line) x.1
  moved_stepped u line (Err e) x h is m live = cc
  moved_stepped u line (Ok y) x h is m live =
      let same = same_step (event_of y.0 u.name, talk y.0 u.name y.1) x m in
      let on : event_of y.0 u.name ≢ Ended = subst (λ (z : Event × Talk). z.0 ≢ Ended) (sym same) live in
      elim h [
        | inl l ↦
            let leads : Leads u.name y.1 line = (l.0, l.1, l.2, past_on l.1 u.pending y.1 l.3 (pending_past u.pending y u.stage k is), l.4) in
            subst (λ (z : Event × Talk). Stepped (Hears k z.0) line (open_at z.1.stage z.1.pending line) z.1) same (stepped_at y.0 u.name y.1 line (observed_tells u.pending y u.stage k is) leads on)
        | inr over ↦ absurd (on (ap (λ (s : Stage). event_of s u.name) (over k y is)))
      ]

  -- what belongs to no request changes nothing
  aside_at : (s : Stage) (n : ℕ) (ps line : List Asked) → StandsAt s n ps line → Stepped (Hears k Aside) line (open_at s ps line) (talk s n ps)
  aside_at Idle n ps line h = record { gone = []; joined = h; by = refl; stands = refl }
  aside_at Skipping n ps line h = record { gone = []; joined = h; by = refl; stands = refl }
  aside_at Over n ps line h = record { gone = []; joined = h; by = refl; stands = refl }
  aside_at s n ps line h = record { gone = []; joined = refl; by = refl; stands = h }

  taken_stepped : (b : Bool) (t : Talk) (line : List Asked) (x : Event × Talk) → Stands line t → taken_as b t k ≡ Ok x → x.0 ≢ Ended → Stepped (Hears k x.0) line (open_at x.1.stage x.1.pending line) x.1
  taken_stepped true t line x h is live =
      subst (λ (z : Event × Talk). Stepped (Hears k z.0) line (open_at z.1.stage z.1.pending line) z.1) (same_step (Aside, t) x is) (aside_at t.stage t.name t.pending line h)
  taken_stepped false t line x h is live =
      let u = ready t in
      moved_stepped u line (observed_at u.stage u.pending k) x (readied t.stage t.name t.pending line h) refl is live

-- ---- in turns

-- these requests are to end after a turn, where those are to end before it
abbrev pub open_by : Turn → Talk → List Asked → List Asked
open_by turn next line = open_at next.stage next.pending (with_asked turn line)

module _ (t : Talk) (k : Kind) (e : Event) (next : Talk) where
  abbrev left_is : taken t k ≡ Ok (e, next) → left_by t (taken t k) ≡ next
  left_is is = ap (left_by t) is

turn_stepped : (t : Talk) (line : List Asked) (turn : Turn) (now : Talk) → Stands line t → FollowsTo t (turn ∷ []) now → Stepped turn line (open_by turn now line) now
turn_stepped t line (Asks a) now h f = subst (λ (u : Talk). Stepped (Asks a) line (open_by (Asks a) u line) u) f (asked_at a t.stage t.name t.pending line h)
turn_stepped t line (Hears k e) now h f =
    subst (λ (u : Talk). Stepped (Hears k e) line (open_by (Hears k e) u line) u) f.3 (taken_stepped k (is_aside k) t line (e, f.0) h f.1 f.2)

-- one turn after others
module _ (now : Talk) where
  pub followed : (t : Talk) (turns more : List Turn) → FollowsTo t (turns ++ more) now → (mid : Talk) × FollowsTo t turns mid × FollowsTo mid more now
  followed t [] more f = (t, refl, f)
  followed t (Asks a ∷ turns) more f = followed (asked t a) turns more f
  followed t (Hears k e ∷ turns) more f = let x = followed f.0 turns more f.3 in (x.0, (f.0, f.1, f.2, x.1), x.2)

pub after_is : (t now : Talk) (turn : Turn) → FollowsTo t (turn ∷ []) now → after t turn ≡ now
after_is t now (Asks a) f = f
after_is t now (Hears k e) f = ap (left_by t) f.1 ∙ f.3

-- the rest of the turns, from the dialogue after the first
pub tail_follows : (t now : Talk) (turn : Turn) (turns : List Turn) → FollowsTo t (turn ∷ turns) now → FollowsTo t (turn ∷ []) (after t turn) × FollowsTo (after t turn) turns now
tail_follows t now (Asks a) turns f = (refl, f)
tail_follows t now (Hears k e) turns f =
    let is : left_by t (taken t k) ≡ f.0 = ap (left_by t) f.1 in
    ((f.0, f.1, f.2, sym is), subst (λ (u : Talk). FollowsTo u turns now) (sym is) f.3)

in_turns : (t : Talk) (line : List Asked) (turns : List Turn) (now : Talk) → Stands line t → FollowsTo t turns now → Stands (open_in t line turns) now
in_turns t line [] now h f = subst (λ (u : Talk). Stands line u) f h
in_turns t line (turn ∷ turns) now h f =
    let x = tail_follows t now turn turns f in
    in_turns (after t turn) (open_by turn (after t turn) line) turns now (turn_stepped t line turn (after t turn) h x.0).stands x.1

pub open_on : (t : Talk) (line : List Asked) (turns more : List Turn) (mid : Talk) → FollowsTo t turns mid → open_in t line (turns ++ more) ≡ open_in mid (open_in t line turns) more
open_on t line [] more mid f = ap (λ (u : Talk). open_in u line more) f
open_on t line (turn ∷ turns) more mid f = open_on (after t turn) (open_by turn (after t turn) line) turns more mid (tail_follows t mid turn turns f).1

stands_first : Stands [] start
stands_first = refl

-- what one more turn ends
pub turn_ends : (turns : List Turn) (turn : Turn) (now : Talk) → FollowsTo start (turns ++ turn ∷ []) now
    → (gone : List Asked) × (with_asked turn (open_after turns) ≡ gone ++ open_after (turns ++ turn ∷ [])) × EndsBy turn (open_after turns) gone
turn_ends turns turn now f =
    let x = followed now start turns (turn ∷ []) f in
    let s = turn_stepped x.0 (open_after turns) turn now (in_turns start [] turns x.0 stands_first x.1) x.2 in
    let left : open_by turn now (open_after turns) ≡ open_after (turns ++ turn ∷ []) =
    ap (λ (u : Talk). open_by turn u (open_after turns)) (sym (after_is x.0 now turn x.2)) ∙ sym (open_on start [] turns (turn ∷ []) x.0 x.1) in
    (s.gone, s.joined ∙ ap (λ (l : List Asked). s.gone ++ l) left, s.by)

-- each that was asked has ended, or is to end
asked_with : (line : List Asked) (turn : Turn) (turns : List Turn) → line ++ asked_in (turn ∷ turns) ≡ with_asked turn line ++ asked_in turns
asked_with line (Asks a) turns = sym (append_assoc line (a ∷ []) (asked_in turns))
asked_with line (Hears k e) turns = refl

ended_by : (t : Talk) (line : List Asked) (turns : List Turn) (now : Talk) → Stands line t → FollowsTo t turns now → (ended : List Asked) × (line ++ asked_in turns ≡ ended ++ open_in t line turns)
ended_by t line [] now h f = ([], append-nil line)
ended_by t line (turn ∷ turns) now h f =
    let x = tail_follows t now turn turns f in
    let s = turn_stepped t line turn (after t turn) h x.0 in
    let rest = ended_by (after t turn) (open_by turn (after t turn) line) turns now s.stands x.1 in (
      s.gone ++ rest.0,
      asked_with line turn turns ∙ ap (λ (l : List Asked). l ++ asked_in turns) s.joined ∙ append_assoc s.gone (open_by turn (after t turn) line) (asked_in turns)
          ∙ ap (λ (l : List Asked). s.gone ++ l) rest.1 ∙ sym (append_assoc s.gone rest.0 (open_in (after t turn) (open_by turn (after t turn) line) turns)),
    )

pub ended_once : (turns : List Turn) (now : Talk) → FollowsTo start turns now → (ended : List Asked) × (asked_in turns ≡ ended ++ open_after turns)
ended_once turns now f = ended_by start [] turns now stands_first f

-- the first of them
first_at : (s : Stage) (n : ℕ) (ps line : List Asked) → StandsAt s n ps line → first_open_at s n ps ≡ first_name line
first_at Idle n ps line h = ap first_name (sym h)
first_at Skipping n ps line h = ap first_name (sym h)
first_at Over n ps line h = ap first_name (sym h)
first_at s n ps line h = ap (λ (m : ℕ). let o : Option ℕ = Some m in o) (sym h.4) ∙ ap first_name (sym h.2)

pub first_told : (turns : List Turn) (now : Talk) → FollowsTo start turns now → first_open now ≡ first_name (open_after turns)
first_told turns now f = first_at now.stage now.name now.pending (open_after turns) (in_turns start [] turns now stands_first f)

none_at : (s : Stage) (n : ℕ) (ps line : List Asked) → StandsAt s n ps line → idle_at s ps ≡ true → line ≡ []
none_at Idle n ps line h idle = h ∙ none_first ps idle
none_at s n ps line h idle = cc

pub idle_open : (turns : List Turn) (now : Talk) → FollowsTo start turns now → is_idle now ≡ true → open_after turns ≡ []
idle_open turns now f idle = none_at now.stage now.name now.pending (open_after turns) (in_turns start [] turns now stands_first f) idle

-- ---- nothing comes of what has ended

among_more : (n : ℕ) (gone rs : List Asked) → IsAmong n (names rs) → IsAmong n (names (gone ++ rs))
among_more n [] rs i = i
among_more n (a ∷ gone) rs i = inr (among_more n gone rs i)

before_more : (gone rs : List Asked) (turns : List Turn) → AskedBefore rs turns → AskedBefore (gone ++ rs) turns
before_more gone rs [] b = tt
before_more gone rs (Asks a ∷ turns) b = subst (λ (l : List Asked). AskedBefore l turns) (sym (append_assoc gone rs (a ∷ []))) (before_more gone (rs ++ a ∷ []) turns b)
before_more gone rs (Hears k (Part n) ∷ turns) b = (among_more n gone rs b.0, before_more gone rs turns b.1)
before_more gone rs (Hears k (Last n) ∷ turns) b = (among_more n gone rs b.0, before_more gone rs turns b.1)
before_more gone rs (Hears k Aside ∷ turns) b = before_more gone rs turns b
before_more gone rs (Hears k Ended ∷ turns) b = before_more gone rs turns b

first_among : (n : ℕ) (rs : List Asked) → first_name rs ≡ Some n → IsAmong n (names rs)
first_among n [] h = cc
first_among n (a ∷ rs) h = let same : n ≡ a.name = cc in inl same

one_before : (turn : Turn) (line left gone : List Asked) (turns : List Turn) → with_asked turn line ≡ gone ++ left → EndsBy turn line gone → AskedBefore left turns → AskedBefore line (turn ∷ turns)
one_before (Asks a) line left gone turns joined by b = subst (λ (l : List Asked). AskedBefore l turns) (sym joined) (before_more gone left turns b)
one_before (Hears k (Part n)) line left gone turns joined by b = (first_among n line by.1, subst (λ (l : List Asked). AskedBefore l turns) (sym joined) (before_more gone left turns b))
one_before (Hears k (Last n)) line left gone turns joined by b =
    let head : line ≡ by.0 ∷ ((by.1 ++ by.2) ++ left) = joined ∙ ap (λ (l : List Asked). l ++ left) by.3 in
    (first_among n line (ap first_name head ∙ ap (λ (m : ℕ). let o : Option ℕ = Some m in o) by.4), subst (λ (l : List Asked). AskedBefore l turns) (sym joined) (before_more gone left turns b))
one_before (Hears k Aside) line left gone turns joined by b = subst (λ (l : List Asked). AskedBefore l turns) (sym joined) (before_more gone left turns b)
one_before (Hears k Ended) line left gone turns joined by b = subst (λ (l : List Asked). AskedBefore l turns) (sym joined) (before_more gone left turns b)

silent_by : (t : Talk) (line : List Asked) (turns : List Turn) (now : Talk) → Stands line t → FollowsTo t turns now → AskedBefore line turns
silent_by t line [] now h f = tt
silent_by t line (turn ∷ turns) now h f =
    let x = tail_follows t now turn turns f in
    let s = turn_stepped t line turn (after t turn) h x.0 in
    one_before turn line (open_by turn (after t turn) line) s.gone turns s.joined s.by (silent_by (after t turn) (open_by turn (after t turn) line) turns now s.stands x.1)

pub ended_silent : (turns more : List Turn) (now : Talk) → FollowsTo start (turns ++ more) now → AskedBefore (open_after turns) more
ended_silent turns more now f =
    let x = followed now start turns more f in
    silent_by x.0 (open_after turns) more now (in_turns start [] turns x.0 stands_first x.1) x.2

-- ---- all that was asked before a request whose answer has come

pub before_ended : (turns : List Turn) (now : Talk) (k : Kind) (before behind : List Asked) (last : Asked) → FollowsTo start (turns ++ Hears k (Last last.name) ∷ []) now
    → asked_in turns ≡ before ++ last ∷ behind → (IsAmong last.name (names (before ++ behind)) → ⊥) → (passed : List Asked) × (behind ≡ passed ++ open_after (turns ++ Hears k (Last last.name) ∷ []))
before_ended turns now k before behind last f is alone =
    let left = open_after (turns ++ Hears k (Last last.name) ∷ []) in
    let x = followed now start turns (Hears k (Last last.name) ∷ []) f in
    let old = ended_once turns x.0 x.1 in
    let s = turn_ends turns (Hears k (Last last.name)) now f in
    let by = s.2 in
    let passed : List Asked = by.1 ++ by.2 in
    let head : open_after turns ≡ by.0 ∷ (passed ++ left) = s.1 ∙ ap (λ (l : List Asked). l ++ left) by.3 in
    let place : old.0 ++ by.0 ∷ (passed ++ left) ≡ before ++ last ∷ behind = sym (ap (λ (l : List Asked). old.0 ++ l) head) ∙ sym old.1 ∙ is in
    (passed, sym (one_place by.0 last (passed ++ left) behind by.4 old.0 before place alone))

-- ---- names that rise

in_second : (n : ℕ) (xs ys : List Asked) → IsAmong n (names ys) → IsAmong n (names (xs ++ ys))
in_second n [] ys i = i
in_second n (x ∷ xs) ys i = inr (in_second n xs ys i)

below_first : (ended rs : List Asked) (m : ℕ) → Rises (names (ended ++ rs)) → first_name rs ≡ Some m → (n : ℕ) → IsAmong n (names ended) → n < m
below_first [] rs m up is n i = absurd i
below_first (a ∷ ended) rs m up is n (inl same) = subst (λ (x : ℕ). x < m) (sym same) (up.0 m (in_second m ended rs (first_among m rs is)))
below_first (a ∷ ended) rs m up is n (inr i) = below_first ended rs m up.1 is n i

rises_on : (xs ys : List Asked) → Rises (names (xs ++ ys)) → Rises (names ys)
rises_on [] ys up = up
rises_on (x ∷ xs) ys up = rises_on xs ys up.1

from_first : (rs : List Asked) (m : ℕ) → Rises (names rs) → first_name rs ≡ Some m → (n : ℕ) → IsAmong n (names rs) → m ≤ n
from_first [] m up is n i = absurd i
from_first (a ∷ rs) m up is n (inl same) = let at : a.name ≡ m = cc in omega (arith, same, at)
from_first (a ∷ rs) m up is n (inr i) = let at : a.name ≡ m = cc in let less : a.name < n = up.0 n i in omega (arith, less, at)

pub numbers_told : (turns : List Turn) (now : Talk) (m : ℕ) → FollowsTo start turns now → Rises (names (asked_in turns)) → first_open now ≡ Some m
    → (ended : List Asked) × (asked_in turns ≡ ended ++ open_after turns) × ((n : ℕ) → IsAmong n (names ended) → n < m) × ((n : ℕ) → IsAmong n (names (open_after turns)) → m ≤ n)
numbers_told turns now m f up is =
    let e = ended_once turns now f in
    let rising : Rises (names (e.0 ++ open_after turns)) = subst (λ (l : List Asked). Rises (names l)) e.1 up in
    let first : first_name (open_after turns) ≡ Some m = sym (first_told turns now f) ∙ is in
    (e.0, e.1, below_first e.0 (open_after turns) m rising first, from_first (open_after turns) m (rises_on e.0 (open_after turns) rising) first)

-- ---- the first request that is to end may still be answered

abbrev MayCome : ℕ → Talk → Type 0
MayCome n t = (k : Kind) × (e : Event) × (next : Talk) × (taken t k ≡ Ok (e, next)) × BelongsTo n e

not_passed : (b : Bool) (ps : List Asked) (a : Asked) (rest : List Asked) → first_in b ps ≡ a ∷ rest → is_passed b a.request ≡ false
not_passed b [] a rest h = cc
not_passed b (p ∷ ps) a rest h =
    let by_test : (v : Bool) → is_passed b p.request ≡ v → is_passed b a.request ≡ false = λ v. elim v as (λ w. is_passed b p.request ≡ w → is_passed b a.request ≡ false) [
      | true ↦ λ holds. not_passed b ps a rest (sym (ap (λ (w : Bool). if w then first_in b ps else p ∷ ps) holds) ∙ h)
      | false ↦ λ other.
          let same : p ∷ ps ≡ a ∷ rest = sym (ap (λ (w : Bool). if w then first_in b ps else p ∷ ps) other) ∙ h in
          sym (ap (λ (x : Asked). is_passed b x.request) (tails p a ps rest same).0) ∙ other
    ] in
    by_test (is_passed b p.request) refl

-- what may come first of the answer to a request
module _ (n : ℕ) (rest : List Asked) where
  abbrev begun_by : Request → Talk
  begun_by r = talk (begins r) n rest

  abbrev Comes : Request → Type 0
  Comes r = (k : Kind) × (e : Event) × (next : Talk) × (is_aside k ≡ false) × (observed (begun_by r) k ≡ Ok (e, next)) × BelongsTo n e

  first_comes : (b : Bool) (r : Request) → is_passed b r ≡ false → Comes r
  first_comes b requests.Startup h = (kinds.AuthenticationOk, Part n, talk Starting n rest, refl, refl, inl refl)
  first_comes b requests.Query h = (kinds.ErrorResponse, Part n, talk Failed n rest, refl, refl, inl refl)
  first_comes b requests.Parse h = (kinds.ErrorResponse, Last n, talk Skipping n rest, refl, refl, inr refl)
  first_comes b requests.Bind h = (kinds.ErrorResponse, Last n, talk Skipping n rest, refl, refl, inr refl)
  first_comes b requests.Close h = (kinds.ErrorResponse, Last n, talk Skipping n rest, refl, refl, inr refl)
  first_comes b requests.DescribeStatement h = (kinds.ErrorResponse, Last n, talk Skipping n rest, refl, refl, inr refl)
  first_comes b requests.DescribePortal h = (kinds.ErrorResponse, Last n, talk Skipping n rest, refl, refl, inr refl)
  first_comes b requests.Execute h = (kinds.ErrorResponse, Last n, talk Skipping n rest, refl, refl, inr refl)
  first_comes b requests.FunctionCall h = (kinds.ErrorResponse, Part n, talk Failed n rest, refl, refl, inl refl)
  first_comes b requests.Sync h = (kinds.ReadyForQuery, Last n, talk Idle n rest, refl, refl, inr refl)
  first_comes b requests.CopyDone h = cc
  first_comes b requests.CopyFail h = cc

-- the same where the first is yet to be under way
begun_comes : (s : Stage) (b : Bool) (m n : ℕ) (ps qs : List Asked) → first_in b ps ≡ qs → first_name qs ≡ Some n
    → (k : Kind) × (e : Event) × (next : Talk) × (is_aside k ≡ false) × (observed (begun s m qs) k ≡ Ok (e, next)) × BelongsTo n e
begun_comes s b m n ps [] is h = cc
begun_comes s b m n ps (a ∷ rest) is h =
    let same : a.name ≡ n = cc in
    let x = first_comes a.name rest b a.request (not_passed b ps a rest is) in
    (x.0, x.1, x.2, x.3, x.4, subst (λ (i : ℕ). BelongsTo i x.1) same x.5)

heard_comes : (t : Talk) (n : ℕ) → ((k : Kind) × (e : Event) × (next : Talk) × (is_aside k ≡ false) × (observed (ready t) k ≡ Ok (e, next)) × BelongsTo n e) → MayCome n t
heard_comes t n x = (x.0, x.1, x.2, ap (λ (b : Bool). taken_as b t x.0) x.3 ∙ x.4, x.5)

module _ (n : ℕ) (ps : List Asked) where
  abbrev May : Stage → Type 0
  May s = (is_copying (talk s n ps) ≡ true) ⊎ MayCome n (talk s n ps)

  come : (s s2 : Stage) (k : Kind) (e : Event) → taken (talk s n ps) k ≡ Ok (e, talk s2 n ps) → BelongsTo n e → May s
  come s s2 k e is b = inr (k, e, talk s2 n ps, is, b)

  under_comes : (s : Stage) → (s ≡ Idle → May s) → (s ≡ Skipping → May s) → (s ≡ Over → May s) → May s
  under_comes Idle i k o = i refl
  under_comes Skipping i k o = k refl
  under_comes Over i k o = o refl
  under_comes CopyingIn i k o = inl refl
  under_comes TakingCopy i k o = inl refl
  under_comes Authenticating i k o = come _ Starting kinds.AuthenticationOk (Part n) refl (inl refl)
  under_comes Starting i k o = come _ Idle kinds.ReadyForQuery (Last n) refl (inr refl)
  under_comes AskedQuery i k o = come _ Failed kinds.ErrorResponse (Part n) refl (inl refl)
  under_comes Answering i k o = come _ Failed kinds.ErrorResponse (Part n) refl (inl refl)
  under_comes Rows i k o = come _ Failed kinds.ErrorResponse (Part n) refl (inl refl)
  under_comes CopyingOut i k o = come _ Failed kinds.ErrorResponse (Part n) refl (inl refl)
  under_comes CopyingBoth i k o = come _ Failed kinds.ErrorResponse (Part n) refl (inl refl)
  under_comes CopiedBoth i k o = come _ Failed kinds.ErrorResponse (Part n) refl (inl refl)
  under_comes Parsing i k o = come _ Skipping kinds.ErrorResponse (Last n) refl (inr refl)
  under_comes Binding i k o = come _ Skipping kinds.ErrorResponse (Last n) refl (inr refl)
  under_comes Closing i k o = come _ Skipping kinds.ErrorResponse (Last n) refl (inr refl)
  under_comes Describing i k o = come _ Skipping kinds.ErrorResponse (Last n) refl (inr refl)
  under_comes DescribingRows i k o = come _ Skipping kinds.ErrorResponse (Last n) refl (inr refl)
  under_comes Executing i k o = come _ Skipping kinds.ErrorResponse (Last n) refl (inr refl)
  under_comes Returning i k o = come _ Skipping kinds.ErrorResponse (Last n) refl (inr refl)
  under_comes GivingCopy i k o = come _ Skipping kinds.ErrorResponse (Last n) refl (inr refl)
  under_comes GaveCopy i k o = come _ Skipping kinds.ErrorResponse (Last n) refl (inr refl)
  under_comes Calling i k o = come _ Failed kinds.ErrorResponse (Part n) refl (inl refl)
  under_comes Called i k o = come _ Failed kinds.ErrorResponse (Part n) refl (inl refl)
  under_comes Syncing i k o = come _ Idle kinds.ReadyForQuery (Last n) refl (inr refl)
  under_comes Failed i k o = come _ Idle kinds.ReadyForQuery (Last n) refl (inr refl)

some_name : (m n : ℕ) → (let o : Option ℕ = Some m in o) ≡ Some n → m ≡ n
some_name m n e = cc

may_come : (s : Stage) (m : ℕ) (ps : List Asked) (n : ℕ) → first_open_at s m ps ≡ Some n → (is_copying (talk s m ps) ≡ true) ⊎ MayCome n (talk s m ps)
may_come Idle m ps n h = inr (heard_comes (talk Idle m ps) n (begun_comes Idle false m n ps (first_in false ps) refl h))
may_come Skipping m ps n h = inr (heard_comes (talk Skipping m ps) n (begun_comes Skipping true m n ps (first_in true ps) refl h))
may_come Over m ps n h = cc
may_come s m ps n h = subst (λ (i : ℕ). (is_copying (talk s m ps) ≡ true) ⊎ MayCome i (talk s m ps)) (some_name m n h) (under_comes m ps s (λ is. cc) (λ is. cc) (λ is. cc))

pub open_may_come : (now : Talk) (n : ℕ) → first_open now ≡ Some n → (is_copying now ≡ true) ⊎ ((k : Kind) × (e : Event) × (next : Talk) × (taken now k ≡ Ok (e, next)) × BelongsTo n e)
open_may_come now n h = may_come now.stage now.name now.pending n h

pub none_over : (now : Talk) → now.stage ≡ Over → first_open now ≡ None
none_over now h = ap (λ (s : Stage). first_open_at s now.name now.pending) h
