-- What is reported was asked before it was heard; and where the last request that is answered has its answer, the dialogue is idle.
use Rattle.pgp_client.proofs.Common.{◌≡◌, ◌≢◌, ◌⊎◌, ℕ, Bool, true, false, List, [], ◌∷◌, ◌++◌, Option, Some, None, Result, Ok, Err, refl, sym, ap, subst, ◌∙◌, inl, inr, append_assoc, append-nil, if◌then◌else◌, Talk, begun, event_of, first_in, is_passed, ready, ready_at, taken_as, is_aside, observed_at, follows, goes, moved, copied, completes, fails, behind_copy, behind_end, starts_with_sync, at_idle, asked, awaits_none, idle_at, is_idle, names, Turn, Asks, Follows, FollowsTo, asked_in, start, Event, Part, Last, Aside, Ended, Refusal, Kind, Asked, Request, Stage, Idle, Skipping, Over, CopyingIn, TakingCopy}
use Rattle.pgp_client.specs.InTurns.{IsAmong, AskedBefore}
use Rattle.pgp_client.specs.Telling.{Hears}
use Rattle.pgp_client.specs.declared.kind.Kind.TheVariants as kinds
use Rattle.pgp_client.specs.declared.request.Request.TheVariants as requests

-- the second are the last of the first
abbrev Ends : List Asked → List Asked → Type 0
Ends rs ps = (gone : List Asked) × (rs ≡ gone ++ ps)

-- a request is under way
abbrev under_way : Stage → Bool
under_way Idle = false
under_way Skipping = false
under_way s = true

-- of these requests one has the name, and the others stand behind it
abbrev Under : List Asked → ℕ → List Asked → Type 0
Under rs n ps = (a : Asked) × (rest : List Asked) × Ends rs (a ∷ rest) × Ends rest ps × (a.name ≡ n)

-- what a dialogue awaits are the last of these requests, behind the one under way
record Within (rs : List Asked) (t : Talk) : Type 0 where
  name : under_way t.stage ≡ true → Under rs t.name t.pending
  pending : Ends rs t.pending

abbrev Reported : Event → List Asked → List Asked → Type 0
Reported (Part n) rs ps = Under rs n ps
Reported (Last n) rs ps = Under rs n ps
Reported e rs ps = Unit {0}

all_end : (rs : List Asked) → Ends rs rs
all_end rs = ([], refl)

ends_on : (rs qs ps : List Asked) → Ends rs qs → Ends qs ps → Ends rs ps
ends_on rs qs ps e f = (e.0 ++ f.0, e.1 ∙ ap (λ (l : List Asked). e.0 ++ l) f.1 ∙ sym (append_assoc e.0 f.0 ps))

one_before : (a : Asked) (rs ps : List Asked) → Ends rs ps → Ends (a ∷ rs) ps
one_before a rs ps e = (a ∷ e.0, ap (λ (l : List Asked). a ∷ l) e.1)

pushed : (rs ps : List Asked) (a : Asked) → Ends rs ps → Ends (rs ++ a ∷ []) (ps ++ a ∷ [])
pushed rs ps a e = (e.0, ap (λ (l : List Asked). l ++ a ∷ []) e.1 ∙ append_assoc e.0 ps (a ∷ []))

under_pushed : (rs ps : List Asked) (n : ℕ) (a : Asked) → Under rs n ps → Under (rs ++ a ∷ []) n (ps ++ a ∷ [])
under_pushed rs ps n a u = (u.0, u.1 ++ a ∷ [], pushed rs (u.0 ∷ u.1) a u.2, pushed u.1 ps a u.3, u.4)

under_on : (rs qs ps : List Asked) (n : ℕ) → Under rs n qs → Ends qs ps → Under rs n ps
under_on rs qs ps n u e = (u.0, u.1, u.2, ends_on u.1 qs ps u.3 e, u.4)

first_ends : (skipping : Bool) (rs : List Asked) → Ends rs (first_in skipping rs)
first_ends skipping [] = all_end []
first_ends skipping (a ∷ rs) = go (is_passed skipping a.request) (first_ends skipping rs)
  where
    go : (b : Bool) → Ends rs (first_in skipping rs) → Ends (a ∷ rs) (if b then first_in skipping rs else a ∷ rs)
    go true rest = one_before a rs (first_in skipping rs) rest
    go false rest = all_end (a ∷ rs)

pub same_some : (a b : List Asked) → Some a ≡ Some b → a ≡ b
same_some a b e = cc

behind_ends : (rs behind : List Asked) → behind_copy rs ≡ Some behind → Ends rs behind
behind_ends [] behind e = cc
behind_ends (a ∷ rest) behind e = at a.request (behind_ends rest behind) e
  where
    at : (r : Request) → (behind_copy rest ≡ Some behind → Ends rest behind) → behind_end r (behind_copy rest) rest ≡ Some behind → Ends (a ∷ rest) behind
    at requests.Sync more x = one_before a rest behind (more x)
    at requests.CopyDone more x = one_before a rest behind (subst (Ends rest) (same_some rest behind x) (all_end rest))
    at r more x = cc

pub same_ok : (a b : Stage × List Asked) → (let x : Result (Stage × List Asked) Refusal = Ok a in x ≡ Ok b) → a ≡ b
same_ok a b e = cc

-- what a message leaves of the requests are the last of them
module _ (rs : List Asked) (x : Stage × List Asked) where
  goes_ends : (o : Option Stage) → goes o rs ≡ Ok x → Ends rs x.1
  goes_ends None e = cc
  goes_ends (Some s) e = subst (λ (y : Stage × List Asked). Ends rs y.1) (same_ok (s, rs) x e) (all_end rs)

  completes_ends : (done : Stage) (o : Option (List Asked)) → ((behind : List Asked) → o ≡ Some behind → Ends rs behind) → completes done o ≡ Ok x → Ends rs x.1
  completes_ends done None h e = cc
  completes_ends done (Some behind) h e = subst (λ (y : Stage × List Asked). Ends rs y.1) (same_ok (done, behind) x e) (h behind refl)

  fails_ends : (after : Stage) (b : Bool) → fails after b rs ≡ Ok x → Ends rs x.1
  fails_ends after true e = cc
  fails_ends after false e = subst (λ (y : Stage × List Asked). Ends rs y.1) (same_ok (after, rs) x e) (all_end rs)

  copied_ends : (done after : Stage) (k : Kind) → copied done after rs k ≡ Ok x → Ends rs x.1
  copied_ends done after kinds.CommandComplete e = completes_ends done (behind_copy rs) (behind_ends rs) e
  copied_ends done after kinds.ErrorResponse e = fails_ends after (starts_with_sync rs) e
  copied_ends done after k e = cc

  pending_ends : (s : Stage) (k : Kind) → observed_at s rs k ≡ Ok x → Ends rs x.1
  pending_ends CopyingIn k e = copied_ends _ _ k e
  pending_ends TakingCopy k e = copied_ends _ _ k e
  pending_ends s k e = goes_ends (follows s k) e

pub idle_ends : (k : Kind) (rs : List Asked) (x : Stage × List Asked) → goes (at_idle k) rs ≡ Ok x → x.0 ≡ Over
idle_ends kinds.ErrorResponse rs x e = sym (ap (λ (y : Stage × List Asked). y.0) (same_ok (Over, rs) x e))
idle_ends k rs x e = cc

-- where no request is under way, nothing but the session's end is reported
named_at : {U : Type 0} (s : Stage) (n : ℕ) (rs : List Asked) (k : Kind) (x : Stage × List Asked) → (under_way s ≡ true → U) → observed_at s rs k ≡ Ok x → event_of x.0 n ≢ Ended → U
named_at Idle n rs k x h e on = absurd (on (ap (λ (s : Stage). event_of s n) (idle_ends k rs x e)))
named_at Skipping n rs k x h e on = absurd (on (ap (λ (s : Stage). event_of s n) (idle_ends k rs x e)))
named_at s n rs k x h e on = h refl

reported_at : (rs ps : List Asked) (s : Stage) (n : ℕ) → Under rs n ps → Reported (event_of s n) rs ps
reported_at rs ps Idle n h = h
reported_at rs ps Skipping n h = h
reported_at rs ps Over n h = tt
reported_at rs ps s n h = h

pub same_step : (a b : Event × Talk) → (let x : Result (Event × Talk) Refusal = Ok a in x ≡ Ok b) → a ≡ b
same_step a b e = cc

module _ (rs : List Asked) where
  begun_within : (s : Stage) (n : ℕ) (ps : List Asked) → under_way s ≡ false → Ends rs ps → Within rs (begun s n ps)
  begun_within s n [] idle h = record { name = λ u. cc; pending = h }
  begun_within s n (a ∷ rest) idle h = record { name = λ u. (a, rest, h, all_end rest, refl); pending = ends_on rs (a ∷ rest) rest h (a ∷ [], refl) }

  ready_within : (t : Talk) → Within rs t → Within rs (ready t)
  ready_within t w = at t.stage
    where
      first : (b : Bool) → Ends rs (first_in b t.pending)
      first b = ends_on rs t.pending (first_in b t.pending) w.pending (first_ends b t.pending)

      at : (s : Stage) → Within rs (ready_at s t)
      at Idle = begun_within Idle t.name (first_in false t.pending) refl (first false)
      at Skipping = begun_within Skipping t.name (first_in true t.pending) refl (first true)
      at s = w

  moved_within : (t : Talk) (k : Kind) (r : Result (Stage × List Asked) Refusal) (x : Event × Talk) → Within rs t → observed_at t.stage t.pending k ≡ r → moved t.name r ≡ Ok x → x.0 ≢ Ended → Reported x.0 rs x.1.pending × Within rs x.1
  moved_within t k (Err e) x w is m on = cc
  moved_within t k (Ok y) x w is m on =
      let same = same_step (event_of y.0 t.name, record { stage = y.0; name = t.name; pending = y.1 }) x m in
      let left : Ends t.pending y.1 = pending_ends t.pending y t.stage k is in
      let named : Under rs t.name y.1 = under_on rs t.pending y.1 t.name (named_at t.stage t.name t.pending k y w.name is (subst (λ (z : Event × Talk). z.0 ≢ Ended) (sym same) on)) left in
      subst (λ (z : Event × Talk). Reported z.0 rs z.1.pending × Within rs z.1) same
      (reported_at rs y.1 y.0 t.name named, record { name = λ u. named; pending = ends_on rs t.pending y.1 w.pending left })

  taken_within : (b : Bool) (t : Talk) (k : Kind) (x : Event × Talk) → Within rs t → taken_as b t k ≡ Ok x → x.0 ≢ Ended → Reported x.0 rs x.1.pending × Within rs x.1
  taken_within true t k x w is on = subst (λ (z : Event × Talk). Reported z.0 rs z.1.pending × Within rs z.1) (same_step (Aside, t) x is) (tt, w)
  taken_within false t k x w is on = moved_within (ready t) k (observed_at (ready t).stage (ready t).pending k) x (ready_within t w) refl is on

  asked_within : (t : Talk) (a : Asked) → Within rs t → Within (rs ++ a ∷ []) (asked t a)
  asked_within t a w = record { name = λ u. under_pushed rs t.pending t.name a (w.name u); pending = pushed rs t.pending a w.pending }

none_within : Within [] start
none_within = record { name = λ u. cc; pending = all_end [] }

-- ---- what is reported was asked

stands_in : (gone : List Asked) (a : Asked) (rest : List Asked) → IsAmong a.name (names (gone ++ a ∷ rest))
stands_in [] a rest = inl refl
stands_in (b ∷ gone) a rest = inr (stands_in gone a rest)

under_named : (rs ps : List Asked) (n : ℕ) → Under rs n ps → IsAmong n (names rs)
under_named rs ps n u = subst (λ (m : ℕ). IsAmong m (names rs)) u.4 (subst (λ (l : List Asked). IsAmong u.0.name (names l)) (sym u.2.1) (stands_in u.2.0 u.0 u.1))

joined : (rs ps : List Asked) (k : Kind) (e : Event) (turns : List Turn) → Reported e rs ps → AskedBefore rs turns → AskedBefore rs (Hears k e ∷ turns)
joined rs ps k (Part n) turns r a = (under_named rs ps n r, a)
joined rs ps k (Last n) turns r a = (under_named rs ps n r, a)
joined rs ps k e turns r a = a

follows_asked : (rs : List Asked) (t : Talk) (turns : List Turn) → Within rs t → Follows t turns → AskedBefore rs turns
follows_asked rs t [] w f = tt
follows_asked rs t (Asks a ∷ turns) w f = follows_asked (rs ++ a ∷ []) (asked t a) turns (asked_within rs t a w) f
follows_asked rs t (Hears k e ∷ turns) w f =
    let s = taken_within rs (is_aside k) t k (e, f.0) w f.1 f.2 in
    joined rs f.0.pending k e turns s.0 (follows_asked rs f.0 turns s.1 f.3)

-- of a dialogue in which nothing was asked
pub asked_before : (turns : List Turn) → Follows start turns → AskedBefore [] turns
asked_before turns f = follows_asked [] start turns none_within f

-- ---- behind the last answer

-- an answer ends where no request is under way
abbrev Rests : Stage → Type 0
Rests s = (s ≡ Idle) ⊎ (s ≡ Skipping)

event_rests : (s : Stage) (n m : ℕ) → event_of s n ≡ Last m → Rests s
event_rests Idle n m e = inl refl
event_rests Skipping n m e = inr refl
event_rests s n m e = cc

moved_rests : (n m : ℕ) (r : Result (Stage × List Asked) Refusal) (x : Event × Talk) → moved n r ≡ Ok x → x.0 ≡ Last m → Rests x.1.stage
moved_rests n m (Err e) x w last = cc
moved_rests n m (Ok y) x w last =
    let same = same_step (event_of y.0 n, record { stage = y.0; name = n; pending = y.1 }) x w in
    subst (λ (z : Event × Talk). Rests z.1.stage) same (event_rests y.0 n m (ap (λ (z : Event × Talk). z.0) same ∙ last))

taken_rests : (b : Bool) (t : Talk) (k : Kind) (x : Event × Talk) (m : ℕ) → taken_as b t k ≡ Ok x → x.0 ≡ Last m → Rests x.1.stage
taken_rests true t k x m is last = let no : Aside ≡ Last m = ap (λ (z : Event × Talk). z.0) (same_step (Aside, t) x is) ∙ last in cc
taken_rests false t k x m is last = moved_rests (ready t).name m (observed_at (ready t).stage (ready t).pending k) x is last

module _ (k : Kind) (n : ℕ) (now : Talk) where
  last_in : (rs : List Asked) (t : Talk) (turns : List Turn) → Within rs t → FollowsTo t (turns ++ Hears k (Last n) ∷ []) now → Under (rs ++ asked_in turns) n now.pending × Rests now.stage
  last_in rs t [] w f =
      let s = taken_within rs (is_aside k) t k (Last n, f.0) w f.1 f.2 in
      let under : Under (rs ++ []) n f.0.pending = subst (λ (l : List Asked). Under l n f.0.pending) (sym (append-nil rs)) s.0 in
      subst (λ (u : Talk). Under (rs ++ []) n u.pending × Rests u.stage) f.3 (under, taken_rests (is_aside k) t k (Last n, f.0) n f.1 refl)
  last_in rs t (Asks a ∷ turns) w f =
      subst (λ (l : List Asked). Under l n now.pending × Rests now.stage) (append_assoc rs (a ∷ []) (asked_in turns)) (last_in (rs ++ a ∷ []) (asked t a) turns (asked_within rs t a w) f)
  last_in rs t (Hears j e ∷ turns) w f = last_in rs f.0 turns (taken_within rs (is_aside j) t j (e, f.0) w f.1 f.2).1 f.3

pub tails : (a b : Asked) (xs ys : List Asked) → a ∷ xs ≡ b ∷ ys → (a ≡ b) × (xs ≡ ys)
tails a b xs ys e = (cc, cc)

-- of a name that no other request has there is one place
module _ (a last : Asked) (rest behind : List Asked) (same : a.name ≡ last.name) where
  pub one_place : (gone before : List Asked) → gone ++ a ∷ rest ≡ before ++ last ∷ behind → (IsAmong last.name (names (before ++ behind)) → ⊥) → rest ≡ behind
  one_place [] [] e alone = (tails a last rest behind e).1
  one_place [] (b ∷ before) e alone = absurd (alone (inl (sym same ∙ ap (λ (x : Asked). x.name) (tails a b rest (before ++ last ∷ behind) e).0)))
  one_place (x ∷ gone) [] e alone =
      let there : IsAmong last.name (names (gone ++ a ∷ rest)) = subst (λ (m : ℕ). IsAmong m (names (gone ++ a ∷ rest))) same (stands_in gone a rest) in
      absurd (alone (subst (λ (l : List Asked). IsAmong last.name (names l)) (tails x last (gone ++ a ∷ rest) behind e).1 there))
  one_place (x ∷ gone) (b ∷ before) e alone = one_place gone before (tails x b (gone ++ a ∷ rest) (before ++ last ∷ behind) e).1 (λ i. alone (inr i))

none_behind : (gone ps : List Asked) → awaits_none (gone ++ ps) ≡ true → awaits_none ps ≡ true
none_behind [] ps e = e
none_behind (a ∷ gone) ps e = go (is_passed false a.request) e (none_behind gone ps)
  where
    go : (b : Bool) → (if b then awaits_none (gone ++ ps) else false) ≡ true → (awaits_none (gone ++ ps) ≡ true → awaits_none ps ≡ true) → awaits_none ps ≡ true
    go true e more = more e
    go false e more = cc

pub answered_idle : (turns : List Turn) (now : Talk) (k : Kind) (before behind : List Asked) (last : Asked) → FollowsTo start (turns ++ Hears k (Last last.name) ∷ []) now
    → asked_in turns ≡ before ++ last ∷ behind → awaits_none behind ≡ true → (IsAmong last.name (names (before ++ behind)) → ⊥) → (is_idle now ≡ true) ⊎ (now.stage ≡ Skipping)
answered_idle turns now k before behind last f is none alone =
    let r = last_in k last.name now [] start turns none_within f in
    let u = r.0 in
    let place : u.1 ≡ behind = one_place u.0 last u.1 behind u.4 u.2.0 before (sym u.2.1 ∙ is) alone in
    let awaits : awaits_none now.pending ≡ true = none_behind u.3.0 now.pending (ap awaits_none (sym u.3.1 ∙ place) ∙ none) in
    elim r.1 [
      | inl at ↦ inl (ap (λ (s : Stage). idle_at s now.pending) at ∙ awaits)
      | inr error ↦ inr error
    ]
