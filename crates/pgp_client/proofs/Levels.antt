-- Where a dialogue is idle it goes on as one in which nothing was asked.
use Rattle.pgp_client.proofs.PoolCommon.{◌≡◌, ◌≢◌, ◌⊎◌, ◌∙◌, ℕ, Bool, true, false, List, [], ◌∷◌, ◌++◌, Result, Ok, ap, append_assoc, append-nil, inl, inr, refl, sym, subst, if◌then◌else◌, asked, awaits_none, begun, first_in, idle_at, is_aside, is_idle, is_passed, observed, ready, ready_at, taken, taken_as, Talk, Turn, Asks, Hears, FollowsTo, Event, Aside, Ended, Refusal, Kind, Asked, Stage, Idle, ok_parts}
use Rattle.pgp_client.proofs.Later.{idle_ends}

-- no request is under way in either, and the same is the first of those that are answered, whatever is asked from here on
pub record Level (t u : Talk) : Type 0 where
  pub here : t.stage ≡ Idle
  pub there : u.stage ≡ Idle
  pub same : (more : List Asked) → first_in false (t.pending ++ more) ≡ first_in false (u.pending ++ more)

abbrev pub Resumes : Talk → Talk → Type 0
Resumes t u = Level t u ⊎ (t ≡ u)

level_asked : (t u : Talk) (a : Asked) → Level t u → Level (asked t a) (asked u a)
level_asked t u a l = record {
  here = l.here;
  there = l.there;
  same = λ more. ap (λ (ps : List Asked). first_in false ps) (append_assoc t.pending (a ∷ []) more) ∙ l.same (a ∷ more)
      ∙ sym (ap (λ (ps : List Asked). first_in false ps) (append_assoc u.pending (a ∷ []) more));
}

level_first : (t u : Talk) → Level t u → first_in false t.pending ≡ first_in false u.pending
level_first t u l = sym (ap (λ (ps : List Asked). first_in false ps) (append-nil t.pending)) ∙ l.same [] ∙ ap (λ (ps : List Asked). first_in false ps) (append-nil u.pending)

-- what the request before was called doesn't matter
names_apart : (n m : ℕ) (qs : List Asked) (k : Kind) (e : Event) (next : Talk) → e ≢ Ended → observed (begun Idle n qs) k ≡ Ok (e, next) → observed (begun Idle m qs) k ≡ Ok (e, next)
names_apart n m [] k e next live is = absurd (live (idle_ends n e next k [] is))
names_apart n m (a ∷ rest) k e next live is = is

module _ (k : Kind) (e : Event) (t u next : Talk) where
  level_as : (b : Bool) → e ≢ Ended → Level t u → taken_as b t k ≡ Ok (e, next) → (after : Talk) × (taken_as b u k ≡ Ok (e, after)) × Resumes next after
  level_as true live l is =
      let same : (e ≡ Aside) × (next ≡ t) = ok_parts Aside e t next (taken_as true t k) refl is in
      (u, ap (λ (d : Event). let y : Result (Event × Talk) Refusal = Ok (d, u) in y) (sym same.0), inl (subst (λ (x : Talk). Level x u) (sym same.1) l))
  level_as false live l is =
      let at : ready t ≡ begun Idle t.name (first_in false t.pending) = ap (λ (s : Stage). ready_at s t) l.here in
      let there : ready u ≡ begun Idle u.name (first_in false u.pending) = ap (λ (s : Stage). ready_at s u) l.there in
      let first = level_first t u l in
      let from : observed (begun Idle t.name (first_in false u.pending)) k ≡ Ok (e, next) =
      ap (λ (qs : List Asked). observed (begun Idle t.name qs) k) (sym first) ∙ ap (λ (x : Talk). observed x k) (sym at) ∙ is in
      (next, ap (λ (x : Talk). observed x k) there ∙ names_apart t.name u.name (first_in false u.pending) k e next live from, inr refl)

  level_step : e ≢ Ended → Level t u → taken t k ≡ Ok (e, next) → (after : Talk) × (taken u k ≡ Ok (e, after)) × Resumes next after
  level_step = level_as (is_aside k)

-- so the turns go on in the one as in the other
pub resumed : (turns : List Turn) (t u now : Talk) → Resumes t u → FollowsTo t turns now → (after : Talk) × FollowsTo u turns after × Resumes now after
resumed turns t u now (inr same) f = (now, subst (λ (x : Talk). FollowsTo x turns now) same f, inr refl)
resumed [] t u now (inl l) f = (u, refl, inl (subst (λ (x : Talk). Level x u) f l))
resumed (Asks a ∷ turns) t u now (inl l) f = resumed turns (asked t a) (asked u a) now (inl (level_asked t u a l)) f
resumed (Hears k e ∷ turns) t u now (inl l) f =
    let step = level_step k e t u f.0 f.2 l f.1 in
    let rest = resumed turns f.0 step.0 now step.2 f.3 in
    (rest.0, (step.0, step.1, f.2, rest.1), rest.2)

-- ---- idle

pub idle_parts : (s : Stage) (ps : List Asked) → idle_at s ps ≡ true → (s ≡ Idle) × (awaits_none ps ≡ true)
idle_parts Idle ps h = (refl, h)
idle_parts s ps h = cc

-- those over which the server passes don't matter
first_over : (ps more : List Asked) → awaits_none ps ≡ true → first_in false (ps ++ more) ≡ first_in false more
first_over [] more h = refl
first_over (a ∷ ps) more h = go (is_passed false a.request) h (first_over ps more)
  where
    go : (b : Bool) → (if b then awaits_none ps else false) ≡ true → (awaits_none ps ≡ true → first_in false (ps ++ more) ≡ first_in false more)
        → (if b then first_in false (ps ++ more) else a ∷ (ps ++ more)) ≡ first_in false more
    go true e rest = rest e
    go false e rest = cc

none_awaited : (ps : List Asked) → first_in false ps ≡ [] → awaits_none ps ≡ true
none_awaited [] h = refl
none_awaited (a ∷ ps) h = go (is_passed false a.request) h (none_awaited ps)
  where
    go : (b : Bool) → (if b then first_in false ps else a ∷ ps) ≡ [] → (first_in false ps ≡ [] → awaits_none ps ≡ true) → (if b then awaits_none ps else false) ≡ true
    go true e rest = rest e
    go false e rest = cc

pub both_level : (t u : Talk) → is_idle t ≡ true → is_idle u ≡ true → Level t u
both_level t u h i =
    let at = idle_parts t.stage t.pending h in
    let there = idle_parts u.stage u.pending i in
    record { here = at.0; there = there.0; same = λ more. first_over t.pending more at.1 ∙ sym (first_over u.pending more there.1) }

pub resumes_idle : (t u : Talk) → Resumes t u → is_idle t ≡ true → is_idle u ≡ true
resumes_idle t u (inr same) h = subst (λ (x : Talk). is_idle x ≡ true) same h
resumes_idle t u (inl l) h =
    let at = idle_parts t.stage t.pending h in
    let none : first_in false t.pending ≡ [] = sym (ap (λ (ps : List Asked). first_in false ps) (append-nil t.pending)) ∙ first_over t.pending [] at.1 in
    ap (λ (s : Stage). idle_at s u.pending) l.there ∙ none_awaited u.pending (sym (level_first t u l) ∙ none)
