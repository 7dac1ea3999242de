-- A dialogue that refused a message, or whose session ended, is never idle again.
use Rattle.pgp_client.proofs.PoolCommon.{◌≡◌, ◌∙◌, ℕ, Bool, true, false, List, [], ◌∷◌, Result, Ok, Err, ap, refl, sym, asked, event_of, idle_at, is_aside, is_idle, moved, observed, observed_at, ready, ready_at, taken, taken_as, Talk, Turn, Asks, Hears, FollowsTo, Event, Aside, Ended, Refusal, Unexpected, Kind, Asked, Stage, Over, ok_parts, talk}

closed_as : (b : Bool) (t next : Talk) (k : Kind) (e : Event) → t.stage ≡ Over → taken_as b t k ≡ Ok (e, next) → next.stage ≡ Over
closed_as true t next k e over is =
    let same : (e ≡ Aside) × (next ≡ t) = ok_parts Aside e t next (taken_as true t k) refl is in
    ap (λ (u : Talk). u.stage) same.1 ∙ over
closed_as false t next k e over is =
    let at : ready t ≡ t = ap (λ (s : Stage). ready_at s t) over in
    let none : observed (ready t) k ≡ Err Unexpected = ap (λ (u : Talk). observed u k) at ∙ ap (λ (s : Stage). moved t.name (observed_at s t.pending k)) over in
    let no : (let y : Result (Event × Talk) Refusal = Err Unexpected in y) ≡ Ok (e, next) = sym none ∙ is in
    cc

pub stays_closed : (turns : List Turn) (t now : Talk) → t.stage ≡ Over → FollowsTo t turns now → now.stage ≡ Over
stays_closed [] t now over f = ap (λ (u : Talk). u.stage) (sym f) ∙ over
stays_closed (Asks a ∷ turns) t now over f = stays_closed turns (asked t a) now over f
stays_closed (Hears k e ∷ turns) t now over f = stays_closed turns f.0 now (closed_as (is_aside k) t f.0 k e over f.1) f.3

pub not_idle : (t : Talk) → t.stage ≡ Over → is_idle t ≡ true → ⊥
not_idle t over h = let no : false ≡ true = ap (λ (s : Stage). idle_at s t.pending) (sym over) ∙ h in cc

-- ---- the end

ends_at : (s : Stage) (n : ℕ) → Ended ≡ event_of s n → s ≡ Over
ends_at Over n e = refl
ends_at s n e = cc

ended_moved : (n : ℕ) (r : Result (Stage × List Asked) Refusal) (next : Talk) → moved n r ≡ Ok (Ended, next) → next.stage ≡ Over
ended_moved n (Err x) next is = cc
ended_moved n (Ok x) next is =
    let same : (Ended ≡ event_of x.0 n) × (next ≡ talk x.0 n x.1) = ok_parts (event_of x.0 n) Ended (talk x.0 n x.1) next (moved n (Ok x)) refl is in
    ap (λ (u : Talk). u.stage) same.1 ∙ ends_at x.0 n same.0

ended_as : (b : Bool) (t next : Talk) (k : Kind) → taken_as b t k ≡ Ok (Ended, next) → next.stage ≡ Over
ended_as true t next k is = let no : Ended ≡ Aside = (ok_parts Aside Ended t next (taken_as true t k) refl is).0 in cc
ended_as false t next k is = ended_moved (ready t).name (observed_at (ready t).stage (ready t).pending k) next is

pub ended : (t next : Talk) (k : Kind) → taken t k ≡ Ok (Ended, next) → next.stage ≡ Over
ended t next k is = ended_as (is_aside k) t next k is
