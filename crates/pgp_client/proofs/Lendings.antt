-- What is heard in lendings.
use Rattle.pgp_client.proofs.PoolCommon.{◌≡◌, ◌≢◌, ◌∙◌, ℕ, Bool, true, false, List, [], ◌∷◌, ◌++◌, Result, Ok, Err, ap, inl, length, refl, sym, subst, append_assoc, append-nil, StandsAnywhere, AmongTurns, NoTurnLeft, OneAsked, OneAnswer, OneElse, AskedBefore, BelongInTurns, asked, event_of, is_aside, is_idle, moved, observed_at, ready, taken, taken_as, Talk, Turn, Asks, Hears, Follows, FollowsTo, asked_in, reported_in, start, Event, Part, Last, Aside, Ended, Refusal, Kind, Asked, Stage, Idle, AreTheirs, EachHearsOwn, EachStandsAlone, EndsAnswer, InAnswer, IsTheirs, Lending, Lends, OfConnection, asked_by, run_by_client, run_of, turns_by, ok_parts, talk, aside_is}
use Rattle.pgp_client.specs.Flow.{Ready, Serves}
use Rattle.pgp_client.proofs.Exact.{stands}
use Rattle.pgp_client.proofs.By.{belong_to_one}
use Rattle.pgp_client.proofs.Homes.{stands_behind}
use Rattle.pgp_client.proofs.Levels.{both_level, resumed, resumes_idle}
use Rattle.pgp_client.proofs.Named.{event_by, followed_by, idle_by, talk_by, told_by}

pub follows_so : (turns : List Turn) (t now : Talk) → FollowsTo t turns now → Follows t turns
follows_so [] t now f = tt
follows_so (Asks a ∷ turns) t now f = follows_so turns (asked t a) now f
follows_so (Hears k e ∷ turns) t now f = (f.0, f.1, f.2, follows_so turns f.0 now f.3)

pub joined : (xs ys : List Turn) (t m now : Talk) → FollowsTo t xs m → FollowsTo m ys now → FollowsTo t (xs ++ ys) now
joined [] ys t m now f g = subst (λ (u : Talk). FollowsTo u ys now) (sym f) g
joined (Asks a ∷ xs) ys t m now f g = joined xs ys (asked t a) m now f g
joined (Hears k e ∷ xs) ys t m now f g = (f.0, f.1, f.2, joined xs ys f.0 m now f.3 g)

pub lent_run : (ls : List Lending) (t now : Talk) → Lends t ls now → FollowsTo t (run_of ls) now
lent_run [] t now h = h
lent_run (l ∷ ls) t now h = joined l.turns (run_of ls) t h.1 now h.2 (lent_run ls h.1 now h.3)

-- ---- each by itself

alone_from : ((turns : List Turn) → Follows start turns → BelongInTurns turns (reported_in turns))
    → ((turns : List Turn) (truth : List Event) → Follows start turns → BelongInTurns turns truth → truth ≡ reported_in turns)
    → ((turns : List Turn) → Follows start turns → AskedBefore [] turns)
    → (ls : List Lending) (t now : Talk) → Lends t ls now → EachStandsAlone ls
alone_from belong alone before [] t now h = tt
alone_from belong alone before (l ∷ ls) t now h =
    let first = resumed l.turns t start h.1 (inl (both_level t start h.0 refl)) h.2 in
    let f : Follows start l.turns = follows_so l.turns start first.0 first.1 in
    (record { follows = f; belong = belong l.turns f; alone = λ truth b. alone l.turns truth f b; asked = before l.turns f }, alone_from belong alone before ls h.1 now h.3)

pub each_alone : ((turns : List Turn) → Follows start turns → BelongInTurns turns (reported_in turns))
    → ((turns : List Turn) (truth : List Event) → Follows start turns → BelongInTurns turns truth → truth ≡ reported_in turns)
    → ((turns : List Turn) → Follows start turns → AskedBefore [] turns)
    → (ls : List Lending) (now : Talk) → Lends start ls now → EachStandsAlone ls
each_alone belong alone before ls now h = alone_from belong alone before ls start now h

-- ---- called by clients

abbrev told_run : List Lending → List Turn
told_run [] = []
told_run (l ∷ ls) = told_by l.client l.turns ++ told_run ls

named_from : (ls : List Lending) (t u now : Talk) → (is_idle t ≡ true → is_idle u ≡ true) → Lends t ls now → (after : Talk) × FollowsTo u (told_run ls) after × (is_idle now ≡ true → is_idle after ≡ true)
named_from [] t u now idle h = (u, refl, subst (λ (x : Talk). is_idle x ≡ true → is_idle u ≡ true) h idle)
named_from (l ∷ ls) t u now idle h =
    let c = l.client in
    let first = resumed l.turns t start h.1 (inl (both_level t start h.0 refl)) h.2 in
    let called : FollowsTo (talk_by c start) (told_by c l.turns) (talk_by c first.0) = followed_by c l.turns start first.0 first.1 in
    let back = resumed (told_by c l.turns) (talk_by c start) u (talk_by c first.0) (inl (both_level (talk_by c start) u refl (idle h.0))) called in
    let rest = named_from ls h.1 back.0 now (λ i. resumes_idle (talk_by c first.0) back.0 back.2 (idle_by c first.0 (resumes_idle h.1 first.0 first.2 i))) h.3 in
    (rest.0, joined (told_by c l.turns) (told_run ls) u back.0 rest.0 back.1 rest.1, rest.2)

-- what turns report of messages doesn't matter to whom they belong
data SameTurns : List Turn → List Turn → Type 0 where
  NoTurns : SameTurns [] []
  SameAsks : {xs ys : List Turn} (a : Asked) → SameTurns xs ys → SameTurns (Asks a ∷ xs) (Asks a ∷ ys)
  SameHears : {xs ys : List Turn} (k : Kind) (d e : Event) → SameTurns xs ys → SameTurns (Hears k d ∷ xs) (Hears k e ∷ ys)

same_asked : {xs ys : List Turn} → SameTurns xs ys → asked_in xs ≡ asked_in ys
same_asked NoTurns = refl
same_asked (SameAsks a s) = ap (λ (rs : List Asked). a ∷ rs) (same_asked s)
same_asked (SameHears k d e s) = same_asked s

same_among : {later : ℕ → ℕ} {ks : List Kind} {es truth : List Event} {xs ys : List Turn} → SameTurns xs ys → AmongTurns later ks es xs truth → AmongTurns later ks es ys truth
same_among NoTurns NoTurnLeft = NoTurnLeft
same_among (SameAsks a s) (OneAsked b m) = OneAsked a (same_among s m)
same_among (SameHears k d e s) (OneAnswer i x told tie m) = OneAnswer k x e (tie ∙ ap (λ (rs : List Asked). length rs) (same_asked s)) (same_among s m)
same_among (SameHears k d e s) (OneElse i told x m) = OneElse k e x (same_among s m)

same_belong : {xs ys : List Turn} {truth : List Event} → SameTurns xs ys → BelongInTurns xs truth → BelongInTurns ys truth
same_belong s b = record {
  later = b.later;
  sent = b.sent;
  belong = b.belong;
  serves = subst (λ (rs : List Asked). Serves b.later Ready rs b.sent b.belong) (same_asked s) b.serves;
  among = same_among s b.among;
}

same_one : (c : ℕ) (turns xs ys : List Turn) → SameTurns xs ys → SameTurns (turns_by c turns ++ xs) (told_by c turns ++ ys)
same_one c [] xs ys s = s
same_one c (Asks a ∷ turns) xs ys s = SameAsks (asked_by c a) (same_one c turns xs ys s)
same_one c (Hears k e ∷ turns) xs ys s = SameHears k e (event_by c e) (same_one c turns xs ys s)

same_run : (ls : List Lending) → SameTurns (run_by_client ls) (told_run ls)
same_run [] = NoTurns
same_run (l ∷ ls) = same_one l.client l.turns (run_by_client ls) (told_run ls) (same_run ls)

same_back : {xs ys : List Turn} → SameTurns xs ys → SameTurns ys xs
same_back NoTurns = NoTurns
same_back (SameAsks a s) = SameAsks a (same_back s)
same_back (SameHears k d e s) = SameHears k e d (same_back s)

-- ---- theirs

no_aside : (s : Stage) (n : ℕ) → Aside ≡ event_of s n → ⊥
no_aside Idle n e = cc
no_aside s n e = cc

moved_aside : (n : ℕ) (r : Result (Stage × List Asked) Refusal) (next : Talk) → moved n r ≡ Ok (Aside, next) → ⊥
moved_aside n (Err x) next is = cc
moved_aside n (Ok x) next is =
    let same : (Aside ≡ event_of x.0 n) × (next ≡ talk x.0 n x.1) = ok_parts (event_of x.0 n) Aside (talk x.0 n x.1) next (moved n (Ok x)) refl is in
    no_aside x.0 n same.0

aside_stands : (k : Kind) (t next : Talk) → taken t k ≡ Ok (Aside, next) → StandsAnywhere k
aside_stands k t next is =
    let by_aside : (b : Bool) → is_aside k ≡ b → StandsAnywhere k = λ b. elim b as (λ v. is_aside k ≡ v → StandsAnywhere k) [
      | true ↦ λ holds. stands k holds
      | false ↦ λ other. absurd (moved_aside (ready t).name (observed_at (ready t).stage (ready t).pending k) next (sym (ap (λ (b : Bool). taken_as b t k) other) ∙ is))
    ] in
    by_aside (is_aside k) refl

no_stands : (k : Kind) (e : Event) (t next : Talk) → taken t k ≡ Ok (e, next) → e ≢ Aside → StandsAnywhere k → ⊥
no_stands k e t next is other s = other (ok_parts Aside e t next (taken t k) (ap (λ (b : Bool). taken_as b t k) (aside_is s)) is).0

one_theirs : (c : ℕ) (k : Kind) (e : Event) (t next : Talk) → taken t k ≡ Ok (e, next) → e ≢ Ended → IsTheirs c k (event_by c e)
one_theirs c k (Part n) t next is live = InAnswer (no_stands k (Part n) t next is (λ h. cc))
one_theirs c k (Last n) t next is live = EndsAnswer (no_stands k (Last n) t next is (λ h. cc))
one_theirs c k Aside t next is live = OfConnection (aside_stands k t next is)
one_theirs c k Ended t next is live = absurd (live refl)

turns_theirs : (c : ℕ) (turns : List Turn) (t now : Talk) → FollowsTo t turns now → AreTheirs c turns (reported_in (told_by c turns))
turns_theirs c [] t now f = tt
turns_theirs c (Asks a ∷ turns) t now f = turns_theirs c turns (asked t a) now f
turns_theirs c (Hears k e ∷ turns) t now f = (one_theirs c k e t f.0 f.1 f.2, turns_theirs c turns f.0 now f.3)

pub reported_more : (xs ys : List Turn) → reported_in (xs ++ ys) ≡ reported_in xs ++ reported_in ys
reported_more [] ys = refl
reported_more (Asks a ∷ xs) ys = reported_more xs ys
reported_more (Hears k e ∷ xs) ys = ap (λ (es : List Event). e ∷ es) (reported_more xs ys)

all_theirs : (ls : List Lending) (t now : Talk) → Lends t ls now → EachHearsOwn ls (reported_in (told_run ls))
all_theirs [] t now h = refl
all_theirs (l ∷ ls) t now h =
    (reported_in (told_by l.client l.turns), reported_in (told_run ls), reported_more (told_by l.client l.turns) (told_run ls), turns_theirs l.client l.turns t h.1 h.2, all_theirs ls h.1 now h.3)

-- ---- and one lending more

same_last : (c : ℕ) (turns : List Turn) → SameTurns (turns_by c turns ++ []) (turns_by c turns)
same_last c [] = NoTurns
same_last c (Asks a ∷ turns) = SameAsks (asked_by c a) (same_last c turns)
same_last c (Hears k e ∷ turns) = SameHears k e e (same_last c turns)

same_more : (ls : List Lending) (last : Lending) → SameTurns (run_by_client (ls ++ last ∷ [])) (told_run ls ++ turns_by last.client last.turns)
same_more [] last = same_last last.client last.turns
same_more (l ∷ ls) last =
    let more = turns_by last.client last.turns in
    subst (λ (ys : List Turn). SameTurns (turns_by l.client l.turns ++ run_by_client (ls ++ last ∷ [])) ys) (sym (append_assoc (told_by l.client l.turns) (told_run ls) more))
    (same_one l.client l.turns (run_by_client (ls ++ last ∷ [])) (told_run ls ++ more) (same_more ls last))

hears_more : (ls : List Lending) (last : Lending) (es rest : List Event) → EachHearsOwn ls es → AreTheirs last.client last.turns rest → EachHearsOwn (ls ++ last ∷ []) (es ++ rest)
hears_more [] last es rest none theirs = (rest, [], ap (λ (xs : List Event). xs ++ rest) none ∙ sym (append-nil rest), theirs, refl)
hears_more (l ∷ ls) last es rest own theirs =
    (own.0, own.1 ++ rest, ap (λ (xs : List Event). xs ++ rest) own.2 ∙ append_assoc own.0 own.1 rest, own.3, hears_more ls last own.1 rest own.4 theirs)

pub hears_own : (ls : List Lending) (now : Talk) (last : Lending) (truth : List Event) → Lends start ls now → is_idle now ≡ true → BelongInTurns (run_by_client (ls ++ last ∷ [])) truth
    → EachHearsOwn (ls ++ last ∷ []) truth
hears_own ls now last truth h idle b =
    let f = named_from ls start start now (λ i. i) h in
    let left = stands_behind (told_run ls) (turns_by last.client last.turns) f.0 truth f.1 (f.2 idle) (same_belong (same_more ls last) b) in
    subst (λ (es : List Event). EachHearsOwn (ls ++ last ∷ []) es) (sym left.1)
    (hears_more ls last (reported_in (told_run ls)) left.0 (all_theirs ls start now h) (belong_to_one last.client last.turns left.0 left.2))

pub is_read : ((turns : List Turn) → Follows start turns → BelongInTurns turns (reported_in turns)) → (ls : List Lending) (now : Talk) → Lends start ls now
    → (truth : List Event) × BelongInTurns (run_by_client ls) truth
is_read belong ls now h =
    let f = named_from ls start start now (λ i. i) h in
    (reported_in (told_run ls), same_belong (same_back (same_run ls)) (belong (told_run ls) (follows_so (told_run ls) start f.0 f.1)))
