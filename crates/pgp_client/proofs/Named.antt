-- What requests are called changes nothing but what is reported of them.
use Rattle.pgp_client.proofs.PoolCommon.{◌≡◌, ◌≢◌, ◌∙◌, ℕ, Bool, true, false, List, [], ◌∷◌, ◌++◌, Option, Some, None, Result, Ok, Err, ap, map, refl, subst, if◌then◌else◌, asked, awaits_none, begun, behind_copy, behind_end, completes, copied, event_of, fails, first_in, follows, goes, idle_at, is_aside, is_idle, is_passed, moved, observed, observed_at, ready, ready_at, starts_with_sync, taken, taken_as, Talk, Turn, Asks, Hears, FollowsTo, Event, Part, Last, Aside, Ended, Refusal, Kind, Asked, Request, Stage, Idle, Skipping, Answering, CopyingIn, TakingCopy, Failed, talk, asked_by}
use Rattle.pgp_client.specs.declared.kind.Kind.TheVariants as kinds
use Rattle.pgp_client.specs.declared.request.Request.TheVariants as requests
use Rattle.std.specs.Prelude.{option_map}

abbrev pub Answer : Type 0
Answer = Result (Event × Talk) Refusal

module _ (c : ℕ) where
  abbrev pub event_by : Event → Event
  event_by (Part n) = Part c
  event_by (Last n) = Last c
  event_by e = e

  abbrev pub all_by : List Asked → List Asked
  all_by ps = map (asked_by c) ps

  abbrev pub talk_by : Talk → Talk
  talk_by t = talk t.stage c (all_by t.pending)

  abbrev pub answer_by : Answer → Answer
  answer_by (Ok x) = Ok (event_by x.0, talk_by x.1)
  answer_by (Err r) = Err r

  -- the same turns, also of what is reported
  abbrev pub told_by : List Turn → List Turn
  told_by [] = []
  told_by (Asks a ∷ turns) = Asks (asked_by c a) ∷ told_by turns
  told_by (Hears k e ∷ turns) = Hears k (event_by e) ∷ told_by turns

  all_by_more : (ps : List Asked) (a : Asked) → all_by (ps ++ a ∷ []) ≡ all_by ps ++ asked_by c a ∷ []
  all_by_more [] a = refl
  all_by_more (p ∷ ps) a = ap (λ (qs : List Asked). asked_by c p ∷ qs) (all_by_more ps a)

  asked_so : (t : Talk) (a : Asked) → talk_by (asked t a) ≡ asked (talk_by t) (asked_by c a)
  asked_so t a = ap (talk t.stage c) (all_by_more t.pending a)

  first_by : (b : Bool) (ps : List Asked) → first_in b (all_by ps) ≡ all_by (first_in b ps)
  first_by b [] = refl
  first_by b (a ∷ ps) = go (is_passed b a.request) (first_by b ps)
    where
      go : (v : Bool) → first_in b (all_by ps) ≡ all_by (first_in b ps)
          → (if v then first_in b (all_by ps) else asked_by c a ∷ all_by ps) ≡ all_by (if v then first_in b ps else a ∷ ps)
      go true e = e
      go false e = refl

  begun_by : (s : Stage) (n : ℕ) (qs : List Asked) → begun s c (all_by qs) ≡ talk_by (begun s n qs)
  begun_by s n [] = refl
  begun_by s n (a ∷ qs) = refl

  ready_by_at : (s : Stage) (t : Talk) → ready_at s (talk_by t) ≡ talk_by (ready_at s t)
  ready_by_at Idle t = ap (λ (qs : List Asked). begun Idle c qs) (first_by false t.pending) ∙ begun_by Idle t.name (first_in false t.pending)
  ready_by_at Skipping t = ap (λ (qs : List Asked). begun Skipping c qs) (first_by true t.pending) ∙ begun_by Skipping t.name (first_in true t.pending)
  ready_by_at s t = refl

  event_so : (s : Stage) (n : ℕ) → event_of s c ≡ event_by (event_of s n)
  event_so Idle n = refl
  event_so s n = refl

  went : (s : Stage) (n : ℕ) (ps : List Asked) → (let y : Answer = Ok (event_of s c, talk s c (all_by ps)) in y) ≡ answer_by (Ok (event_of s n, talk s n ps))
  went s n ps = ap (λ (e : Event). let y : Answer = Ok (e, talk s c (all_by ps)) in y) (event_so s n)

  goes_by : (o : Option Stage) (n : ℕ) (ps : List Asked) → moved c (goes o (all_by ps)) ≡ answer_by (moved n (goes o ps))
  goes_by None n ps = refl
  goes_by (Some s) n ps = went s n ps

  behind_end_by : (r : Request) (o : Option (List Asked)) (rest : List Asked) → behind_end r (option_map all_by o) (all_by rest) ≡ option_map all_by (behind_end r o rest)
  behind_end_by requests.Sync o rest = refl
  behind_end_by requests.CopyDone o rest = refl
  behind_end_by r o rest = refl

  behind_by : (ps : List Asked) → behind_copy (all_by ps) ≡ option_map all_by (behind_copy ps)
  behind_by [] = refl
  behind_by (a ∷ ps) = ap (λ (o : Option (List Asked)). behind_end a.request o (all_by ps)) (behind_by ps) ∙ behind_end_by a.request (behind_copy ps) ps

  completes_by : (s : Stage) (n : ℕ) (o : Option (List Asked)) → moved c (completes s (option_map all_by o)) ≡ answer_by (moved n (completes s o))
  completes_by s n None = refl
  completes_by s n (Some ps) = went s n ps

  fails_by : (s : Stage) (n : ℕ) (b : Bool) (ps : List Asked) → moved c (fails s b (all_by ps)) ≡ answer_by (moved n (fails s b ps))
  fails_by s n true ps = refl
  fails_by s n false ps = went s n ps

  sync_by : (ps : List Asked) → starts_with_sync (all_by ps) ≡ starts_with_sync ps
  sync_by [] = refl
  sync_by (a ∷ ps) = refl

  copied_by : (done after : Stage) (n : ℕ) (ps : List Asked) (k : Kind) → moved c (copied done after (all_by ps) k) ≡ answer_by (moved n (copied done after ps k))
  copied_by done after n ps kinds.CommandComplete = ap (λ (o : Option (List Asked)). moved c (completes done o)) (behind_by ps) ∙ completes_by done n (behind_copy ps)
  copied_by done after n ps kinds.ErrorResponse = ap (λ (b : Bool). moved c (fails after b (all_by ps))) (sync_by ps) ∙ fails_by after n (starts_with_sync ps) ps
  copied_by done after n ps k = refl

  observed_by_at : (s : Stage) (n : ℕ) (ps : List Asked) (k : Kind) → moved c (observed_at s (all_by ps) k) ≡ answer_by (moved n (observed_at s ps k))
  observed_by_at CopyingIn n ps k = copied_by Answering Failed n ps k
  observed_by_at TakingCopy n ps k = copied_by Idle Skipping n ps k
  observed_by_at s n ps k = goes_by (follows s k) n ps

  observed_by : (t : Talk) (k : Kind) → observed (talk_by t) k ≡ answer_by (observed t k)
  observed_by t k = observed_by_at t.stage t.name t.pending k

  taken_by_as : (b : Bool) (t : Talk) (k : Kind) → taken_as b (talk_by t) k ≡ answer_by (taken_as b t k)
  taken_by_as true t k = refl
  taken_by_as false t k = ap (λ (u : Talk). observed u k) (ready_by_at t.stage t) ∙ observed_by (ready t) k

  pub taken_by : (t : Talk) (k : Kind) → taken (talk_by t) k ≡ answer_by (taken t k)
  taken_by t k = taken_by_as (is_aside k) t k

  live_by : (e : Event) → e ≢ Ended → event_by e ≢ Ended
  live_by (Part n) live = λ h. cc
  live_by (Last n) live = λ h. cc
  live_by Aside live = λ h. cc
  live_by Ended live = live

  pub followed_by : (turns : List Turn) (t now : Talk) → FollowsTo t turns now → FollowsTo (talk_by t) (told_by turns) (talk_by now)
  followed_by [] t now f = ap talk_by f
  followed_by (Asks a ∷ turns) t now f = subst (λ (u : Talk). FollowsTo u (told_by turns) (talk_by now)) (asked_so t a) (followed_by turns (asked t a) now f)
  followed_by (Hears k e ∷ turns) t now f = (talk_by f.0, taken_by t k ∙ ap answer_by f.1, live_by e f.2, followed_by turns f.0 now f.3)

  awaits_by : (ps : List Asked) → awaits_none (all_by ps) ≡ awaits_none ps
  awaits_by [] = refl
  awaits_by (a ∷ ps) = ap (λ (b : Bool). if is_passed false a.request then b else false) (awaits_by ps)

  idle_by_at : (s : Stage) (ps : List Asked) → idle_at s (all_by ps) ≡ idle_at s ps
  idle_by_at Idle ps = awaits_by ps
  idle_by_at s ps = refl

  pub idle_by : (t : Talk) → is_idle t ≡ true → is_idle (talk_by t) ≡ true
  idle_by t h = idle_by_at t.stage t.pending ∙ h
