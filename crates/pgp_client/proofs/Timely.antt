-- What is taken in turns is what belongs there, in one way.
use Rattle.pgp_client.proofs.Common.{◌≡◌, ◌≢◌, ◌≤◌, ◌<◌, ◌==◌, ℕ, Bool, true, false, List, [], ◌∷◌, ◌++◌, Option, Some, None, Ok, Err, ◌∙◌, ◌⊎◌, inl, inr, ap, ap₂, append_assoc, append-nil, arith, refl, sym, subst, length, nat_le, leb-true, if◌then◌else◌, eqb-true, eq-eqb, AmongTurns, NoTurnLeft, OneAsked, OneAnswer, OneElse, BelongInTurns, Talk, asked, begins, begun, behind_copy, behind_end, completes, copied, event_of, fails, first_in, follows, goes, observed, is_aside, is_passed, is_sync, moved, ready, starts_with_sync, taken, taken_as, Follows, Turn, Asks, Hears, asked_all, asked_in, reported_in, start, Event, Aside, Ended, Uncertain, Kind, Asked, Request, Stage, Idle, Skipping, Answering, CopyingIn, TakingCopy, Failed}
use Rattle.pgp_client.specs.declared.kind.Kind.TheVariants as kinds
use Rattle.pgp_client.specs.declared.request.Request.TheVariants as requests
use Rattle.pgp_client.proofs.Early.{early, copied_by, heard_by, taken_by, taken_by_as, Answer}
use Rattle.pgp_client.proofs.Served.{TellsBy, aside_is, ok_parts, served, talk}
use Rattle.pgp_client.proofs.Later.{idle_ends}
use Rattle.pgp_client.proofs.Exact.{Run, Stops, AsksOne, HearsOne, exact, stands}

-- ---- what was taken before some were asked is taken where it is known that they were asked after it

module _ (more : List Asked) where
  pub first_more : (b : Bool) (ps : List Asked) → (first_in b ps ≡ [])
      ⊎ ((x : Asked) × (rest : List Asked) × (first_in b ps ≡ x ∷ rest) × (first_in b (ps ++ more) ≡ x ∷ (rest ++ more)))
  first_more b [] = inl refl
  first_more b (p ∷ ps) =
      let by_test : (v : Bool) → is_passed b p.request ≡ v → (first_in b (p ∷ ps) ≡ [])
      ⊎ ((x : Asked) × (rest : List Asked) × (first_in b (p ∷ ps) ≡ x ∷ rest) × (first_in b ((p ∷ ps) ++ more) ≡ x ∷ (rest ++ more))) =
      λ v. elim v as (λ w. is_passed b p.request ≡ w → (first_in b (p ∷ ps) ≡ [])
      ⊎ ((x : Asked) × (rest : List Asked) × (first_in b (p ∷ ps) ≡ x ∷ rest) × (first_in b ((p ∷ ps) ++ more) ≡ x ∷ (rest ++ more)))) [
        | true ↦ λ holds.
            let short : first_in b (p ∷ ps) ≡ first_in b ps = ap (λ (w : Bool). if w then first_in b ps else p ∷ ps) holds in
            let long : first_in b ((p ∷ ps) ++ more) ≡ first_in b (ps ++ more) = ap (λ (w : Bool). if w then first_in b (ps ++ more) else p ∷ (ps ++ more)) holds in
            elim (first_more b ps) [
              | inl h ↦ inl (short ∙ h)
              | inr h ↦ inr (h.0, h.1, short ∙ h.2, long ∙ h.3)
            ]
        | false ↦ λ other. inr (p, ps, ap (λ (w : Bool). if w then first_in b ps else p ∷ ps) other, ap (λ (w : Bool). if w then first_in b (ps ++ more) else p ∷ (ps ++ more)) other)
      ] in
      by_test (is_passed b p.request) refl

  end_more : (r : Request) (o longer : Option (List Asked)) (rest : List Asked) → ((b : List Asked) → o ≡ Some b → longer ≡ Some (b ++ more))
      → (b : List Asked) → behind_end r o rest ≡ Some b → behind_end r longer (rest ++ more) ≡ Some (b ++ more)
  end_more requests.Sync o longer rest h b e = h b e
  end_more requests.CopyDone o longer rest h b e =
      let same : rest ≡ b = cc in
      ap (λ (y : List Asked). let o : Option (List Asked) = Some (y ++ more) in o) same
  end_more r o longer rest h b e = cc

  behind_more : (ps b : List Asked) → behind_copy ps ≡ Some b → behind_copy (ps ++ more) ≡ Some (b ++ more)
  behind_more [] b e = cc
  behind_more (p ∷ ps) b e = end_more p.request (behind_copy ps) (behind_copy (ps ++ more)) ps (behind_more ps) b e

-- none of those that are asked after a message is asked before it
none_early : (more : List Asked) → early (length more) more ≡ false
none_early [] = refl
none_early (a ∷ rest) =
    let by_count : (b : Bool) → nat_le (length (a ∷ rest)) (length rest) ≡ b → early (length (a ∷ rest)) (a ∷ rest) ≡ false = λ b. elim b as (λ v. nat_le (length (a ∷ rest)) (length rest) ≡ v → early (length (a ∷ rest)) (a ∷ rest) ≡ false) [
      | true ↦ λ holds.
          let no : length (a ∷ rest) ≤ length rest = leb-true (length (a ∷ rest)) (length rest) holds in
          absurd (omega (arith, no))
      | false ↦ λ other. ap (λ (v : Bool). if is_sync a.request then v else false) other ∙ none (is_sync a.request)
    ] in
    by_count (nat_le (length (a ∷ rest)) (length rest)) refl where
      none : (b : Bool) → (if b then false else false) ≡ false
      none true = refl
      none false = refl

still_early : (more ps : List Asked) → starts_with_sync ps ≡ false → early (length more) (ps ++ more) ≡ false
still_early more [] h = none_early more
still_early more (p ∷ ps) h = ap (λ (b : Bool). if b then nat_le (length more) (length (ps ++ more)) else false) h

module _ (more : List Asked) (n : ℕ) (e : Event) (next : Talk) where
  abbrev grown : Talk
  grown = talk next.stage next.name (next.pending ++ more)

  shifted : (s : Stage) (ps : List Asked) (x : Answer) → x ≡ Ok (event_of s n, talk s n ps) → x ≡ Ok (e, next) → (let y : Answer = Ok (event_of s n, talk s n (ps ++ more)) in y) ≡ Ok (e, grown)
  shifted s ps x is was =
      let same : (event_of s n ≡ e) × (talk s n ps ≡ next) = ok_parts e (event_of s n) next (talk s n ps) x was is in
      ap₂ (λ (d : Event) (t : Talk). let y : Answer = Ok (d, talk t.stage t.name (t.pending ++ more)) in y) same.0 same.1

  goes_more : (o : Option Stage) (ps : List Asked) → moved n (goes o ps) ≡ Ok (e, next) → moved n (goes o (ps ++ more)) ≡ Ok (e, grown)
  goes_more None ps is = cc
  goes_more (Some s) ps is = shifted s ps (moved n (goes (Some s) ps)) refl is

  completes_more : (s : Stage) (o l : Option (List Asked)) → ((b : List Asked) → o ≡ Some b → l ≡ Some (b ++ more)) → moved n (completes s o) ≡ Ok (e, next) → moved n (completes s l) ≡ Ok (e, grown)
  completes_more s None l h is = cc
  completes_more s (Some b) l h is = ap (λ (o : Option (List Asked)). moved n (completes s o)) (h b refl) ∙ shifted s b (moved n (completes s (Some b))) refl is

  fails_more : (s : Stage) (test known : Bool) (ps : List Asked) → (test ≡ false → known ≡ false) → moved n (fails s test ps) ≡ Ok (e, next) → moved n (fails s known (ps ++ more)) ≡ Ok (e, grown)
  fails_more s true known ps h is = cc
  fails_more s false known ps h is = ap (λ (b : Bool). moved n (fails s b (ps ++ more))) (h refl) ∙ shifted s ps (moved n (fails s false ps)) refl is

  copied_more : (done after : Stage) (ps : List Asked) (k : Kind) → moved n (copied done after ps k) ≡ Ok (e, next) → moved n (copied_by (length more) done after (ps ++ more) k) ≡ Ok (e, grown)
  copied_more done after ps kinds.CommandComplete is = completes_more done (behind_copy ps) (behind_copy (ps ++ more)) (behind_more more ps) is
  copied_more done after ps kinds.ErrorResponse is = fails_more after (starts_with_sync ps) (early (length more) (ps ++ more)) ps (still_early more ps) is
  copied_more done after ps k is = cc

  observed_more : (s : Stage) (ps : List Asked) (k : Kind) → observed (talk s n ps) k ≡ Ok (e, next) → heard_by (length more) (talk s n (ps ++ more)) k ≡ Ok (e, grown)
  observed_more CopyingIn ps k is = copied_more Answering Failed ps k is
  observed_more TakingCopy ps k is = copied_more Idle Skipping ps k is
  observed_more s ps k is = goes_more (follows s k) ps is

module _ (more : List Asked) (n : ℕ) (e : Event) (next : Talk) (k : Kind) where
  begun_more : (s : Stage) (b : Bool) (ps : List Asked) → (observed (begun s n []) k ≡ Ok (e, next) → e ≡ Ended) → e ≢ Ended
      → observed (begun s n (first_in b ps)) k ≡ Ok (e, next) → heard_by (length more) (begun s n (first_in b (ps ++ more))) k ≡ Ok (e, grown more n e next)
  begun_more s b ps ends live is = elim (first_more more b ps) [
    | inl h ↦ absurd (live (ends (ap (λ (qs : List Asked). observed (begun s n qs) k) (sym h) ∙ is)))
    | inr h ↦
        let under : observed (talk (begins h.0.request) h.0.name h.1) k ≡ Ok (e, next) = ap (λ (qs : List Asked). observed (begun s n qs) k) (sym h.2) ∙ is in
        ap (λ (qs : List Asked). heard_by (length more) (begun s n qs) k) h.3 ∙ observed_more more h.0.name e next (begins h.0.request) h.1 k under
  ]

  ready_more : (s : Stage) (ps : List Asked) → e ≢ Ended → observed (ready (talk s n ps)) k ≡ Ok (e, next) → heard_by (length more) (ready (talk s n (ps ++ more))) k ≡ Ok (e, grown more n e next)
  ready_more Idle ps live is = begun_more Idle false ps (λ h. idle_ends n e next k [] h) live is
  ready_more Skipping ps live is = begun_more Skipping true ps (λ h. idle_ends n e next k [] h) live is
  ready_more s ps live is = observed_more more n e next s ps k is

-- all that was asked is pending
pub asked_so : (s : Stage) (n : ℕ) (ps rs : List Asked) → asked_all (talk s n ps) rs ≡ talk s n (ps ++ rs)
asked_so s n ps [] = ap (talk s n) (sym (append-nil ps))
asked_so s n ps (a ∷ rs) = asked_so s n (ps ++ a ∷ []) rs ∙ ap (talk s n) (append_assoc ps (a ∷ []) rs)

module _ (more : List Asked) (t : Talk) (k : Kind) (e : Event) (next : Talk) where
  grown_more : (b : Bool) → is_aside k ≡ b → e ≢ Ended → taken_as b t k ≡ Ok (e, next) → taken_by_as b (length more) (talk t.stage t.name (t.pending ++ more)) k ≡ Ok (e, grown more t.name e next)
  grown_more true holds live is =
      let same : (Aside ≡ e) × (t ≡ next) = ok_parts e Aside next t (taken_as true t k) is refl in
      ap₂ (λ (d : Event) (u : Talk). let y : Answer = Ok (d, talk u.stage u.name (u.pending ++ more)) in y) same.0 same.1
  grown_more false other live is = ready_more more t.name e next k t.stage t.pending live is

  pub taken_more : e ≢ Ended → taken t k ≡ Ok (e, next) → taken_by (length more) (asked_all t more) k ≡ Ok (e, asked_all next more)
  taken_more live is =
      ap (λ (u : Talk). taken_by (length more) u k) (asked_so t.stage t.name t.pending more) ∙ grown_more (is_aside k) refl live is
      ∙ ap (λ (u : Talk). let y : Answer = Ok (e, u) in y) (sym (asked_so next.stage next.name next.pending more))

-- ---- one way

true_so : {later : ℕ → ℕ} {ks : List Kind} {es truth : List Event} {turns : List Turn} → AmongTurns later ks es turns truth → (t : Talk) → Follows t turns
    → TellsBy later (asked_all t (asked_in turns)) ks es → truth ≡ reported_in turns
true_so NoTurnLeft t f w = refl
true_so (OneAsked a m) t f w = true_so m (asked t a) f w
true_so {later = later} (OneAnswer {ks = ks} {es = es} {turns = turns} k d e tie m) t f (inl w) =
    let h : taken_by (later (length ks)) (asked_all t (asked_in turns)) k ≡ Ok (e, asked_all f.0 (asked_in turns)) =
    ap (λ (l : ℕ). taken_by l (asked_all t (asked_in turns)) k) tie ∙ taken_more (asked_in turns) t k e f.0 f.2 f.1 in
    let same : (d ≡ e) × (w.0 ≡ asked_all f.0 (asked_in turns)) = ok_parts e d (asked_all f.0 (asked_in turns)) w.0 (taken_by (later (length ks)) (asked_all t (asked_in turns)) k) h w.1 in
    let rest : TellsBy later (asked_all f.0 (asked_in turns)) ks es = subst (λ (u : Talk). TellsBy later u ks es) same.1 w.2 in
    ap₂ (λ (x : Event) (y : List Event). x ∷ y) same.0 (true_so m f.0 f.3 rest)
true_so {later = later} (OneAnswer {ks = ks} {es = es} {turns = turns} k d e tie m) t f (inr w) =
    let h : taken_by (later (length ks)) (asked_all t (asked_in turns)) k ≡ Ok (e, asked_all f.0 (asked_in turns)) =
    ap (λ (l : ℕ). taken_by l (asked_all t (asked_in turns)) k) tie ∙ taken_more (asked_in turns) t k e f.0 f.2 f.1 in
    let no : (let y : Answer = Ok (e, asked_all f.0 (asked_in turns)) in y) ≡ Err Uncertain = sym h ∙ w in
    cc
true_so {later = later} (OneElse {ks = ks} {es = es} {turns = turns} k e s m) t f w =
    let was : taken t k ≡ Ok (Aside, t) = ap (λ (b : Bool). taken_as b t k) (aside_is s) in
    let same : (e ≡ Aside) × (f.0 ≡ t) = ok_parts Aside e t f.0 (taken t k) was f.1 in
    ap₂ (λ (x : Event) (y : List Event). x ∷ y) (sym same.0) (true_so m t (subst (λ (u : Talk). Follows u turns) same.1 f.3) w)

pub true_in_turns : (turns : List Turn) (truth : List Event) → Follows start turns → BelongInTurns turns truth → truth ≡ reported_in turns
true_in_turns turns truth f b = true_so b.among start f (subst (λ (t : Talk). TellsBy b.later t b.sent b.belong) (sym (asked_so Idle 0 [] (asked_in turns))) (served b.later b.serves 0))

-- ---- what was taken belongs there

record Stripped (t : Talk) (turns : List Turn) : Type 0 where
  pub later : ℕ → ℕ
  pub sent : List Kind
  pub belong : List Event
  pub run : Run t (asked_in turns) sent belong
  pub among : AmongTurns later sent belong turns (reported_in turns)

-- of what `later` says of more messages nothing matters
among_so : {later other : ℕ → ℕ} {ks : List Kind} {es reported : List Event} {turns : List Turn} → AmongTurns later ks es turns reported
    → ((m : ℕ) → m < length ks → other m ≡ later m) → AmongTurns other ks es turns reported
among_so NoTurnLeft h = NoTurnLeft
among_so (OneAsked a m) h = OneAsked a (among_so m h)
among_so (OneAnswer {ks = ks} k e told tie m) h = OneAnswer k e told (h (length ks) (omega arith) ∙ tie) (among_so m (λ i less. h i (omega (arith, less))))
among_so (OneElse k told s m) h = OneElse k told s (among_so m h)

module _ (place count : ℕ) (later : ℕ → ℕ) where
  abbrev and_at : ℕ → ℕ
  and_at m = if m == place then count else later m

  at_place : and_at place ≡ count
  at_place = ap (λ (b : Bool). if b then count else later place) (eq-eqb place place refl)

  before_place : (m : ℕ) → m < place → and_at m ≡ later m
  before_place m less =
      let by_test : (b : Bool) → (m == place) ≡ b → and_at m ≡ later m = λ b. elim b as (λ v. (m == place) ≡ v → and_at m ≡ later m) [
        | true ↦ λ holds. let same : m ≡ place = eqb-true m place holds in absurd (omega (arith, less, same))
        | false ↦ λ other. ap (λ (b : Bool). if b then count else later m) other
      ] in
      by_test (m == place) refl

one_heard : (k : Kind) (e : Event) (t next : Talk) (turns : List Turn) → taken t k ≡ Ok (e, next) → e ≢ Ended → Stripped next turns → Stripped t (Hears k e ∷ turns)
one_heard k e t next turns is live rest =
    let by_aside : (b : Bool) → is_aside k ≡ b → Stripped t (Hears k e ∷ turns) = λ b. elim b as (λ v. is_aside k ≡ v → Stripped t (Hears k e ∷ turns)) [
      | true ↦ λ holds.
          let was : taken t k ≡ Ok (Aside, t) = ap (λ (b : Bool). taken_as b t k) holds in
          let same : (e ≡ Aside) × (next ≡ t) = ok_parts Aside e t next (taken t k) was is in
          let here : Stripped t turns = subst (λ (u : Talk). Stripped u turns) same.1 rest in
          record {
            later = here.later;
            sent = here.sent;
            belong = here.belong;
            run = here.run;
            among = subst (λ (d : Event). AmongTurns here.later here.sent here.belong (Hears k e ∷ turns) (d ∷ reported_in turns)) (sym same.0) (OneElse k e (stands k holds) here.among);
          }
      | false ↦ λ other. record {
        later = and_at (length rest.sent) (length (asked_in turns)) rest.later;
        sent = k ∷ rest.sent;
        belong = e ∷ rest.belong;
        run = HearsOne k e next (sym (ap (λ (b : Bool). taken_as b t k) other) ∙ is) (λ h. absurd (live h)) rest.run;
        among = OneAnswer k e e (at_place (length rest.sent) (length (asked_in turns)) rest.later)
            (among_so rest.among (before_place (length rest.sent) (length (asked_in turns)) rest.later));
      }
    ] in
    by_aside (is_aside k) refl

stripped_so : (turns : List Turn) (t : Talk) → Follows t turns → Stripped t turns
stripped_so [] t f = record { later = λ m. 0; sent = []; belong = []; run = Stops; among = NoTurnLeft }
stripped_so (Asks a ∷ turns) t f =
    let rest : Stripped (asked t a) turns = stripped_so turns (asked t a) f in
    record { later = rest.later; sent = rest.sent; belong = rest.belong; run = AsksOne a rest.run; among = OneAsked a rest.among }
stripped_so (Hears k e ∷ turns) t f = one_heard k e t f.0 turns f.1 f.2 (stripped_so turns f.0 f.3)

pub sent_in_turns : (turns : List Turn) → Follows start turns → BelongInTurns turns (reported_in turns)
sent_in_turns turns f =
    let s : Stripped start turns = stripped_so turns start f in
    record { later = s.later; sent = s.sent; belong = s.belong; serves = exact s.later s.run; among = s.among }
