-- What each call makes of what went before.
use Rattle.std.proofs.Common.{◌≡◌, ℕ, ◌+◌, Bool, true, false, List, [], ◌∷◌, ◌++◌, length, take, drop, Option, Some, None, Result, Ok, Err, refl, sym, ap, subst, ◌∙◌, append_assoc, append-nil, length-append, take-append-drop}
use Rattle.pgp_session.proofs.Common.{Kind, Event, Request, taken, Stop, Talk, Part, Last, Aside, Ended, is_end}
use Rattle.pgp_session.specs.Answered.{Answered, IsFront, Nothing, Spells, Declined, OneMore}
use Rattle.pgp_session.specs.Monitor.{Begins, begun, Declines, Goes, IsStopped, Notes, Passes, Ran, Runs, Asks, Says, Shown, Stopped, EndsThere, Went, after_note, after_pass, noted}
use Rattle.pgp_session.specs.declared.monitor.Passed.{Passed}
use Rattle.pgp_session.specs.declared.monitor.Stop.TheVariants.{Misplaced, NoMessage, OutOfMemory}
use Rattle.pgp_session.proofs.MonitorBelongs.{belongs}

ran : (over : Bool) (t : Talk) (rs : List Request) (ks : List Kind) (es : List Event) → Goes over t rs ks es → Ran rs ks es
ran false t rs ks es runs = Stopped runs
ran true t rs ks es has = has

pub sent_belongs : (rs : List Request) (ks : List Kind) (es : List Event) (gone : List ℕ) (m : Shown) → Went rs ks es gone m → Answered rs ks es m.is_over (gone ++ m.out)
sent_belongs rs ks es gone m w = record { belong = belongs (ran m.is_over m.talk rs ks es w.goes); cut_off = w.cut_off; whole = w.whole; spelled = w.spelled }

-- ---- what is to be sent was handed on

pub hands_on : (rs : List Request) (ks : List Kind) (es : List Event) (gone : List ℕ) (m new : Shown)
    → new ≡ record { talk = m.talk; names = m.names; is_fresh = m.is_fresh; is_over = m.is_over; out = [] } → Went rs ks es gone m → Went rs ks es (gone ++ m.out) new
hands_on rs ks es gone m new is w = subst (λ (x : Shown). Went rs ks es (gone ++ m.out) x) (sym is) (record {
  goes = w.goes;
  names = w.names;
  fresh = w.fresh;
  cut_off = w.cut_off;
  whole = w.whole;
  spelled = subst (λ (l : List ℕ). Spells ks (l ++ w.cut_off)) (sym (append-nil (gone ++ m.out))) w.spelled;
})

-- ---- the end

pub ends : (rs : List Request) (ks : List Kind) (es : List Event) (gone : List ℕ) (kept : ℕ) (m new : Shown)
    → new ≡ record { talk = m.talk; names = m.names; is_fresh = m.is_fresh; is_over = true; out = take kept m.out } → Went rs ks es gone m → Went rs ks es gone new
ends rs ks es gone kept m new is w =
    let parts : (gone ++ take kept m.out) ++ (drop kept m.out ++ w.cut_off) ≡ (gone ++ m.out) ++ w.cut_off =
    append_assoc gone (take kept m.out) (drop kept m.out ++ w.cut_off)
    ∙ ap (λ (l : List ℕ). gone ++ l) (sym (append_assoc (take kept m.out) (drop kept m.out) w.cut_off) ∙ ap (λ (l : List ℕ). l ++ w.cut_off) (take-append-drop kept m.out))
    ∙ sym (append_assoc gone m.out w.cut_off) in
    subst (λ (x : Shown). Went rs ks es gone x) (sym is) (record {
      goes = ran m.is_over m.talk rs ks es w.goes;
      names = w.names;
      fresh = w.fresh;
      cut_off = drop kept m.out ++ w.cut_off;
      whole = λ h. cc;
      spelled = subst (Spells ks) (sym parts) w.spelled;
    })

-- nothing is let through from here on
pub stops : (rs : List Request) (ks : List Kind) (es : List Event) (gone : List ℕ) (m new : Shown) → IsStopped m new → Went rs ks es gone m → Went rs ks es gone new
stops rs ks es gone m new is w = subst (λ (x : Shown). Went rs ks es gone x) (sym is) (record {
  goes = ran m.is_over m.talk rs ks es w.goes;
  names = w.names;
  fresh = w.fresh;
  cut_off = w.cut_off;
  whole = λ h. cc;
  spelled = w.spelled;
})

-- ---- a question for encryption

declined : (ks : List Kind) (bytes : List ℕ) → ks ≡ [] → Spells ks bytes → Spells ks (bytes ++ 0x4e ∷ [])
declined ks bytes none spelled = subst (λ (l : List Kind). Spells l (bytes ++ 0x4e ∷ [])) (sym none) (Declined (subst (λ (l : List Kind). Spells l bytes) none spelled))

nothing_cut : (ks : List Kind) (bytes off : List ℕ) → off ≡ [] → Spells ks (bytes ++ off) → Spells ks bytes
nothing_cut ks bytes off none spelled = subst (Spells ks) (append-nil bytes) (subst (λ (l : List ℕ). Spells ks (bytes ++ l)) none spelled)

as_cut : (ks : List Kind) (gone out more : List ℕ) → Spells ks ((gone ++ out) ++ more) → Spells ks ((gone ++ (out ++ more)) ++ [])
as_cut ks gone out more spelled = subst (Spells ks) (append_assoc gone out more ∙ sym (append-nil (gone ++ (out ++ more)))) spelled

pub declines : (lacks : Type 0) (rs : List Request) (ks : List Kind) (es : List Event) (gone : List ℕ) (m new : Shown) (result : Result (Unit {0}) Stop)
    → Declines lacks m new result → Went rs ks es gone m → Went rs ks es gone new
declines lacks rs ks es gone m new (Ok done) d w = subst (λ (x : Shown). Went rs ks es gone x) (sym d.2) (record {
  goes = w.goes;
  names = w.names;
  fresh = w.fresh;
  cut_off = [];
  whole = λ h. refl;
  spelled = as_cut ks gone m.out (0x4e ∷ []) (declined ks (gone ++ m.out) (w.fresh d.0) (nothing_cut ks (gone ++ m.out) w.cut_off (w.whole d.1) w.spelled));
})
declines lacks rs ks es gone m new (Err Misplaced) d w = subst (λ (x : Shown). Went rs ks es gone x) (sym d.1) w
declines lacks rs ks es gone m new (Err OutOfMemory) d w = subst (λ (x : Shown). Went rs ks es gone x) (sym d.1) w
declines lacks rs ks es gone m new (Err NoMessage) d w = absurd d

-- ---- a request

runs_on : (over : Bool) (t : Talk) (rs : List Request) (ks : List Kind) (es : List Event) → over ≡ false → Goes over t rs ks es → Runs rs ks es t
runs_on false t rs ks es live runs = runs
runs_on true t rs ks es live has = cc

goes_on : (over : Bool) (t : Talk) (rs : List Request) (ks : List Kind) (es : List Event) → over ≡ false → Runs rs ks es t → Goes over t rs ks es
goes_on false t rs ks es live runs = runs
goes_on true t rs ks es live runs = Stopped runs

one_longer : (rs : List Request) (r : Request) → length rs + 1 ≡ length (rs ++ r ∷ [])
one_longer rs r = sym (length-append rs (r ∷ []))

pub notes : {E : Type 0} (lacks : Type 0) (r : Request) (rs : List Request) (ks : List Kind) (es : List Event) (gone : List ℕ) (m new : Shown) (result : Result (Option ℕ) E)
    → Notes lacks r m new result → Went rs ks es gone m → Went (after_note result r rs) ks es gone new
notes lacks r rs ks es gone m new (Ok None) n w = subst (λ (x : Shown). Went rs ks es gone x) (sym n.1) w
notes lacks r rs ks es gone m new (Err e) n w = subst (λ (x : Shown). Went rs ks es gone x) (sym n.1) w
notes lacks r rs ks es gone m new (Ok (Some name)) n w =
    let runs : Runs rs ks es m.talk = runs_on m.is_over m.talk rs ks es n.0 w.goes in
    let talk_at : ℕ → Talk = λ (p : ℕ). (noted r (record { talk = m.talk; names = p; is_fresh = m.is_fresh; is_over = m.is_over; out = m.out })).talk in
    let here : Runs (rs ++ r ∷ []) ks es (talk_at m.names) = subst (λ (p : ℕ). Runs (rs ++ r ∷ []) ks es (talk_at p)) (sym w.names) (Asks r runs) in
    subst (λ (x : Shown). Went (rs ++ r ∷ []) ks es gone x) (sym n.2) (record {
      goes = goes_on m.is_over (talk_at m.names) (rs ++ r ∷ []) ks es n.0 here;
      names = ap (λ (p : ℕ). p + 1) w.names ∙ one_longer rs r;
      fresh = λ h. cc;
      cut_off = w.cut_off;
      whole = w.whole;
      spelled = w.spelled;
    })

-- ---- a message

says : (rs : List Request) (ks : List Kind) (es : List Event) (t next : Talk) (k : Kind) (e : Event) → Runs rs ks es t → taken t k ≡ Ok (e, next)
    → Goes (is_end e) next rs (ks ++ k ∷ []) (es ++ e ∷ [])
says rs ks es t next k Ended runs is = EndsThere k next runs is
says rs ks es t next k (Part n) runs is = Says k (Part n) next runs is (λ h. cc)
says rs ks es t next k (Last n) runs is = Says k (Last n) next runs is (λ h. cc)
says rs ks es t next k Aside runs is = Says k Aside next runs is (λ h. cc)

spells_on : (ks : List Kind) (bytes before : List ℕ) (k : Kind) (len : ℕ) → (f : IsFront bytes k len) → Spells ks before → Spells (ks ++ k ∷ []) (before ++ f.frame)
spells_on ks bytes before k len f spelled =
    OneMore f.frame k f.is spelled

pub passes : (lacks : Type 0) (bytes : List ℕ) (rs : List Request) (ks : List Kind) (es : List Event) (gone : List ℕ) (m new : Shown) (result : Result Passed Stop)
    → Passes lacks bytes m new result → Went rs ks es gone m → after_pass result rs ks es gone new
passes lacks bytes rs ks es gone m new (Ok p) h w = (
  h.kind,
  subst (λ (x : Shown). Went rs (ks ++ h.kind ∷ []) (es ++ p.event ∷ []) gone x) (sym h.is) (record {
    goes = says rs ks es m.talk new.talk h.kind p.event (runs_on m.is_over m.talk rs ks es h.goes_on w.goes) h.taken;
    names = w.names;
    fresh = λ x. cc;
    cut_off = [];
    whole = λ x. refl;
    spelled = as_cut (ks ++ h.kind ∷ []) gone m.out h.front.frame
        (spells_on ks bytes (gone ++ m.out) h.kind p.len h.front (nothing_cut ks (gone ++ m.out) w.cut_off (w.whole h.goes_on) w.spelled));
  }),
)
passes lacks bytes rs ks es gone m new (Err Misplaced) h w = stops rs ks es gone m new h.1 w
passes lacks bytes rs ks es gone m new (Err NoMessage) h w = stops rs ks es gone m new h.1 w
passes lacks bytes rs ks es gone m new (Err OutOfMemory) h w = stops rs ks es gone m new h.1 w

-- ---- the beginning

pub begins : (m : Shown) → m ≡ begun → Went [] [] [] [] m
begins m is = subst (λ (x : Shown). Went [] [] [] [] x) (sym is) (record { goes = Begins; names = refl; fresh = λ h. refl; cut_off = []; whole = λ h. refl; spelled = Nothing })
