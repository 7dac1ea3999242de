-- What a server sends in turns is taken where it is heard, or it isn't certain.
use Rattle.pgp_client.proofs.Common.{◌≡◌, ℕ, Bool, true, false, List, [], ◌∷◌, ◌++◌, Option, Some, None, Ok, Err, ◌∙◌, ◌⊎◌, inl, inr, ap, refl, sym, subst, length, AmongTurns, NoTurnLeft, OneAsked, OneAnswer, OneElse, BelongInTurns, Talk, asked, behind_copy, completes, copied, fails, is_aside, is_copying, moved, observed, ready, starts_with_sync, taken, taken_as, FollowsTo, Turn, Asks, Hears, asked_all, asked_in, reported_in, start, Event, Aside, Uncertain, Kind, Asked, Stage, Idle, Skipping, Answering, CopyingIn, TakingCopy, Failed}
use Rattle.pgp_client.specs.declared.kind.Kind.TheVariants as kinds
use Rattle.pgp_client.proofs.Copying.{certain_outside, ready_outside}
use Rattle.pgp_client.proofs.Early.{at_once, taken_by, Answer}
use Rattle.pgp_client.proofs.Served.{TellsBy, aside_is, ok_parts, served, talk}
use Rattle.pgp_client.proofs.Timely.{asked_so, taken_more}
use Rattle.pgp_client.specs.Taking.{copying_at}

-- the dialogue takes the message so, or isn't certain
abbrev pub Told : Talk → Kind → Event → Type 0
Told now k e = ((next : Talk) × (taken now k ≡ Ok (e, next))) ⊎ (taken now k ≡ Err Uncertain)

event_at : List Event → Event → Event
event_at [] d = d
event_at (e ∷ es) d = e

events_behind : List Event → List Event
events_behind [] = []
events_behind (e ∷ es) = es

turns_behind : List Turn → List Turn
turns_behind [] = []
turns_behind (t ∷ ts) = ts

kind_in : List Turn → Kind → Kind
kind_in (Hears k e ∷ ts) d = k
kind_in ts d = d

asked_first : List Turn → Asked → Asked
asked_first (Asks a ∷ ts) d = a
asked_first ts d = d

module _ (k : Kind) (e : Event) where
  abbrev Turns : List Turn → List Turn
  Turns turns = turns ++ Hears k e ∷ []

  abbrev Truth : List Turn → List Event
  Truth turns = reported_in turns ++ e ∷ []

  at_end : (later : ℕ → ℕ) (ks : List Kind) (es : List Event) (l : ℕ) (d : Event) (t : Talk) → l ≡ 0
      → ((next : Talk) × (taken_by l t k ≡ Ok (d, next)) × TellsBy later next ks es) ⊎ (taken_by l t k ≡ Err Uncertain) → d ≡ e → Told t k e
  at_end later ks es l d t none (inl w) same =
      let at : taken t k ≡ Ok (d, w.0) = sym (at_once t k) ∙ ap (λ (n : ℕ). taken_by n t k) (sym none) ∙ w.1 in
      inl (w.0, at ∙ ap (λ (x : Event). let y : Answer = Ok (x, w.0) in y) same)
  at_end later ks es l d t none (inr w) same = inr (sym (at_once t k) ∙ ap (λ (n : ℕ). taken_by n t k) (sym none) ∙ w)

  told_so : {later : ℕ → ℕ} {ks : List Kind} {es truth : List Event} {all : List Turn} → AmongTurns later ks es all truth → (turns : List Turn) (t now : Talk)
      → all ≡ Turns turns → truth ≡ Truth turns → FollowsTo t turns now → TellsBy later (asked_all t (asked_in all)) ks es → Told now k e
  unfolding asked_first turns_behind kind_in event_at events_behind
  told_so NoTurnLeft [] t now at true_at f w = cc
  told_so NoTurnLeft (Asks a ∷ turns) t now at true_at f w = cc
  told_so NoTurnLeft (Hears j d ∷ turns) t now at true_at f w = cc
  told_so (OneAsked b m) [] t now at true_at f w = cc
  told_so {later = later} {ks = ks} {es = es} (OneAsked {turns = rest} b m) (Asks a ∷ turns) t now at true_at f w =
      let same : b ≡ a = ap (λ (ts : List Turn). asked_first ts b) at in
      let behind : rest ≡ Turns turns = ap turns_behind at in
      told_so m turns (asked t a) now behind true_at f (subst (λ (x : Asked). TellsBy later (asked_all (asked t x) (asked_in rest)) ks es) same w)
  told_so (OneAsked b m) (Hears j d ∷ turns) t now at true_at f w = cc
  told_so {later = later} (OneAnswer {ks = ks} {es = es} {turns = rest} j d told tie m) [] t now at true_at f w =
      let kind_is : j ≡ k = ap (λ (ts : List Turn). kind_in ts j) at in
      let none : rest ≡ [] = ap turns_behind at in
      let is : d ≡ e = ap (λ (xs : List Event). event_at xs d) true_at in
      let l : later (length ks) ≡ 0 = tie ∙ ap (λ (ts : List Turn). length (asked_in ts)) none in
      let here : ((next : Talk) × (taken_by (later (length ks)) t j ≡ Ok (d, next)) × TellsBy later next ks es) ⊎ (taken_by (later (length ks)) t j ≡ Err Uncertain) =
      subst (λ (ts : List Turn). ((next : Talk) × (taken_by (later (length ks)) (asked_all t (asked_in ts)) j ≡ Ok (d, next)) × TellsBy later next ks es) ⊎ (taken_by (later (length ks)) (asked_all t (asked_in ts)) j ≡ Err Uncertain)) none w in
      let of_k : ((next : Talk) × (taken_by (later (length ks)) t k ≡ Ok (d, next)) × TellsBy later next ks es) ⊎ (taken_by (later (length ks)) t k ≡ Err Uncertain) =
      subst (λ (i : Kind). ((next : Talk) × (taken_by (later (length ks)) t i ≡ Ok (d, next)) × TellsBy later next ks es) ⊎ (taken_by (later (length ks)) t i ≡ Err Uncertain)) kind_is here in
      subst (λ (u : Talk). Told u k e) f (at_end later ks es (later (length ks)) d t l of_k is)
  told_so (OneAnswer j d told tie m) (Asks a ∷ turns) t now at true_at f w = cc
  told_so {later = later} (OneAnswer {ks = ks} {es = es} {turns = rest} j d told tie m) (Hears i c ∷ turns) t now at true_at f w =
      let kind_is : i ≡ j = sym (ap (λ (ts : List Turn). kind_in ts j) at) in
      let behind : rest ≡ Turns turns = ap turns_behind at in
      let truth_behind = ap events_behind true_at in
      let took : taken t j ≡ Ok (c, f.0) = subst (λ (x : Kind). taken t x ≡ Ok (c, f.0)) kind_is f.1 in
      let h : taken_by (later (length ks)) (asked_all t (asked_in rest)) j ≡ Ok (c, asked_all f.0 (asked_in rest)) =
      ap (λ (n : ℕ). taken_by n (asked_all t (asked_in rest)) j) tie ∙ taken_more (asked_in rest) t j c f.0 f.2 took in
      elim w [
        | inl x ↦
            let same : (d ≡ c) × (x.0 ≡ asked_all f.0 (asked_in rest)) = ok_parts c d (asked_all f.0 (asked_in rest)) x.0 (taken_by (later (length ks)) (asked_all t (asked_in rest)) j) h x.1 in
            told_so m turns f.0 now behind truth_behind f.3 (subst (λ (u : Talk). TellsBy later u ks es) same.1 x.2)
        | inr x ↦ let no : (let y : Answer = Ok (c, asked_all f.0 (asked_in rest)) in y) ≡ Err Uncertain = sym h ∙ x in cc
      ]
  told_so (OneElse j told s m) [] t now at true_at f w =
      let kind_is : j ≡ k = ap (λ (ts : List Turn). kind_in ts j) at in
      let is : Aside ≡ e = ap (λ (xs : List Event). event_at xs Aside) true_at in
      let was : taken t j ≡ Ok (Aside, t) = ap (λ (b : Bool). taken_as b t j) (aside_is s) in
      let here : taken t k ≡ Ok (Aside, t) = subst (λ (x : Kind). taken t x ≡ Ok (Aside, t)) kind_is was in
      subst (λ (u : Talk). Told u k e) f (inl (t, here ∙ ap (λ (x : Event). let y : Answer = Ok (x, t) in y) is))
  told_so (OneElse j told s m) (Asks a ∷ turns) t now at true_at f w = cc
  told_so {later = later} {ks = ks} {es = es} (OneElse {turns = rest} j told s m) (Hears i c ∷ turns) t now at true_at f w =
      let kind_is : i ≡ j = sym (ap (λ (ts : List Turn). kind_in ts j) at) in
      let was : taken t j ≡ Ok (Aside, t) = ap (λ (b : Bool). taken_as b t j) (aside_is s) in
      let took : taken t j ≡ Ok (c, f.0) = subst (λ (x : Kind). taken t x ≡ Ok (c, f.0)) kind_is f.1 in
      let same : (c ≡ Aside) × (f.0 ≡ t) = ok_parts Aside c t f.0 (taken t j) was took in
      told_so m turns t now (ap turns_behind at) (ap events_behind true_at) (subst (λ (u : Talk). FollowsTo u turns now) same.1 f.3) w

pub told_in_turns : (turns : List Turn) (now : Talk) (k : Kind) (e : Event) → FollowsTo start turns now → BelongInTurns (turns ++ Hears k e ∷ []) (reported_in turns ++ e ∷ [])
    → ((next : Talk) × (taken now k ≡ Ok (e, next))) ⊎ (taken now k ≡ Err Uncertain)
told_in_turns turns now k e f b =
    told_so k e b.among turns start now refl refl f (subst (λ (t : Talk). TellsBy b.later t b.sent b.belong) (sym (asked_so Idle 0 [] (asked_in (turns ++ Hears k e ∷ [])))) (served b.later b.serves 0))

-- ---- where it isn't certain

abbrev Doubted : Talk → Kind → Type 0
Doubted t k = (k ≡ kinds.ErrorResponse) × (is_copying t ≡ true) × (starts_with_sync t.pending ≡ true)

module _ (n : ℕ) where
  completes_certain : (s : Stage) (o : Option (List Asked)) → moved n (completes s o) ≡ Err Uncertain → ⊥
  completes_certain s None is = cc
  completes_certain s (Some b) is = cc

  fails_doubted : (s : Stage) (b : Bool) (ps : List Asked) → moved n (fails s b ps) ≡ Err Uncertain → b ≡ true
  fails_doubted s true ps is = refl
  fails_doubted s false ps is = cc

  copied_doubted : (done after : Stage) (ps : List Asked) (k : Kind) → moved n (copied done after ps k) ≡ Err Uncertain → (k ≡ kinds.ErrorResponse) × (starts_with_sync ps ≡ true)
  copied_doubted done after ps kinds.CommandComplete is = absurd (completes_certain done (behind_copy ps) is)
  copied_doubted done after ps kinds.ErrorResponse is = (refl, fails_doubted after (starts_with_sync ps) ps is)
  copied_doubted done after ps k is = cc

outside : (s : Stage) (n : ℕ) (rs : List Asked) (k : Kind) → copying_at s ≡ false → observed (ready (talk s n rs)) k ≡ Err Uncertain → ⊥
outside s n rs k h is = let u = ready (talk s n rs) in certain_outside u.stage u.name u.pending k (ready_outside s n rs h) is

at_doubted : (s : Stage) (n : ℕ) (rs : List Asked) (k : Kind) → observed (ready (talk s n rs)) k ≡ Err Uncertain → Doubted (talk s n rs) k
at_doubted CopyingIn n rs k is = let d = copied_doubted n Answering Failed rs k is in (d.0, refl, d.1)
at_doubted TakingCopy n rs k is = let d = copied_doubted n Idle Skipping rs k is in (d.0, refl, d.1)
at_doubted s n rs k is = absurd (outside s n rs k refl is)

as_doubted : (b : Bool) (t : Talk) (k : Kind) → taken_as b t k ≡ Err Uncertain → Doubted t k
as_doubted true t k is = let no : (let y : Answer = Ok (Aside, t) in y) ≡ Err Uncertain = is in cc
as_doubted false t k is = at_doubted t.stage t.name t.pending k is

pub doubted_so : (t : Talk) (k : Kind) → taken t k ≡ Err Uncertain → (k ≡ kinds.ErrorResponse) × (is_copying t ≡ true) × (starts_with_sync t.pending ≡ true)
doubted_so t k is = as_doubted (is_aside k) t k is
