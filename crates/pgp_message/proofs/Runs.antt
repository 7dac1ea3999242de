-- Streams: how they grow by a frame, and that they are read in one way.
use Rattle.pgp_message.proofs.Common.{◌≡◌, ℕ, zero, suc, ◌+◌, ◌≤◌, Bool, true, false, List, [], ◌∷◌, ◌++◌, length, get_or, drop, Result, refl, sym, ap, subst, ◌∙◌, arith, append_assoc, inl, inr, flat_map, AllByRecursion, append-nil, length-drop, get_or-drop, cases_lt, flat_map-cons, from_be_bytes-to_be_bytes_4, uint32, IsBytes, Error, Message, Body, IsFront, front_frame, announced, Frame, frame_bytes, IsFrame, IsPartial, IsEnding, IsLengthFault, Bodies, Frames, BackendRun, TakesFrame, body_of}
use Rattle.std.proofs.lemmas.List.{length-append}
use Rattle.std.proofs.lemmas.Grind.{flat_map-append}
use Rattle.pgp_message.proofs.Cuts.{cut, front_of}
use Rattle.pgp_message.proofs.Fronts.{announced_small, partial_is, fault_is, partial_there, fault_there, fault_stays}
use Rattle.pgp_message.proofs.Steps.{takes}
use Rattle.pgp_message.proofs.Bodies.{one_body}

pub frames_none : (bytes : List ℕ) → Frames bytes [] bytes
frames_none bytes = record { frames = []; whole = refl; each = tt; bodies = tt }

pub bodies_push : (frames : List Frame) (results : List (Result Message Error)) (f : Frame) (r : Result Message Error) → Bodies frames results → Body f.tag f.payload r → Bodies (frames ++ f ∷ []) (results ++ r ∷ [])
bodies_push [] [] f r all one = (one, tt)
bodies_push [] (s ∷ results) f r all one = absurd all
bodies_push (g ∷ frames) [] f r all one = absurd all
bodies_push (g ∷ frames) (s ∷ results) f r all one = (all.0, bodies_push frames results f r all.1 one)

pub each_push : (frames : List Frame) (f : Frame) → AllByRecursion IsFrame frames → IsFrame f → AllByRecursion IsFrame (frames ++ f ∷ [])
each_push [] f all one = (one, tt)
each_push (g ∷ frames) f all one = (all.0, each_push frames f all.1 one)

pub pushed : (frames : List Frame) (f : Frame) → flat_map frame_bytes (frames ++ f ∷ []) ≡ flat_map frame_bytes frames ++ frame_bytes f
pushed frames f = flat_map-append frame_bytes frames (f ∷ []) ∙ ap (λ l. flat_map frame_bytes frames ++ l) (flat_map-cons frame_bytes f [] ∙ append-nil (frame_bytes f))

pub frames_next : (bytes old new : List ℕ) (results : List (Result Message Error)) (r : Result Message Error) → Frames bytes results old → TakesFrame old r new → Frames bytes (results ++ r ∷ []) new
frames_next bytes old new results r run one = record {
  frames = run.frames ++ one.first ∷ [];
  whole = run.whole ∙ ap (λ l. flat_map frame_bytes run.frames ++ l) one.whole ∙ sym (append_assoc (flat_map frame_bytes run.frames) (frame_bytes one.first) new) ∙ ap (λ l. l ++ new) (sym (pushed run.frames one.first));
  each = each_push run.frames one.first run.each one.fits;
  bodies = bodies_push run.frames results one.first r run.bodies one.body;
}

append_front : (a b x y : List ℕ) → length a ≡ length b → a ++ x ≡ b ++ y → (a ≡ b) × (x ≡ y)
append_front [] [] x y len e = (refl, e)
append_front [] (d ∷ b) x y len e = absurd (omega arith)
append_front (c ∷ a) [] x y len e = absurd (omega arith)
append_front (c ∷ a) (d ∷ b) x y len e =
    let same : c ≡ d = cc in
    let tails : a ++ x ≡ b ++ y = cc in
    let rest = append_front a b x y (omega arith) tails in
    let both : c ∷ a ≡ d ∷ b = let p = rest.0 in cc in
    (both, rest.1)

abbrev framed : List ℕ → ℕ → Frame
framed q t = record { tag = t; payload = q }

pub same_frame : (f g : Frame) → f.tag ≡ g.tag → f.payload ≡ g.payload → f ≡ g
same_frame f g t p = ap (framed f.payload) t ∙ ap (λ q. framed q g.tag) p

pub announced_frame : (f : Frame) (x : List ℕ) → IsFrame f → announced (frame_bytes f ++ x) ≡ length f.payload + 4
unfolding uint32
announced_frame f x fits = from_be_bytes-to_be_bytes_4 (length f.payload + 4) fits.fits

pub length-frame : (f : Frame) (x : List ℕ) → length (frame_bytes f ++ x) ≡ length f.payload + 5 + length x
unfolding uint32
length-frame f x = omega (arith, length-append f.payload x)

behind_header : (f g : Frame) (x y : List ℕ) → frame_bytes f ++ x ≡ frame_bytes g ++ y → f.payload ++ x ≡ g.payload ++ y
unfolding uint32
behind_header f g x y e = ap (λ l. drop 5 l) e

-- two frames at the front of one list are one
pub front_is_one : (f g : Frame) (x y : List ℕ) → IsFrame f → IsFrame g → frame_bytes f ++ x ≡ frame_bytes g ++ y → (f ≡ g) × (x ≡ y)
front_is_one f g x y ff gg e =
    let tags : f.tag ≡ g.tag = ap (λ l. get_or l 0 0) e in
    let lens : length f.payload + 4 ≡ length g.payload + 4 = sym (announced_frame f x ff) ∙ ap announced e ∙ announced_frame g y gg in
    let tails : f.payload ++ x ≡ g.payload ++ y = behind_header f g x y e in
    let parts = append_front f.payload g.payload x y (omega arith) tails in
    (same_frame f g tags parts.0, parts.1)

-- a frame is no ending
pub no_ending : (f : Frame) (x : List ℕ) (stopped : Bool) → IsFrame f → IsEnding stopped (frame_bytes f ++ x) → ⊥
no_ending f x false fits part =
    let is = announced_frame f x fits in
    elim (partial_is (frame_bytes f ++ x) part) [
      | inl short ↦ omega (arith, length-frame f x, short)
      | inr w ↦ omega (arith, length-frame f x, is, w.0, w.1)
    ]
no_ending f x true fits fault =
    let is = announced_frame f x fits in
    let w = fault_is (frame_bytes f ++ x) fault in
    omega (arith, is, w.0, w.1)

not_both : (rest : List ℕ) → IsPartial rest → IsLengthFault rest → ⊥
not_both rest part fault =
    let w = fault_is rest fault in
    elim (partial_is rest part) [ inl short ↦ omega (arith, short, w.0) | inr v ↦ omega (arith, v.0, w.1) ]

same_ending : (s h : Bool) (rest : List ℕ) → IsEnding s rest → IsEnding h rest → s ≡ h
same_ending false false rest p q = refl
same_ending true true rest p q = refl
same_ending false true rest p q = absurd (not_both rest p q)
same_ending true false rest p q = absurd (not_both rest q p)

regroup : (f : Frame) (frames : List Frame) (x : List ℕ) → flat_map frame_bytes (f ∷ frames) ++ x ≡ frame_bytes f ++ (flat_map frame_bytes frames ++ x)
regroup f frames x = ap (λ l. l ++ x) (flat_map-cons frame_bytes f frames) ∙ append_assoc (frame_bytes f) (flat_map frame_bytes frames) x

same_results : (f g : Frame) (r s : Result Message Error) (rs ss : List (Result Message Error)) → IsFrame f → IsFrame g → f ≡ g → Body f.tag f.payload r → Body g.tag g.payload s → rs ≡ ss → r ∷ rs ≡ s ∷ ss
same_results f g r s rs ss ff gg e p q tails =
    let heads : r ≡ s = sym (one_body f.tag f.payload r ff.payload p) ∙ ap (λ (h : Frame). body_of h.tag h.payload) e ∙ one_body g.tag g.payload s gg.payload q in
    cc

-- two ways to read one list are one
one_way : (frames others : List Frame) (rs ss : List (Result Message Error)) (x y : List ℕ) (s h : Bool)
    → AllByRecursion IsFrame frames → AllByRecursion IsFrame others → Bodies frames rs → Bodies others ss → IsEnding s x → IsEnding h y
    → flat_map frame_bytes frames ++ x ≡ flat_map frame_bytes others ++ y → (rs ≡ ss) × (x ≡ y)
one_way [] [] [] [] x y s h a b p q i j e = (refl, e)
one_way [] [] (r ∷ rs) ss x y s h a b p q i j e = absurd p
one_way [] [] [] (r ∷ ss) x y s h a b p q i j e = absurd q
one_way [] (g ∷ others) rs ss x y s h a b p q i j e = absurd (no_ending g (flat_map frame_bytes others ++ y) s b.0 (subst (IsEnding s) (e ∙ regroup g others y) i))
one_way (f ∷ frames) [] rs ss x y s h a b p q i j e = absurd (no_ending f (flat_map frame_bytes frames ++ x) h a.0 (subst (IsEnding h) (sym e ∙ regroup f frames x) j))
one_way (f ∷ frames) (g ∷ others) [] ss x y s h a b p q i j e = absurd p
one_way (f ∷ frames) (g ∷ others) (r ∷ rs) [] x y s h a b p q i j e = absurd q
one_way (f ∷ frames) (g ∷ others) (r ∷ rs) (t ∷ ss) x y s h a b p q i j e =
    let front = front_is_one f g (flat_map frame_bytes frames ++ x) (flat_map frame_bytes others ++ y) a.0 b.0 (sym (regroup f frames x) ∙ e ∙ regroup g others y) in
    let rest = one_way frames others rs ss x y s h a.1 b.1 p.1 q.1 i j front.1 in
    (same_results f g r t rs ss a.0 b.0 front.0 p.0 q.0 rest.0, rest.1)

pub runs_one : (bytes : List ℕ) (first second : List (Result Message Error)) (stops halts : Bool) (rest left : List ℕ)
    → BackendRun bytes first stops rest → BackendRun bytes second halts left → (first ≡ second) × (stops ≡ halts) × (rest ≡ left)
runs_one bytes first second stops halts rest left p q =
    let both = one_way p.run.frames q.run.frames first second rest left stops halts p.run.each q.run.each p.run.bodies q.run.bodies p.ending q.ending (sym p.run.whole ∙ q.run.whole) in
    (both.0, same_ending stops halts left (subst (IsEnding stops) both.1 p.ending) q.ending, both.1)

-- what was read at the front is read first
front_way : (frames others : List Frame) (rs ss : List (Result Message Error)) (x y : List ℕ) (h : Bool)
    → AllByRecursion IsFrame frames → AllByRecursion IsFrame others → Bodies frames rs → Bodies others ss → IsEnding h y
    → flat_map frame_bytes frames ++ x ≡ flat_map frame_bytes others ++ y → (more : List (Result Message Error)) × (ss ≡ rs ++ more)
front_way [] others [] ss x y h a b p q j e = (ss, refl)
front_way [] others (r ∷ rs) ss x y h a b p q j e = absurd p
front_way (f ∷ frames) [] rs ss x y h a b p q j e = absurd (no_ending f (flat_map frame_bytes frames ++ x) h a.0 (subst (IsEnding h) (sym e ∙ regroup f frames x) j))
front_way (f ∷ frames) (g ∷ others) [] ss x y h a b p q j e = absurd p
front_way (f ∷ frames) (g ∷ others) (r ∷ rs) [] x y h a b p q j e = absurd q
front_way (f ∷ frames) (g ∷ others) (r ∷ rs) (t ∷ ss) x y h a b p q j e =
    let front = front_is_one f g (flat_map frame_bytes frames ++ x) (flat_map frame_bytes others ++ y) a.0 b.0 (sym (regroup f frames x) ∙ e ∙ regroup g others y) in
    let rest = front_way frames others rs ss x y h a.1 b.1 p.1 q.1 j front.1 in
    (rest.0, sym (same_results f g r t (rs ++ rest.0) ss a.0 b.0 front.0 p.0 q.0 (sym rest.1)))

pub runs_front : (bytes more : List ℕ) (first second : List (Result Message Error)) (stops halts : Bool) (rest left : List ℕ)
    → BackendRun bytes first stops rest → BackendRun (bytes ++ more) second halts left → (others : List (Result Message Error)) × (second ≡ first ++ others)
runs_front bytes more first second stops halts rest left p q =
    let joined : flat_map frame_bytes p.run.frames ++ (rest ++ more) ≡ flat_map frame_bytes q.run.frames ++ left = sym (append_assoc (flat_map frame_bytes p.run.frames) rest more) ∙ ap (λ l. l ++ more) (sym p.run.whole) ∙ q.run.whole in
    front_way p.run.frames q.run.frames first second (rest ++ more) left halts p.run.each q.run.each p.run.bodies q.run.bodies q.ending joined

-- some reading of the bytes
abbrev Run : List ℕ → Type 0
Run bytes = (results : List (Result Message Error)) × (stopped : Bool) × (rest : List ℕ) × BackendRun bytes results stopped rest

ends : (bytes : List ℕ) (stopped : Bool) → IsEnding stopped bytes → Run bytes
ends bytes stopped end = ([], stopped, bytes, record { run = frames_none bytes; ending = end })

goes_on : (old new : List ℕ) (r : Result Message Error) → TakesFrame old r new → Run new → Run old
goes_on old new r one rest = (
  r ∷ rest.0,
  rest.1,
  rest.2,
  record {
    run = record {
      frames = one.first ∷ rest.3.run.frames;
      whole = one.whole ∙ ap (λ l. frame_bytes one.first ++ l) rest.3.run.whole ∙ sym (regroup one.first rest.3.run.frames rest.2);
      each = (one.fits, rest.3.run.each);
      bodies = (one.body, rest.3.run.bodies);
    };
    ending = rest.3.ending;
  },
)

run_within : (fuel : ℕ) (bytes : List ℕ) → length bytes ≤ fuel → IsBytes bytes → Run bytes
run_within zero bytes le h = ends bytes false (inl (omega arith))
run_within (suc fuel) bytes le h =
    elim (cases_lt (length bytes) 5) [
      | inl short ↦ ends bytes false (inl short)
      | inr long ↦ elim (cases_lt (announced bytes) 4) [
        | inl fault ↦ ends bytes true (fault_there bytes h long fault)
        | inr fine ↦ elim (cases_lt (length bytes) (announced bytes + 1)) [
          | inl part ↦ ends bytes false (partial_there bytes h fine part)
          | inr whole ↦
              let n = announced bytes in
              let new = drop (n + 1) bytes in
              let front : IsFront (front_of bytes n) bytes = cut bytes n h (announced_small bytes h) refl fine whole in
              let less : length new ≤ fuel = omega (arith, length-drop (n + 1) bytes) in
              goes_on bytes new _ (takes bytes new (front_frame (front_of bytes n) bytes) front.whole front.fits) (run_within fuel new less (λ i. rw get_or-drop (h (n + 1 + i))))
        ]
      ]
    ]

pub runs_some : (bytes : List ℕ) → IsBytes bytes → Run bytes
runs_some bytes h = run_within (length bytes) bytes (omega arith) h

-- ---- streams in pieces

bodies_join : (frames others : List Frame) (rs ss : List (Result Message Error)) → Bodies frames rs → Bodies others ss → Bodies (frames ++ others) (rs ++ ss)
bodies_join [] others [] ss p q = q
bodies_join [] others (r ∷ rs) ss p q = absurd p
bodies_join (f ∷ frames) others [] ss p q = absurd p
bodies_join (f ∷ frames) others (r ∷ rs) ss p q = (p.0, bodies_join frames others rs ss p.1 q)

each_join : (frames others : List Frame) → AllByRecursion IsFrame frames → AllByRecursion IsFrame others → AllByRecursion IsFrame (frames ++ others)
each_join [] others p q = q
each_join (f ∷ frames) others p q = (p.0, each_join frames others p.1 q)

pub runs_join : (bytes more rest left : List ℕ) (first second : List (Result Message Error)) (stops : Bool)
    → BackendRun bytes first false rest → BackendRun (rest ++ more) second stops left → BackendRun (bytes ++ more) (first ++ second) stops left
runs_join bytes more rest left first second stops p q =
    let fs = flat_map frame_bytes p.run.frames in
    let gs = flat_map frame_bytes q.run.frames in
    record {
      run = record {
        frames = p.run.frames ++ q.run.frames;
        whole = ap (λ l. l ++ more) p.run.whole ∙ append_assoc fs rest more ∙ ap (λ l. fs ++ l) q.run.whole ∙ sym (append_assoc fs gs left) ∙ ap (λ l. l ++ left) (sym (flat_map-append frame_bytes p.run.frames q.run.frames));
        each = each_join p.run.frames q.run.frames p.run.each q.run.each;
        bodies = bodies_join p.run.frames q.run.frames first second p.run.bodies q.run.bodies;
      };
      ending = q.ending;
    }

pub runs_stop : (bytes more rest : List ℕ) (results : List (Result Message Error)) → BackendRun bytes results true rest → BackendRun (bytes ++ more) results true (rest ++ more)
runs_stop bytes more rest results p = record {
  run = record {
    frames = p.run.frames;
    whole = ap (λ l. l ++ more) p.run.whole ∙ append_assoc (flat_map frame_bytes p.run.frames) rest more;
    each = p.run.each;
    bodies = p.run.bodies;
  };
  ending = fault_stays rest more p.ending;
}

pub runs_none : BackendRun [] [] false []
runs_none = record { run = frames_none []; ending = inl (omega arith) }

pub frames_join : (bytes more rest left : List ℕ) (first second : List (Result Message Error))
    → Frames bytes first rest → Frames (rest ++ more) second left → Frames (bytes ++ more) (first ++ second) left
frames_join bytes more rest left first second p q =
    let fs = flat_map frame_bytes p.frames in
    let gs = flat_map frame_bytes q.frames in
    record {
      frames = p.frames ++ q.frames;
      whole = ap (λ l. l ++ more) p.whole ∙ append_assoc fs rest more ∙ ap (λ l. fs ++ l) q.whole ∙ sym (append_assoc fs gs left) ∙ ap (λ l. l ++ left) (sym (flat_map-append frame_bytes p.frames q.frames));
      each = each_join p.frames q.frames p.each q.each;
      bodies = bodies_join p.frames q.frames first second p.bodies q.bodies;
    }

-- frames that were read are read first
pub frames_front : (bytes more : List ℕ) (first second : List (Result Message Error)) (halts : Bool) (rest left : List ℕ)
    → Frames bytes first rest → BackendRun (bytes ++ more) second halts left → (others : List (Result Message Error)) × (second ≡ first ++ others)
frames_front bytes more first second halts rest left p q =
    let joined : flat_map frame_bytes p.frames ++ (rest ++ more) ≡ flat_map frame_bytes q.run.frames ++ left = sym (append_assoc (flat_map frame_bytes p.frames) rest more) ∙ ap (λ l. l ++ more) (sym p.whole) ∙ q.run.whole in
    front_way p.frames q.run.frames first second (rest ++ more) left halts p.each q.run.each p.bodies q.run.bodies q.ending joined
