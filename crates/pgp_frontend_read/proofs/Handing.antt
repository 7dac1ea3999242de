-- A message's bytes that are handed out: what a step makes of them, and of more after them.
use Rattle.pgp_frontend_read.proofs.Common.{◌≡◌, ℕ, ◌+◌, ◌<◌, ◌^◌, Bool, true, false, List, [], ◌∷◌, ◌++◌, length, Option, Some, None, Result, Ok, Err, refl, sym, ap, subst, ◌∙◌, append_assoc, arith, inl, inr, length-append, append-nil, uint32, length-uint32, ClientMessage, PasswordKind, Password, framed, payload, tag_of, bytes_of, tagged_bodies, tag_in, Unread, BeginsWithLength, Stands, Refuses, Step, view, read, IsWhole, HandsOut, step_of, HasSize, IsReadAs, IsFrameOf, ClientFrame, ClientError}
use Rattle.pgp_frontend_read.specs.declared.message.ClientMessage as code
use Rattle.pgp_frontend_read.proofs.Pieces.{took}
use Rattle.pgp_frontend_read.proofs.Runs.{stands_read, silence}
use Rattle.pgp_frontend_read.proofs.Fronts.{behind_length}
use Rattle.pgp_frontend_read.proofs.Headers.{one_length, not_partial, begins_behind}
use Rattle.pgp_frontend_read.proofs.Steps.{left, payload_fits}

-- ---- a step, with bytes after it

pub refused_behind : (kind : PasswordKind) (old new : Unread) (e : ClientError) (more : List ℕ) → Refuses kind old e new → Refuses kind (left (old.bytes ++ more) old.opened) e (left (new.bytes ++ more) new.opened)
refused_behind kind old new e more r = record {
  none = λ m others rest s. r.none m (more ++ others) rest (record { expected = s.expected; spelled = s.spelled; whole = sym (append_assoc old.bytes more others) ∙ s.whole });
  left = elim r.left [
    | inl at ↦ inl (record {
      name = at.name;
      fault = record { len = at.fault.len; begins = begins_behind old.opened old.bytes more at.fault.len at.fault.begins; wrong = at.fault.wrong };
      same = ap (λ (u : Unread). left (u.bytes ++ more) u.opened) at.same;
    })
    | inr other ↦ elim other [
      | inl skips ↦ inr (inl (record {
        tag = skips.tag;
        payload = skips.payload;
        phase = skips.phase;
        fits = skips.fits;
        whole = ap (λ l. l ++ more) skips.whole ∙ append_assoc (framed (Some skips.tag) skips.payload) new.bytes more;
        same = skips.same;
        blames = skips.blames;
      }))
      | inr stops ↦ inr (inr (record {
        payload = stops.payload;
        rest = stops.rest ++ more;
        phase = stops.phase;
        fits = stops.fits;
        whole = ap (λ l. l ++ more) stops.whole ∙ append_assoc (framed None stops.payload) stops.rest more;
        same = ap (λ (u : Unread). left (u.bytes ++ more) u.opened) stops.same;
        blames = stops.blames;
      }))
    ]
  ];
}

step_behind : (kind : PasswordKind) (old new : Unread) (r : Result ClientMessage ClientError) (more : List ℕ) → Step kind old (step_of r) new → Step kind (left (old.bytes ++ more) old.opened) (step_of r) (left (new.bytes ++ more) new.opened)
step_behind kind old new (Ok x) more step = took kind old new x more step
step_behind kind old new (Err e) more step = refused_behind kind old new e more step

-- ---- a message's bytes

pub none_left : (l : List ℕ) → length l ≡ 0 → l ≡ []
none_left [] e = refl
none_left (x ∷ l) e = absurd (omega (arith, e))

tagged : (front rest : List ℕ) (len : ℕ) → length front ≡ 1 → (tag : ℕ) × (front ++ uint32 len ++ rest ≡ tag ∷ uint32 len ++ rest)
tagged [] rest len one = absurd (omega (arith, one))
tagged (t ∷ []) rest len one = (t, refl)
tagged (t ∷ u ∷ front) rest len one = absurd (omega (arith, one))

frame_whole : (bytes : List ℕ) → HasSize true bytes (length bytes) → IsWhole true bytes
frame_whole bytes h =
    let t = tagged h.begins.front h.begins.rest h.len h.begins.at in
    let len : h.len ≡ length h.begins.rest + 4 = omega (arith, h.all, behind_length true bytes h.len h.begins) in
    (t.0, h.begins.rest, h.begins.parts ∙ t.1 ∙ ap (λ n. t.0 ∷ uint32 n ++ h.begins.rest) len, omega (arith, len, h.fits))

refused_phase : (kind : PasswordKind) (bytes : List ℕ) (e : ClientError) (phase : Bool) → Refuses kind (left bytes true) e (left [] phase) → phase ≡ true
refused_phase kind bytes e phase r = elim r.left [
  | inl at ↦ ap (λ (u : Unread). u.opened) at.same
  | inr other ↦ elim other [ inl skips ↦ skips.same | inr stops ↦ let k : true ≡ false = stops.phase in cc ]
]

frame_phase : (kind : PasswordKind) (bytes : List ℕ) (r : Result ClientMessage ClientError) (phase : Bool) → Step kind (left bytes true) (step_of r) (left [] phase) → phase ≡ true
frame_phase kind bytes (Ok x) phase step = step.phase
frame_phase kind bytes (Err e) phase step = refused_phase kind bytes e phase step

pub frame_read : (bytes : List ℕ) → HasSize true bytes (length bytes) → IsReadAs true bytes true
frame_read bytes h = record { whole = frame_whole bytes h; steps = λ kind r phase step. frame_phase kind bytes r phase step }

packet_begins : (body rest bytes : List ℕ) → bytes ≡ framed None body ++ rest → length body + 4 < 2 ^ 31 → BeginsWithLength false bytes (length body + 4)
packet_begins body rest bytes whole fits = record { front = []; rest = body ++ rest; at = refl; fits = omega (arith, fits); parts = whole ∙ append_assoc (uint32 (length body + 4)) body rest }

module _ (bytes : List ℕ) (h : HasSize false bytes (length bytes)) where
  nothing_behind : (body rest : List ℕ) → bytes ≡ framed None body ++ rest → length body + 4 < 2 ^ 31 → rest ≡ []
  nothing_behind body rest whole fits =
      let len = one_length false bytes h.len (length body + 4) h.begins (packet_begins body rest bytes whole fits) in
      none_left rest (omega (arith, h.all, len, ap length whole, length-append (framed None body) rest, length-append (uint32 (length body + 4)) body, length-uint32 (length body + 4)))

  stands_any : (m : ClientMessage) (new : Unread) → Step Password (left bytes false) (Ok (Some m)) new → (kind : PasswordKind) → Stands kind false bytes m []
  stands_any m new t kind =
      let none : new.bytes ≡ [] = nothing_behind (payload m) new.bytes (t.stands.whole ∙ ap (λ o. framed o (payload m) ++ new.bytes) t.stands.expected) (payload_fits m t.stands.spelled) in
      record { expected = t.stands.expected; spelled = t.stands.spelled; whole = t.stands.whole ∙ ap (λ l. bytes_of m ++ l) none }

  packet_read : (x : ClientMessage) (new : Unread) → Step Password (left bytes false) (Ok (Some x)) new → IsReadAs false bytes new.opened
  packet_read x new t = record {
    whole = (x, stands_any x new t);
    steps = λ kind r phase step.
        let s = stands_read kind false bytes [] x (step_of r) (left [] phase) (stands_any x new t kind) step in
        ap (λ (u : Unread). u.opened) s.1 ∙ sym t.phase;
  }

  pub packet_opened : (o : Option code.ClientMessage) (new : Unread) → Step Password (left bytes false) (read (Ok o)) new → IsReadAs false bytes new.opened
  packet_opened (Some m) new step = packet_read (view m) new step
  packet_opened None new step = absurd (not_partial false bytes (length bytes) h (omega arith) step.0)

-- a packet that is rejected is left, whatever kind is given
pub packet_refused : (bytes : List ℕ) (e : ClientError) (new : Unread) → Refuses Password (left bytes false) e new → (kind : PasswordKind) → Refuses kind (left bytes false) e (left bytes false)
packet_refused bytes e new r kind = record {
  none = λ m more rest s. r.none m more rest (record { expected = s.expected; spelled = s.spelled; whole = s.whole });
  left = elim r.left [
    | inl at ↦ inl (record { name = at.name; fault = at.fault; same = refl })
    | inr other ↦ elim other [
      | inl skips ↦ let k : false ≡ true = skips.phase in absurd cc
      | inr stops ↦ inr (inr (record { payload = stops.payload; rest = stops.rest; phase = refl; fits = stops.fits; whole = stops.whole; same = refl; blames = stops.blames }))
    ]
  ];
}

-- ---- handed out, with bytes after

pub hands_out : (opened : Bool) (bytes rest : List ℕ) (frame : ClientFrame) (now : Bool) → IsReadAs opened bytes now → IsFrameOf opened bytes frame → HandsOut (left (bytes ++ rest) opened) frame (left rest now)
hands_out opened bytes rest frame now h f = record {
  phase = f.phase;
  whole = rw (f.phase, f.same) h.whole;
  first = ap (λ l. l ++ rest) (sym f.same);
  steps = λ kind r read.
      let alone : Step kind (left bytes opened) (step_of r) (left [] read.0) =
      subst (λ b. Step kind (left b opened) (step_of r) (left [] read.0)) f.same (subst (λ (o : Bool). Step kind (left frame.bytes.now o) (step_of r) (left [] read.0)) f.phase read.1) in
      let all : Step kind (left (bytes ++ rest) opened) (step_of r) (left rest read.0) = step_behind kind (left bytes opened) (left [] read.0) r rest alone in
      subst (λ (o : Bool). Step kind (left (bytes ++ rest) opened) (step_of r) (left rest o)) (h.steps kind r read.0 alone) all;
}

-- ---- a message's bytes are read as a whole

abbrev answered : ClientMessage → Result (Option ClientMessage) ClientError
answered x = Ok (Some x)

answer_none : (x : ClientMessage) → silence ≡ answered x → ⊥
answer_none x e = cc

module _ (kind : PasswordKind) (bytes : List ℕ) (tag : ℕ) (body : List ℕ) (whole : bytes ≡ framed (Some tag) body) (fits : length body + 4 < 2 ^ 31) where
  frame_begins : BeginsWithLength true bytes (length body + 4)
  frame_begins = record { front = tag ∷ []; rest = body; at = refl; fits = omega (arith, fits); parts = whole }

  frame_size : HasSize true bytes (length bytes)
  frame_size = record {
    len = length body + 4;
    begins = frame_begins;
    enough = omega arith;
    fits = fits;
    all = omega (arith, ap length whole, length-append (uint32 (length body + 4)) body, length-uint32 (length body + 4));
  }

  no_bytes : (t : ℕ) (other rest : List ℕ) → length other + 4 < 2 ^ 31 → bytes ≡ framed (Some t) other ++ rest → rest ≡ []
  no_bytes t other rest small is =
      let meet : framed (Some tag) body ++ [] ≡ framed (Some t) other ++ rest = append-nil (framed (Some tag) body) ∙ sym whole ∙ is in
      let same = tagged_bodies tag t body other [] rest (omega (arith, fits)) (omega (arith, small)) meet in
      sym same.2

  taken_whole : (m : ClientMessage) (new : Unread) → Step kind (left bytes true) (Ok (Some m)) new → new.bytes ≡ []
  taken_whole m new step =
      let t = tag_in (tag_of m) step.stands.expected.0 in
      no_bytes t.0 (payload m) new.bytes (payload_fits m step.stands.spelled) (step.stands.whole ∙ ap (λ o. framed o (payload m) ++ new.bytes) t.1)

  passed_whole : (e : ClientError) (new : Unread) → Refuses kind (left bytes true) e new → new.bytes ≡ []
  passed_whole e new r = elim r.left [
    | inl at ↦
        let same = one_length true bytes at.fault.len (length body + 4) at.fault.begins frame_begins in
        elim at.fault.wrong [ inl small ↦ absurd (omega (arith, same, small)) | inr large ↦ absurd (omega (arith, same, large, fits)) ]
    | inr other ↦ elim other [
      | inl skips ↦ no_bytes skips.tag skips.payload new.bytes skips.fits skips.whole
      | inr stops ↦ let k : true ≡ false = stops.phase in absurd cc
    ]
  ]

none_behind : (kind : PasswordKind) (opened : Bool) (bytes : List ℕ) (r : Result ClientMessage ClientError) (new : Unread) → IsWhole opened bytes → Step kind (left bytes opened) (step_of r) new → new.bytes ≡ []
none_behind kind false bytes r new w step = ap (λ (u : Unread). u.bytes) (stands_read kind false bytes [] w.0 (step_of r) new (w.1 kind) step).1
none_behind kind true bytes (Ok x) new w step = taken_whole kind bytes w.0 w.1 w.2 w.3 x new step
none_behind kind true bytes (Err e) new w step = passed_whole kind bytes w.0 w.1 w.2 w.3 e new step

pub frame_steps : (kind : PasswordKind) (opened : Bool) (bytes : List ℕ) (r : Result ClientMessage ClientError) (new : Unread) → IsWhole opened bytes → Step kind (left bytes opened) (step_of r) new
    → (phase : Bool) × Step kind (left bytes opened) (step_of r) (left [] phase)
frame_steps kind opened bytes r new w step =
    let all : new ≡ left [] new.opened = ap (λ b. left b new.opened) (none_behind kind opened bytes r new w step) in
    (new.opened, subst (λ (u : Unread). Step kind (left bytes opened) (step_of r) u) all step)

pub frame_there : (kind : PasswordKind) (opened : Bool) (bytes : List ℕ) (new : Unread) → IsWhole opened bytes → Step kind (left bytes opened) (Ok None) new → ⊥
frame_there kind false bytes new w step = answer_none w.0 (stands_read kind false bytes [] w.0 (Ok None) new (w.1 kind) step).0
frame_there kind true bytes new w step = not_partial true bytes (length bytes) (frame_size kind bytes w.0 w.1 w.2 w.3) (omega arith) step.0
