-- A client's frame by itself.
use Rattle.pgtrace_lines.proofs.Common.{◌≡◌, ℕ, ◌+◌, ◌-◌, ◌<◌, ◌≤◌, ◌^◌, Bool, true, false, List, [], ◌∷◌, ◌++◌, length, take, Option, Some, None, Result, Ok, Err, refl, sym, ap, subst, ◌∙◌, arith, length-append, inl, inr, ◌⊎◌, append-nil, uint32, ClientMessage, PasswordKind, framed, payload, tag_of, bytes_of, payload_fits, step_of, Unread, NoneStands, StopsAtLength, SkipsFrame, StopsAt, Refuses, Step, ClientError, Style, closing, client_line, EndsSo, client_frame_name, client_front, Client, Ends, expected, is_reported, kinds_behind, HasLine}
use Rattle.pgp_frontend.proofs.Readings.{tagged_bodies, tag_in}
use Rattle.pgp_frontend_read.specs.declared.message.PasswordKind as code
use Rattle.pgp_frontend_read.proofs.Steps.{left}
use Rattle.pgtrace_lines.proofs.Parts.{front_taken}
use Rattle.pgp_base.proofs.Parts.{length-uint32}

-- what stands before the rest is one thing
module _ (bytes frame rest : List ℕ) (whole : bytes ≡ frame ++ rest) where
  one_front : (xs : List ℕ) → bytes ≡ xs ++ rest → frame ≡ xs
  one_front xs e = sym (front_taken frame rest bytes whole) ∙ front_taken xs rest bytes e

  -- a frame that stands first in any bytes, stands in these
  module _ (kind : PasswordKind) (tag : ℕ) (body : List ℕ) (fits : length body + 4 < 2 ^ 31) (is : bytes ≡ framed (Some tag) body ++ rest) where
    none_alone : NoneStands kind true bytes → NoneStands kind true frame
    none_alone none m more after s =
        let t = tag_in (tag_of m) s.expected.0 in
        let meet : framed (Some tag) body ++ more ≡ framed (Some t.0) (payload m) ++ after =
        ap (λ l. l ++ more) (sym (one_front (framed (Some tag) body) is)) ∙ s.whole ∙ ap (λ o. framed o (payload m) ++ after) t.1 in
        let same = tagged_bodies tag t.0 body (payload m) more after (omega (arith, fits)) (omega (arith, payload_fits m s.spelled)) meet in
        let here : bytes ++ [] ≡ framed (tag_of m) (payload m) ++ rest =
        append-nil bytes ∙ is ∙ ap (λ n. framed (Some n) body ++ rest) same.0 ∙ ap (λ l. framed (Some t.0) l ++ rest) same.1 ∙ ap (λ o. framed o (payload m) ++ rest) (sym t.1) in
        none m [] rest (record { expected = s.expected; spelled = s.spelled; whole = here })

never_same : (a b : List ℕ) → b ≡ a → length b < length a → ⊥
never_same a b e h = absurd (omega (arith, ap length e, h))

-- a step that passes a frame is that of the frame by itself
pub alone : (kind : PasswordKind) (opened now : Bool) (bytes frame rest : List ℕ) (r : Result ClientMessage ClientError) → bytes ≡ frame ++ rest → length rest < length bytes
    → Step kind (record { bytes = bytes; opened = opened }) (step_of r) (record { bytes = rest; opened = now })
    → Step kind (record { bytes = frame; opened = opened }) (step_of r) (record { bytes = []; opened = now })
alone kind opened now bytes frame rest (Ok m) whole less step = record {
  stands = record {
    expected = step.stands.expected;
    spelled = step.stands.spelled;
    whole = one_front bytes frame rest whole (bytes_of m) step.stands.whole ∙ sym (append-nil (bytes_of m));
  };
  phase = step.phase;
}
alone kind opened now bytes frame rest (Err e) whole less step = elim step.left [
  | inl at ↦ absurd (never_same bytes rest (ap (λ (u : Unread). u.bytes) at.same) less)
  | inr other ↦ elim other [
    | inl skips ↦
        let none : NoneStands kind true bytes = subst (λ (o : Bool). NoneStands kind o bytes) skips.phase step.none in
        record {
          none = subst (λ (o : Bool). NoneStands kind o frame) (sym skips.phase) (none_alone bytes frame rest whole kind skips.tag skips.payload skips.fits skips.whole none);
          left = inr (inl (record {
            tag = skips.tag;
            payload = skips.payload;
            phase = skips.phase;
            fits = skips.fits;
            whole = one_front bytes frame rest whole (framed (Some skips.tag) skips.payload) skips.whole ∙ sym (append-nil (framed (Some skips.tag) skips.payload));
            same = skips.same;
            blames = skips.blames;
          }));
        }
    | inr stops ↦ absurd (never_same bytes rest (ap (λ (u : Unread). u.bytes) stops.same) less)
  ]
]

-- before a startup packet no kind matters
any_kind : (kind other : PasswordKind) (opened : Bool) (bytes : List ℕ) → opened ≡ false → NoneStands kind opened bytes → NoneStands other opened bytes
any_kind kind other true bytes e none = absurd cc
any_kind kind other false bytes e none = λ m more rest s. none m more rest (record { expected = s.expected; spelled = s.spelled; whole = s.whole })

-- no step takes bytes back
pub no_longer : (kind : PasswordKind) (opened now : Bool) (bytes rest : List ℕ) (r : Result ClientMessage ClientError)
    → Step kind (record { bytes = bytes; opened = opened }) (step_of r) (record { bytes = rest; opened = now }) → length rest ≤ length bytes
no_longer kind opened now bytes rest (Ok m) step = omega (arith, ap length step.stands.whole, length-append (bytes_of m) rest)
no_longer kind opened now bytes rest (Err e) step = elim step.left [
  | inl at ↦ omega (arith, ap length (ap (λ (u : Unread). u.bytes) at.same))
  | inr other ↦ elim other [
    | inl skips ↦ omega (arith, ap length skips.whole, length-append (framed (Some skips.tag) skips.payload) rest)
    | inr stops ↦ omega (arith, ap length (ap (λ (u : Unread). u.bytes) stops.same))
  ]
]

-- ---- the line of what a step passed

framed_long : (tag : Option ℕ) (body : List ℕ) → 4 ≤ length (framed tag body)
unfolding uint32
framed_long None body = omega arith
framed_long (Some tag) body = omega arith

begins_long : (bytes front len rest : List ℕ) → length len ≡ 4 → bytes ≡ front ++ len ++ rest → 4 ≤ length bytes
begins_long bytes front len rest four e = omega (arith, four, ap length e, length-append front (len ++ rest), length-append (front ++ len) rest, length-append front len, length-append len rest)

behind_long : (bytes front rest : List ℕ) → 4 ≤ length front → bytes ≡ front ++ rest → 4 ≤ length bytes
behind_long bytes front rest long e = omega (arith, long, ap length e, length-append front rest)

-- what a step says anything of but that more is awaited has a length
pub step_long : (kind : PasswordKind) (old new : Unread) (r : Result ClientMessage ClientError) → Step kind old (step_of r) new → 4 ≤ length old.bytes
step_long kind old new (Ok m) step = behind_long old.bytes (bytes_of m) new.bytes (framed_long (tag_of m) (payload m)) step.stands.whole
step_long kind old new (Err e) step = elim step.left [
  | inl at ↦ begins_long old.bytes at.fault.begins.front (uint32 at.fault.len) at.fault.begins.rest (length-uint32 at.fault.len) at.fault.begins.parts
  | inr other ↦ elim other [
    | inl skips ↦ behind_long old.bytes (framed (Some skips.tag) skips.payload) new.bytes (framed_long (Some skips.tag) skips.payload) skips.whole
    | inr stops ↦ behind_long old.bytes (framed None stops.payload) stops.rest (framed_long None stops.payload) stops.whole
  ]
]

parted : (bytes front rest : List ℕ) → bytes ≡ front ++ rest → bytes ≡ take (length bytes - length rest) bytes ++ rest
parted bytes front rest e = e ∙ ap (λ l. l ++ rest) (sym (front_taken front rest bytes e))

-- what it passed stood first
splits : (kind : PasswordKind) (old new : Unread) (r : Result ClientMessage ClientError) → length new.bytes < length old.bytes → Step kind old (step_of r) new
    → old.bytes ≡ take (length old.bytes - length new.bytes) old.bytes ++ new.bytes
splits kind old new (Ok m) less step = parted old.bytes (bytes_of m) new.bytes step.stands.whole
splits kind old new (Err e) less step = elim step.left [
  | inl at ↦ absurd (never_same old.bytes new.bytes (ap (λ (u : Unread). u.bytes) at.same) less)
  | inr other ↦ elim other [
    | inl skips ↦ parted old.bytes (framed (Some skips.tag) skips.payload) new.bytes skips.whole
    | inr stops ↦ absurd (never_same old.bytes new.bytes (ap (λ (u : Unread). u.bytes) stops.same) less)
  ]
]

-- a message takes its bytes
pub taken_less : (kind : PasswordKind) (old new : Unread) (x : ClientMessage) → Step kind old (Ok (Some x)) new → length new.bytes < length old.bytes
taken_less kind old new m step = omega (arith, framed_long (tag_of m) (payload m), ap length step.stands.whole, length-append (bytes_of m) new.bytes)

-- so the line of it is the line of a frame
pub passed_line : (style : Style) (place : ℕ) (opened now : Bool) (kinds behind : List code.PasswordKind) (replicating : Bool) (bytes frame rest line name : List ℕ) (kind : PasswordKind) (r : Result ClientMessage ClientError)
    → kind ≡ expected kinds → length rest < length bytes
    → Step kind (record { bytes = bytes; opened = opened }) (step_of r) (record { bytes = rest; opened = now })
    → frame ≡ take (length bytes - length rest) bytes → EndsSo style (is_reported kinds) replicating r (client_front style place opened frame) line
    → behind ≡ kinds_behind opened frame kinds → name ≡ client_frame_name (is_reported kinds) r → HasLine style place (Client opened kinds replicating) bytes rest line (Client now behind replicating) name
passed_line style place opened now kinds behind replicating bytes frame rest line name kind r reported less step is has moved named =
    let whole : bytes ≡ frame ++ rest = splits kind (left bytes opened) (left rest now) r less step ∙ ap (λ l. l ++ rest) (sym is) in
    record {
      frame = frame;
      whole = whole;
      reported = record {
        now = now;
        reported = record {
          result = r;
          step = subst (λ k. Step k (record { bytes = frame; opened = opened }) (step_of r) (record { bytes = []; opened = now })) reported (alone kind opened now bytes frame rest r whole less step);
          reported = has;
        };
        behind = ap (λ k. Client now k replicating) moved;
      };
      named = named;
    }

abbrev pub LineBehind : Style → ℕ → Bool → List code.PasswordKind → Bool → List ℕ → List ℕ → List ℕ → Bool → List code.PasswordKind → List ℕ → Type 0
LineBehind style place opened kinds replicating bytes rest line now behind name = HasLine style place (Client opened kinds replicating) bytes rest line (Client now behind replicating) name

same_unread : (new : Unread) (rest : List ℕ) (now : Bool) → rest ≡ new.bytes → now ≡ new.opened → new ≡ left rest now
same_unread new rest now r o = ap (λ b. left b new.opened) (sym r) ∙ ap (left rest) (sym o)

pub message_passed : (style : Style) (place : ℕ) (opened now : Bool) (kinds behind : List code.PasswordKind) (replicating : Bool) (bytes frame rest line name : List ℕ) (kind : PasswordKind) (x : ClientMessage) (old new : Unread)
    → old ≡ record { bytes = bytes; opened = opened } → rest ≡ new.bytes → now ≡ new.opened → kind ≡ expected kinds → Step kind old (Ok (Some x)) new
    → frame ≡ take (length bytes - length rest) bytes → EndsSo style (is_reported kinds) replicating (Ok x) (client_front style place opened frame) line
    → behind ≡ kinds_behind opened frame kinds → name ≡ client_frame_name (is_reported kinds) (Ok x) → LineBehind style place opened kinds replicating bytes rest line now behind name
message_passed style place opened now kinds behind replicating bytes frame rest line name kind x old new was r o reported step is has moved named =
    let here : Step kind (left bytes opened) (Ok (Some x)) (left rest now) =
    subst (λ (u : Unread). Step kind u (Ok (Some x)) (left rest now)) was (subst (λ (u : Unread). Step kind old (Ok (Some x)) u) (same_unread new rest now r o) step) in
    passed_line style place opened now kinds behind replicating bytes frame rest line name kind (Ok x) reported (taken_less kind (left bytes opened) (left rest now) x here) here is has moved named

refusal_ends : (style : Style) (reported replicating : Bool) (e : ClientError) (front line : List ℕ) → line ≡ client_line style reported (Err e) front ++ closing style ++ 10 ∷ [] → EndsSo style reported replicating (Err e) front line
refusal_ends style reported true e front line has = record { text = client_line style reported (Err e) front; says = refl; ended = has }
refusal_ends style reported false e front line has = record { text = client_line style reported (Err e) front; says = refl; ended = has }

pub refusal_passed : (style : Style) (place : ℕ) (opened now : Bool) (kinds behind : List code.PasswordKind) (replicating : Bool) (bytes frame rest line name : List ℕ) (kind : PasswordKind) (e : ClientError) (old new : Unread)
    → old ≡ record { bytes = bytes; opened = opened } → rest ≡ new.bytes → now ≡ new.opened → kind ≡ expected kinds → Refuses kind old e new
    → (length rest ≡ length bytes → ⊥)
    → frame ≡ take (length bytes - length rest) bytes → line ≡ client_line style (is_reported kinds) (Err e) (client_front style place opened frame) ++ closing style ++ 10 ∷ []
    → behind ≡ kinds_behind opened frame kinds → name ≡ client_frame_name (is_reported kinds) (Err e) → LineBehind style place opened kinds replicating bytes rest line now behind name
refusal_passed style place opened now kinds behind replicating bytes frame rest line name kind e old new was r o reported step differ is has moved named =
    let here : Refuses kind (left bytes opened) e (left rest now) =
    subst (λ (u : Unread). Refuses kind u e (left rest now)) was (subst (λ (u : Unread). Refuses kind old e u) (same_unread new rest now r o) step) in
    let le : length rest ≤ length bytes = no_longer kind opened now bytes rest (Err e) here in
    let less : length rest < length bytes = omega (arith, le, differ) in
    passed_line style place opened now kinds behind replicating bytes frame rest line name kind (Err e) reported less here is (refusal_ends style (is_reported kinds) replicating e (client_front style place opened frame) line has) moved named

-- where nothing was passed, no frame stands first
ends_by : (opened : Bool) (kinds : List code.PasswordKind) (replicating : Bool) (bytes rest : List ℕ) (kind : PasswordKind) (e : ClientError) (new : Unread) → rest ≡ new.bytes → length rest ≡ length bytes
    → NoneStands kind opened bytes → StopsAtLength (left bytes opened) e new ⊎ (SkipsFrame kind (left bytes opened) e new ⊎ StopsAt (left bytes opened) e new) → Ends (Client opened kinds replicating) true bytes
ends_by opened kinds replicating bytes rest kind e new r same none (inl s) = inl s.fault
ends_by opened kinds replicating bytes rest kind e new r same none (inr (inl k)) =
    absurd (omega (arith, framed_long (Some k.tag) k.payload, ap length k.whole, length-append (framed (Some k.tag) k.payload) new.bytes, ap length r, same))
ends_by opened kinds replicating bytes rest kind e new r same none (inr (inr t)) =
    inr (record { phase = t.phase; payload = t.payload; rest = t.rest; fits = t.fits; whole = t.whole; error = e; blames = t.blames; none = λ other. any_kind kind other opened bytes t.phase none })

pub refusal_rests : (opened : Bool) (kinds : List code.PasswordKind) (replicating : Bool) (bytes rest : List ℕ) (kind : PasswordKind) (e : ClientError) (old new : Unread)
    → old ≡ record { bytes = bytes; opened = opened } → rest ≡ new.bytes → Refuses kind old e new → length rest ≡ length bytes → Ends (Client opened kinds replicating) true bytes
refusal_rests opened kinds replicating bytes rest kind e old new was r step same =
    let here : Refuses kind (left bytes opened) e new = subst (λ (u : Unread). Refuses kind u e new) was step in
    ends_by opened kinds replicating bytes rest kind e new r same here.none here.left
