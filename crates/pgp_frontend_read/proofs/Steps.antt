-- A step along the bytes, from what stood at their front.
use Rattle.pgp_frontend_read.proofs.Common.{◌≡◌, ◌≢◌, ℕ, ◌+◌, ◌<◌, ◌≤◌, ◌^◌, Bool, true, false, List, [], ◌∷◌, ◌++◌, length, Option, Some, None, Ok, Err, refl, sym, ap, subst, ◌∙◌, append_assoc, arith, length-append, inl, inr, take_at, append-nil, uint32, int32, IsBytes, length_cause, Error, InvalidLength, either_right, fits_of, length-uint32, IsBytes-take, fronts, uint32_begins, ClientMessage, Startup, CancelRequest, SslRequest, GssEncRequest, PasswordKind, framed, payload, parts, parts_cause, tag_of, bytes_of, IsSpelled, is_startup, body_of, packet_of, Unread, IsExpected, Stands, NoneStands, place, least, BeginsWithLength, IsLengthFault, IsPartial, Takes, Refuses, IsFront, ClientError, Reading, bodies, tagged_bodies, tag_in}
use Rattle.pgp_frontend_read.proofs.Items.{bytes_behind}
use Rattle.pgp_frontend_read.proofs.FaultLemmas.{body_blames, packet_blames}
use Rattle.pgp_frontend_read.proofs.Forms.{body_found, body_again, packet_found, packet_again}

-- ---- how a message begins

-- where its length stands, and what it is
record HasLength (opened : Bool) (m : ClientMessage) : Type 0 where
  pub front : List ℕ
  pub at : length front ≡ place opened
  pub enough : least opened ≤ length (payload m) + 4
  pub fits : length (payload m) + 4 < 2 ^ 31
  pub are : bytes_of m ≡ (front ++ uint32 (length (payload m) + 4)) ++ payload m

pub payload_fits : (m : ClientMessage) → IsSpelled m → length (payload m) + 4 < 2 ^ 31
payload_fits m h = fits_of (length (payload m) + 4) (either_right (parts_cause (parts m)) (length_cause (length (payload m) + 4)) h.none)

abbrev FramedSo : Bool → Option ℕ → List ℕ → Type 0
FramedSo opened tag p = (front : List ℕ) × (length front ≡ place opened) × (framed tag p ≡ (front ++ uint32 (length p + 4)) ++ p)

framed_so : (kind : PasswordKind) (opened : Bool) (m : ClientMessage) (tag : Option ℕ) → tag_of m ≡ tag → IsExpected kind opened m → FramedSo opened tag (payload m)
framed_so kind true m None e x = absurd (x.0 e)
framed_so kind true m (Some t) e x = (t ∷ [], refl, refl)
framed_so kind false m None e x = ([], refl, refl)
framed_so kind false m (Some t) e x = let k : Some t ≡ None = sym e ∙ x in absurd cc

-- an opening packet has a code
coded : (m : ClientMessage) → tag_of m ≡ None → 4 ≤ length (payload m)
unfolding int32
coded (Startup v ps) t = omega arith
coded (CancelRequest a b) t = omega arith
coded SslRequest t = omega arith
coded GssEncRequest t = omega arith
coded _ t = absurd cc

enough : (kind : PasswordKind) (opened : Bool) (m : ClientMessage) → IsExpected kind opened m → least opened ≤ length (payload m) + 4
enough kind true m x = omega arith
enough kind false m x = omega (arith, coded m x)

has_length : (kind : PasswordKind) (opened : Bool) (m : ClientMessage) → IsExpected kind opened m → IsSpelled m → HasLength opened m
has_length kind opened m x h =
    let f = framed_so kind opened m (tag_of m) refl x in
    record { front = f.0; at = f.1; enough = enough kind opened m x; fits = payload_fits m h; are = f.2 }

-- the length that stands there is the message's
length_is : (opened : Bool) (bytes : List ℕ) (len : ℕ) (b : BeginsWithLength opened bytes len) (m : ClientMessage) (l : HasLength opened m) (more rest : List ℕ) → bytes ++ more ≡ bytes_of m ++ rest
    → (len ≡ length (payload m) + 4) × (b.rest ++ more ≡ payload m ++ rest)
length_is opened bytes len b m l more rest e =
    let left : bytes ++ more ≡ b.front ++ (uint32 len ++ (b.rest ++ more)) =
    ap (λ l. l ++ more) b.parts ∙ append_assoc (b.front ++ uint32 len) b.rest more ∙ append_assoc b.front (uint32 len) (b.rest ++ more) in
    let right : bytes_of m ++ rest ≡ l.front ++ (uint32 (length (payload m) + 4) ++ (payload m ++ rest)) =
    ap (λ l. l ++ rest) l.are ∙ append_assoc (l.front ++ uint32 (length (payload m) + 4)) (payload m) rest ∙ append_assoc l.front (uint32 (length (payload m) + 4)) (payload m ++ rest) in
    let f = fronts b.front l.front (uint32 len ++ (b.rest ++ more)) (uint32 (length (payload m) + 4) ++ (payload m ++ rest)) (b.at ∙ sym l.at) (sym left ∙ e ∙ right) in
    uint32_begins len (length (payload m) + 4) (b.rest ++ more) (payload m ++ rest) b.fits (omega (arith, l.fits)) f.1

-- no message has such a length
pub fault_none : (kind : PasswordKind) (opened : Bool) (bytes : List ℕ) → IsLengthFault opened bytes → NoneStands kind opened bytes
fault_none kind opened bytes fault m more rest s =
    let l = has_length kind opened m s.expected s.spelled in
    let is = length_is opened bytes fault.len fault.begins m l more rest s.whole in
    elim fault.wrong [
      | inl small ↦ omega (arith, small, is.0, l.enough)
      | inr large ↦ omega (arith, large, is.0, l.fits)
    ]

-- where bytes are missing no message stands
pub partial_none : (kind : PasswordKind) (opened : Bool) (bytes : List ℕ) (m : ClientMessage) (rest : List ℕ) → IsPartial opened bytes → Stands kind opened bytes m rest → ⊥
partial_none kind opened bytes m rest (inl short) s =
    let l = has_length kind opened m s.expected s.spelled in
    omega (arith, short, ap length s.whole, length-append (bytes_of m) rest, ap length l.are, length-append (l.front ++ uint32 (length (payload m) + 4)) (payload m), length-append l.front (uint32 (length (payload m) + 4)), length-uint32 (length (payload m) + 4), l.at)
partial_none kind opened bytes m rest (inr part) s =
    let l = has_length kind opened m s.expected s.spelled in
    let whole : bytes ++ [] ≡ bytes_of m ++ rest = append-nil bytes ∙ s.whole in
    let is = length_is opened bytes part.len part.begins m l [] rest whole in
    let all : part.begins.rest ≡ payload m ++ rest = sym (append-nil part.begins.rest) ∙ is.1 in
    omega (arith, part.missing, is.0, ap length all, length-append (payload m) rest)

abbrev pub left : List ℕ → Bool → Unread
left bytes opened = record { bytes = bytes; opened = opened }

pub step_fault : (kind : PasswordKind) (opened : Bool) (bytes : List ℕ) (e : Error) → (e ≡ InvalidLength) × IsLengthFault opened bytes → Refuses kind (left bytes opened) (Reading e) (left bytes opened)
step_fault kind opened bytes e f = record { none = fault_none kind opened bytes f.1; left = inl (record { name = ap (λ (x : Error). Reading x) f.0; fault = f.1; same = refl }) }

-- ---- a frame

front_bytes : (a b : List ℕ) → IsBytes (a ++ b) → IsBytes a
front_bytes a b h = subst IsBytes (take_at a b (length a) refl) (IsBytes-take (length a) (a ++ b) h)

pub frame_payload : (bytes payload rest : List ℕ) (tag : ℕ) → IsBytes bytes → bytes ≡ framed (Some tag) payload ++ rest → IsBytes payload
frame_payload bytes payload rest tag each whole =
    bytes_behind (framed (Some tag) payload) (tag ∷ uint32 (length payload + 4)) payload refl (front_bytes (framed (Some tag) payload) rest (subst IsBytes whole each))

pub packet_payload : (bytes payload rest : List ℕ) → IsBytes bytes → bytes ≡ framed None payload ++ rest → IsBytes payload
packet_payload bytes payload rest each whole =
    bytes_behind (framed None payload) (uint32 (length payload + 4)) payload refl (front_bytes (framed None payload) rest (subst IsBytes whole each))

some_none : (t : ℕ) (o : Option ℕ) → o ≡ Some t → o ≢ None
some_none t o e n = let k : Some t ≡ None = sym e ∙ n in cc

module _ (kind : PasswordKind) (bytes body rest : List ℕ) (tag : ℕ) (each : IsBytes bytes) (front : IsFront (Some tag) body rest bytes) where
  pub step_taken : (m : ClientMessage) → body_of kind tag body ≡ Ok m → Takes kind (left bytes true) m (left rest true)
  step_taken m e =
      let b = body_found kind tag body m (frame_payload bytes body rest tag each front.whole) front.fits e in
      record {
        stands = record {
          expected = (some_none tag (tag_of m) b.tagged, b.reported);
          spelled = b.payload.spelled;
          whole = front.whole ∙ ap (λ t. framed t body ++ rest) (sym b.tagged) ∙ ap (λ p. framed (tag_of m) p ++ rest) b.payload.are;
        };
        phase = refl;
      }

  pub step_skipped : (e : Error) → body_of kind tag body ≡ Err e → Refuses kind (left bytes true) (Reading e) (left rest true)
  step_skipped e is = record {
    none = λ m more after s.
        let t = tag_in (tag_of m) s.expected.0 in
        let meet : framed (Some tag) body ++ (rest ++ more) ≡ framed (Some t.0) (payload m) ++ after =
        sym (append_assoc (framed (Some tag) body) rest more) ∙ ap (λ l. l ++ more) (sym front.whole) ∙ s.whole ∙ ap (λ o. framed o (payload m) ++ after) t.1 in
        let same = tagged_bodies tag t.0 body (payload m) (rest ++ more) after (omega (arith, front.fits)) (omega (arith, payload_fits m s.spelled)) meet in
        let again = body_again kind m t.0 t.1 s.expected.1 s.spelled in
        let k : Err e ≡ Ok m = sym is ∙ ap (λ n. body_of kind n body) same.0 ∙ ap (body_of kind t.0) same.1 ∙ again in
        cc;
    left = inr (inl (record { tag = tag; payload = body; phase = refl; fits = front.fits; whole = front.whole; same = refl; blames = body_blames kind tag body e (frame_payload bytes body rest tag each front.whole) is }));
  }

-- ---- an opening packet

module _ (kind : PasswordKind) (bytes body rest : List ℕ) (each : IsBytes bytes) (front : IsFront None body rest bytes) where
  pub step_opened : (m : ClientMessage) (opened : Bool) → opened ≡ is_startup m → packet_of body ≡ Ok m → Takes kind (left bytes false) m (left rest opened)
  step_opened m opened o e =
      let b = packet_found body m (packet_payload bytes body rest each front.whole) front.fits e in
      record {
        stands = record {
          expected = b.untagged;
          spelled = b.payload.spelled;
          whole = front.whole ∙ ap (λ t. framed t body ++ rest) (sym b.untagged) ∙ ap (λ p. framed (tag_of m) p ++ rest) b.payload.are;
        };
        phase = o;
      }

  pub step_stopped : (e : ClientError) → 4 ≤ length body → packet_of body ≡ Err e → Refuses kind (left bytes false) e (left bytes false)
  step_stopped e long is = record {
    none = λ m more after s.
        let meet : framed None body ++ (rest ++ more) ≡ framed None (payload m) ++ after =
        sym (append_assoc (framed None body) rest more) ∙ ap (λ l. l ++ more) (sym front.whole) ∙ s.whole ∙ ap (λ o. framed o (payload m) ++ after) s.expected in
        let same = bodies body (payload m) (rest ++ more) after (omega (arith, front.fits)) (omega (arith, payload_fits m s.spelled)) meet in
        let k : Err e ≡ Ok m = sym is ∙ ap packet_of same.0 ∙ packet_again m s.expected s.spelled in
        cc;
    left = inr (inr (record { payload = body; rest = rest; phase = refl; fits = front.fits; whole = front.whole; same = refl; blames = packet_blames body e (packet_payload bytes body rest each front.whole) long is }));
  }
