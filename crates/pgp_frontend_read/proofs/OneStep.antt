-- A step has one answer.
use Rattle.pgp_frontend_read.proofs.Common.{◌≡◌, ◌≢◌, ℕ, ℤ, pos, ◌+◌, ◌-◌, ◌<◌, ◌≤◌, ◌^◌, Bool, true, false, List, [], ◌∷◌, ◌++◌, length, map, Option, Some, None, Result, Ok, Err, refl, sym, ap, subst, ◌∙◌, append_assoc, arith, inl, inr, length-append, ◌==◌, ◌⊎◌, ◌||◌, IfSome, nat_lt, nat_le, w32, cast_signed, cast_unsigned, ne_eqb, cases_Bool, to_z_pos, to_z-of_z, oid, int32, uint32, Error, UnknownTag, length-uint32, int32_spelled, ClientMessage, Bind, Close, CopyData, CopyDone, CopyFail, Describe, Execute, Flush, Parse, PasswordMessage, Query, SaslInitialResponse, SaslResponse, Sync, Terminate, Startup, CancelRequest, SslRequest, GssEncRequest, FunctionCall, PasswordKind, Password, Initial, Part, Int32, Key, Pairs, minor_code, parts, framed, tag_of, kind_of, HasMinor, Shape, AByte, AnInt16, AnInt32, AnOid, AText, SomeInt16s, SomeOids, SomeValues, ANullable, AllBytes, AKey, SomePairs, shape, bodies, tagged_bodies, Contents, Faulty, contents_at, made, ended, bind_of, close_of, describe_of, execute_of, function_call_of, parse_of, query_of, copy_fail_of, password_of, sasl_initial_of, reported_of, body_of, startup_of, cancel_of, named, by_code, packet_of, Unread, least, BeginsWithLength, BlamesFrame, IsUnknownPacket, BlamesPacket, SkipsFrame, StopsAt, StopsAtLength, Refuses, Step, ClientError, UnknownPacket, Reading, is_startup}
use mir.Facts.{Fits-of_z}
use Rattle.pgp_frontend_read.proofs.Forms.{coded, plain_code, version_there, version_read, some_is}
use Rattle.pgp_frontend_read.proofs.OneFault.{faulty_err}
use Rattle.pgp_frontend_read.proofs.Steps.{left}
use Rattle.pgp_frontend_read.proofs.Runs.{stands_read, silence, answer, no_message}
use Rattle.pgp_frontend_read.proofs.Refusals.{partial_waits}
use Rattle.pgp_frontend_read.proofs.Headers.{one_length}

abbrev refusal : Error → Result ClientMessage Error
refusal e = Err e

-- ---- frames

ended_read : (m : ClientMessage) (bytes : List ℕ) (e : Error) → Faulty [] bytes e → ended m bytes ≡ Err e
ended_read m [] e f = absurd (f.0 refl)
ended_read m (b ∷ bytes) e f = ap refusal (sym f.1)

form_read : (shapes : List Shape) (make : Contents shapes → ClientMessage) (bytes : List ℕ) (e : Error) → Faulty shapes bytes e → made make (contents_at shapes bytes) ≡ Err e
form_read shapes make bytes e f = ap (made make) (faulty_err shapes bytes e f)

no_fault : (bytes : List ℕ) (e : Error) → Faulty (AllBytes ∷ []) bytes e → ⊥
no_fault bytes e (inl lacks) = lacks
no_fault bytes e (inr (x, rest, first, more)) = more.0 (first.all tt)

password_read : (kind : PasswordKind) (bytes : List ℕ) (e : Error) → Password ≡ kind → Faulty (AText ∷ []) bytes e → reported_of kind bytes ≡ Err e
unfolding password_of
password_read kind bytes e k f = rw (← k) (form_read (AText ∷ []) (λ c. PasswordMessage c.first) bytes e f)

initial_read : (kind : PasswordKind) (bytes : List ℕ) (e : Error) → Initial ≡ kind → Faulty (AText ∷ ANullable ∷ []) bytes e → reported_of kind bytes ≡ Err e
unfolding sasl_initial_of
initial_read kind bytes e k f = rw (← k) (form_read (AText ∷ ANullable ∷ []) (λ c. SaslInitialResponse c.first c.rest.first) bytes e f)

faulty_read : (kind : PasswordKind) (m : ClientMessage) (tag : ℕ) (bytes : List ℕ) (e : Error) → tag_of m ≡ Some tag → IfSome (kind_of m) (λ k. k ≡ kind) → Faulty (map shape (parts m)) bytes e → body_of kind tag bytes ≡ Err e
unfolding body_of bind_of close_of describe_of execute_of function_call_of parse_of query_of copy_fail_of
faulty_read kind (Bind a b c d g) tag bytes e t k f = rw (← some_is 66 tag t) (form_read (AText ∷ AText ∷ SomeInt16s ∷ SomeValues ∷ SomeInt16s ∷ []) (λ c. Bind c.first c.rest.first c.rest.rest.first c.rest.rest.rest.first c.rest.rest.rest.rest.first) bytes e f)
faulty_read kind (Close a b) tag bytes e t k f = rw (← some_is 67 tag t) (form_read (AByte ∷ AText ∷ []) (λ c. Close c.first c.rest.first) bytes e f)
faulty_read kind (Describe a b) tag bytes e t k f = rw (← some_is 68 tag t) (form_read (AByte ∷ AText ∷ []) (λ c. Describe c.first c.rest.first) bytes e f)
faulty_read kind (Execute a b) tag bytes e t k f = rw (← some_is 69 tag t) (form_read (AText ∷ AnInt32 ∷ []) (λ c. Execute c.first c.rest.first) bytes e f)
faulty_read kind (FunctionCall a b c d) tag bytes e t k f = rw (← some_is 70 tag t) (form_read (AnOid ∷ SomeInt16s ∷ SomeValues ∷ AnInt16 ∷ []) (λ c. FunctionCall c.first c.rest.first c.rest.rest.first c.rest.rest.rest.first) bytes e f)
faulty_read kind Flush tag bytes e t k f = rw (← some_is 72 tag t) (ended_read Flush bytes e f)
faulty_read kind (Parse a b c) tag bytes e t k f = rw (← some_is 80 tag t) (form_read (AText ∷ AText ∷ SomeOids ∷ []) (λ c. Parse c.first c.rest.first c.rest.rest.first) bytes e f)
faulty_read kind (Query a) tag bytes e t k f = rw (← some_is 81 tag t) (form_read (AText ∷ []) (λ c. Query c.first) bytes e f)
faulty_read kind Sync tag bytes e t k f = rw (← some_is 83 tag t) (ended_read Sync bytes e f)
faulty_read kind Terminate tag bytes e t k f = rw (← some_is 88 tag t) (ended_read Terminate bytes e f)
faulty_read kind CopyDone tag bytes e t k f = rw (← some_is 99 tag t) (ended_read CopyDone bytes e f)
faulty_read kind (CopyData a) tag bytes e t k f = absurd (no_fault bytes e f)
faulty_read kind (CopyFail a) tag bytes e t k f = rw (← some_is 102 tag t) (form_read (AText ∷ []) (λ c. CopyFail c.first) bytes e f)
faulty_read kind (PasswordMessage a) tag bytes e t k f = rw (← some_is 112 tag t) (password_read kind bytes e k f)
faulty_read kind (SaslInitialResponse a b) tag bytes e t k f = rw (← some_is 112 tag t) (initial_read kind bytes e k f)
faulty_read kind (SaslResponse a) tag bytes e t k f = absurd (no_fault bytes e f)
faulty_read kind (Startup v a) tag bytes e t k f = absurd cc
faulty_read kind (CancelRequest a b) tag bytes e t k f = absurd cc
faulty_read kind SslRequest tag bytes e t k f = absurd cc
faulty_read kind GssEncRequest tag bytes e t k f = absurd cc

unknown_read : (kind : PasswordKind) (tag : ℕ) (bytes : List ℕ) → ((m : ClientMessage) → tag_of m ≢ Some tag) → body_of kind tag bytes ≡ Err (UnknownTag tag)
unfolding body_of
unknown_read kind tag bytes none =
    rw (
      other 66 (Bind [] [] [] [] []) refl,
      other 67 (Close 0 []) refl,
      other 68 (Describe 0 []) refl,
      other 69 (Execute [] (pos 0)) refl,
      other 70 (FunctionCall 0 [] [] (pos 0)) refl,
      other 72 Flush refl,
      other 80 (Parse [] [] []) refl,
      other 81 (Query []) refl,
      other 83 Sync refl,
      other 88 Terminate refl,
      other 99 CopyDone refl,
      other 100 (CopyData []) refl,
      other 102 (CopyFail []) refl,
      other 112 (SaslResponse []) refl,
    ) refl
  where
    other : (n : ℕ) (m : ClientMessage) → tag_of m ≡ Some n → (tag == n) ≡ false
    other n m t = ne_eqb tag n (λ same. none m (t ∙ ap (λ k. Some k) (sym same)))

frame_read : (kind : PasswordKind) (tag : ℕ) (payload : List ℕ) (e : ClientError) → BlamesFrame kind tag payload e → (d : Error) × (e ≡ Reading d) × (body_of kind tag payload ≡ Err d)
frame_read kind tag payload e (inl unknown) = (UnknownTag tag, unknown.0, unknown_read kind tag payload unknown.1)
frame_read kind tag payload e (inr faulty) = (faulty.fault, faulty.name, faulty_read kind faulty.message tag payload faulty.fault faulty.tagged faulty.reported faulty.faulty)

-- ---- opening packets

abbrev name_of : Error → Result ClientMessage ClientError
name_of d = Err (Reading d)

packet_form_read : (code : ℕ) (payload rest : List ℕ) (r : Result ClientMessage Error) (d : Error) → code < 2 ^ 32 → payload ≡ oid code ++ rest → by_code code rest ≡ named r → r ≡ Err d → packet_of payload ≡ Err (Reading d)
packet_form_read code payload rest r d fits whole is refused = coded code rest payload (name_of d) fits whole (is ∙ ap named refused)

record IsPart (code : ℤ) (others : List Part) (c : ℤ) (ps : List Part) : Type 0 where
  pub code_is : c ≡ code
  pub others_are : ps ≡ others

parts_are : (code c : ℤ) (others ps : List Part) → Int32 c ∷ ps ≡ Int32 code ∷ others → IsPart code others c ps
parts_are code c others ps e = record { code_is = cc; others_are = cc }

known_read : (m : ClientMessage) (code : ℤ) (others : List Part) (payload rest : List ℕ) (d : Error) → tag_of m ≡ None → HasMinor m → parts m ≡ Int32 code ∷ others → payload ≡ int32 code ++ rest → Faulty (map shape others) rest d → packet_of payload ≡ Err (Reading d)
unfolding by_code startup_of cancel_of
known_read (Startup v ps) code others payload rest d t minor are whole f =
    let p = parts_are code (minor_code v) others _ are in
    let faulty : Faulty (SomePairs ∷ []) rest d = subst (λ (o : List Part). Faulty (map shape o) rest d) (sym p.others_are) f in
    packet_form_read (196608 + v) payload rest _ d (omega (arith, minor)) (whole ∙ ap (λ c. int32 c ++ rest) (sym p.code_is) ∙ ap (λ l. l ++ rest) (sym (plain_code (196608 + v) (omega (arith, minor)))))
    (version_read (196608 + v) v rest (record { are = refl; small = minor })) (form_read (SomePairs ∷ []) (λ c. Startup v c.first) rest d faulty)
known_read (CancelRequest a b) code others payload rest d t minor are whole f =
    let p = parts_are code (pos 80877102) others _ are in
    let faulty : Faulty (AnInt32 ∷ AKey ∷ []) rest d = subst (λ (o : List Part). Faulty (map shape o) rest d) (sym p.others_are) f in
    packet_form_read 80877102 payload rest _ d (omega arith) (whole ∙ ap (λ c. int32 c ++ rest) (sym p.code_is) ∙ ap (λ l. l ++ rest) (sym (plain_code 80877102 (omega arith)))) refl (form_read (AnInt32 ∷ AKey ∷ []) (λ c. CancelRequest c.first c.rest.first) rest d faulty)
known_read SslRequest code others payload rest d t minor are whole f =
    let p = parts_are code (pos 80877103) others _ are in
    let faulty : Faulty [] rest d = subst (λ (o : List Part). Faulty (map shape o) rest d) (sym p.others_are) f in
    packet_form_read 80877103 payload rest _ d (omega arith) (whole ∙ ap (λ c. int32 c ++ rest) (sym p.code_is) ∙ ap (λ l. l ++ rest) (sym (plain_code 80877103 (omega arith)))) refl (ended_read SslRequest rest d faulty)
known_read GssEncRequest code others payload rest d t minor are whole f =
    let p = parts_are code (pos 80877104) others _ are in
    let faulty : Faulty [] rest d = subst (λ (o : List Part). Faulty (map shape o) rest d) (sym p.others_are) f in
    packet_form_read 80877104 payload rest _ d (omega arith) (whole ∙ ap (λ c. int32 c ++ rest) (sym p.code_is) ∙ ap (λ l. l ++ rest) (sym (plain_code 80877104 (omega arith)))) refl (ended_read GssEncRequest rest d faulty)
known_read _ code others payload rest d t minor are whole f = absurd cc

abbrev unknown : ℤ → Result ClientMessage ClientError
unknown code = Err (UnknownPacket code)

-- the code is none of these
outside : (n : ℕ) (rest : List ℕ) → (n == 80877102) ≡ false → (n == 80877103) ≡ false → (n == 80877104) ≡ false → ((minor : ℕ) → minor < 2 ^ 16 → n ≢ 196608 + minor) → by_code n rest ≡ unknown (cast_signed w32 n)
unfolding by_code
outside n rest a b c none =
    elim (cases_Bool (nat_lt n 196608)) [
      | inl low ↦ rw (a, b, c, low) refl
      | inr from ↦ elim (cases_Bool (nat_le 262144 n)) [
        | inl high ↦ rw (a, b, c, from, high) refl
        | inr below ↦ let v = version_there n from below in absurd (none (n - 196608) v.small v.are)
      ]
    ]

unknown_packet : (payload : List ℕ) (e : ClientError) → IsUnknownPacket payload e → packet_of payload ≡ Err e
unknown_packet payload e u =
    let n : ℕ = cast_unsigned w32 u.code in
    let back : cast_signed w32 n ≡ u.code = to_z-of_z w32 u.code u.fits in
    let whole : payload ≡ oid n ++ u.rest = u.whole ∙ ap (λ l. l ++ u.rest) (int32_spelled u.code) in
    let read : by_code n u.rest ≡ unknown u.code =
    outside n u.rest (other n 80877102 (CancelRequest (pos 0) []) (Int32 (pos 0) ∷ Key [] ∷ []) back refl tt refl refl) (other n 80877103 SslRequest [] back refl tt refl refl) (other n 80877104 GssEncRequest [] back refl tt refl refl) (version n back)
    ∙ ap unknown back in
    coded n u.rest payload (Err e) (omega (arith, Fits-of_z u.fits)) whole (read ∙ ap (λ (x : ClientError). Err x) (sym u.name))
  where
    other : (n k : ℕ) (m : ClientMessage) (ps : List Part) → cast_signed w32 n ≡ u.code → tag_of m ≡ None → HasMinor m → parts m ≡ Int32 (pos k) ∷ ps → cast_signed w32 k ≡ pos k → (n == k) ≡ false
    other n k m ps back t minor are small = ne_eqb n k (λ same. u.unknown m ps t minor (are ∙ ap (λ c. Int32 c ∷ ps) (sym small ∙ ap (cast_signed w32) (sym same) ∙ back)))

    version : (n : ℕ) → cast_signed w32 n ≡ u.code → (minor : ℕ) → minor < 2 ^ 16 → n ≢ 196608 + minor
    version n back minor small same =
        let code : minor_code minor ≡ u.code = sym (to_z_pos w32 (196608 + minor) (omega (arith, small))) ∙ ap (cast_signed w32) (sym same) ∙ back in
        u.unknown (Startup minor []) (Pairs [] ∷ []) refl small (ap (λ c. Int32 c ∷ Pairs [] ∷ []) code)

packet_read : (payload : List ℕ) (e : ClientError) → BlamesPacket payload e → packet_of payload ≡ Err e
packet_read payload e (inl unknown) = unknown_packet payload e unknown
packet_read payload e (inr faulty) =
    known_read faulty.message faulty.code faulty.others payload faulty.rest faulty.fault faulty.untagged faulty.minor faulty.are faulty.whole faulty.faulty ∙ ap (λ (x : ClientError). Err x) (sym faulty.name)

-- ---- lengths

frame_length : (tag : ℕ) (payload rest bytes : List ℕ) → bytes ≡ framed (Some tag) payload ++ rest → length payload + 4 < 2 ^ 31 → BeginsWithLength true bytes (length payload + 4)
frame_length tag payload rest bytes whole fits = record { front = tag ∷ []; rest = payload ++ rest; at = refl; fits = omega (arith, fits); parts = whole ∙ append_assoc (tag ∷ uint32 (length payload + 4)) payload rest }

packet_length : (payload rest bytes : List ℕ) → bytes ≡ framed None payload ++ rest → length payload + 4 < 2 ^ 31 → BeginsWithLength false bytes (length payload + 4)
packet_length payload rest bytes whole fits = record { front = []; rest = payload ++ rest; at = refl; fits = omega (arith, fits); parts = whole ∙ append_assoc (uint32 (length payload + 4)) payload rest }

code_bytes : (payload rest : List ℕ) (code : ℤ) → payload ≡ int32 code ++ rest → 4 ≤ length payload
code_bytes payload rest code whole = omega (arith, ap length whole, length-append (int32 code) rest, ap length (int32_spelled code), length-uint32 (cast_unsigned w32 code))

has_code : (payload : List ℕ) (e : ClientError) → BlamesPacket payload e → 4 ≤ length payload
has_code payload e (inl unknown) = code_bytes payload unknown.rest unknown.code unknown.whole
has_code payload e (inr faulty) = code_bytes payload faulty.rest faulty.code faulty.whole

-- a length that no message has isn't that of a whole one
fault_frame : (kind : PasswordKind) (old new here : Unread) (d e : ClientError) → StopsAtLength old d new → SkipsFrame kind old e here → ⊥
fault_frame kind old new here d e a b =
    let begins : BeginsWithLength old.opened old.bytes (length b.payload + 4) = subst (λ (o : Bool). BeginsWithLength o old.bytes (length b.payload + 4)) (sym b.phase) (frame_length b.tag b.payload here.bytes old.bytes b.whole b.fits) in
    let same = one_length old.opened old.bytes a.fault.len (length b.payload + 4) a.fault.begins begins in
    elim a.fault.wrong [ inl small ↦ omega (arith, same, subst (λ (o : Bool). a.fault.len < least o) b.phase small) | inr large ↦ omega (arith, same, large, b.fits) ]

fault_packet : (old new here : Unread) (d e : ClientError) → StopsAtLength old d new → StopsAt old e here → ⊥
fault_packet old new here d e a b =
    let begins : BeginsWithLength old.opened old.bytes (length b.payload + 4) = subst (λ (o : Bool). BeginsWithLength o old.bytes (length b.payload + 4)) (sym b.phase) (packet_length b.payload b.rest old.bytes b.whole b.fits) in
    let same = one_length old.opened old.bytes a.fault.len (length b.payload + 4) a.fault.begins begins in
    elim a.fault.wrong [ inl small ↦ omega (arith, same, has_code b.payload e b.blames, subst (λ (o : Bool). a.fault.len < least o) b.phase small) | inr large ↦ omega (arith, same, large, b.fits) ]

-- ---- one answer

unread_is : (a b : Unread) → a.bytes ≡ b.bytes → a.opened ≡ b.opened → a ≡ b
unread_is a b e f = ap (λ x. left x a.opened) e ∙ ap (λ (o : Bool). left b.bytes o) f

same_fault : (d e : Error) → refusal d ≡ refusal e → d ≡ e
same_fault d e h = cc

abbrev refused : ClientError → Result ClientMessage ClientError
refused e = Err e

same_refusal : (d e : ClientError) → refused d ≡ refused e → d ≡ e
same_refusal d e h = cc

both_phases : (o : Bool) → o ≡ true → o ≡ false → ⊥
both_phases true e f = cc
both_phases false e f = cc

module _ (kind : PasswordKind) (old new here : Unread) (d e : ClientError) where
  frames_one : SkipsFrame kind old d new → SkipsFrame kind old e here → (d ≡ e) × (new ≡ here)
  frames_one a b =
      let same = tagged_bodies a.tag b.tag a.payload b.payload new.bytes here.bytes (omega (arith, a.fits)) (omega (arith, b.fits)) (sym a.whole ∙ b.whole) in
      let r = frame_read kind a.tag a.payload d a.blames in
      let s = frame_read kind b.tag b.payload e b.blames in
      let body : body_of kind a.tag a.payload ≡ body_of kind b.tag b.payload = ap (λ n. body_of kind n a.payload) same.0 ∙ ap (body_of kind b.tag) same.1 in
      let fault : r.0 ≡ s.0 = same_fault r.0 s.0 (sym r.2 ∙ body ∙ s.2) in
      (r.1 ∙ ap (λ (x : Error). Reading x) fault ∙ sym s.1, unread_is new here same.2 (a.same ∙ sym b.same))

  packets_one : StopsAt old d new → StopsAt old e here → (d ≡ e) × (new ≡ here)
  packets_one a b =
      let same = bodies a.payload b.payload a.rest b.rest (omega (arith, a.fits)) (omega (arith, b.fits)) (sym a.whole ∙ b.whole) in
      (same_refusal d e (sym (packet_read a.payload d a.blames) ∙ ap packet_of same.0 ∙ packet_read b.payload e b.blames), a.same ∙ sym b.same)

  refusals_one : Refuses kind old d new → Refuses kind old e here → (d ≡ e) × (new ≡ here)
  refusals_one a b = by a.left b.left
    where
      by : StopsAtLength old d new ⊎ (SkipsFrame kind old d new ⊎ StopsAt old d new) → StopsAtLength old e here ⊎ (SkipsFrame kind old e here ⊎ StopsAt old e here) → (d ≡ e) × (new ≡ here)
      by (inl a) (inl b) = (a.name ∙ sym b.name, a.same ∙ sym b.same)
      by (inl a) (inr (inl b)) = absurd (fault_frame kind old new here d e a b)
      by (inl a) (inr (inr b)) = absurd (fault_packet old new here d e a b)
      by (inr (inl a)) (inl b) = absurd (fault_frame kind old here new e d b a)
      by (inr (inr a)) (inl b) = absurd (fault_packet old here new e d b a)
      by (inr (inl a)) (inr (inl b)) = frames_one a b
      by (inr (inl a)) (inr (inr b)) = absurd (both_phases old.opened a.phase b.phase)
      by (inr (inr a)) (inr (inl b)) = absurd (both_phases old.opened b.phase a.phase)
      by (inr (inr a)) (inr (inr b)) = packets_one a b

abbrev error : ClientError → Result (Option ClientMessage) ClientError
error e = Err e

no_error : (d : ClientError) → error d ≡ silence → ⊥
no_error d e = cc

not_both : (d : ClientError) (m : ClientMessage) → error d ≡ answer m → ⊥
not_both d m e = cc

pub step_one : (kind : PasswordKind) (old new here : Unread) (r s : Result (Option ClientMessage) ClientError) → Step kind old r new → Step kind old s here → (r ≡ s) × (new ≡ here)
step_one kind old new here (Ok (Some m)) s h k =
    let read = stands_read kind old.opened old.bytes new.bytes m s here h.stands k in
    (sym read.0, unread_is new (left new.bytes (old.opened || is_startup m)) refl h.phase ∙ sym read.1)
step_one kind old new here (Ok None) (Ok (Some m)) h k = absurd (no_message m (partial_waits kind old.opened old.bytes (Ok (Some m)) here h.0 k))
step_one kind old new here (Ok None) (Ok None) h k = (refl, h.1 ∙ sym k.1)
step_one kind old new here (Ok None) (Err e) h k = absurd (no_error e (partial_waits kind old.opened old.bytes (Err e) here h.0 k))
step_one kind old new here (Err d) (Ok (Some m)) h k = absurd (not_both d m (stands_read kind old.opened old.bytes here.bytes m (Err d) new k.stands h).0)
step_one kind old new here (Err d) (Ok None) h k = absurd (no_error d (partial_waits kind old.opened old.bytes (Err d) new k.0 h))
step_one kind old new here (Err d) (Err e) h k =
    let one = refusals_one kind old new here d e h k in
    (ap error one.0, one.1)
