-- The parts of a message stand where they are reported to.
use Rattle.for_c.proofs.Common.{◌≡◌, ℕ, ℤ, pos, ◌+◌, ◌-◌, ◌≤◌, List, [], ◌∷◌, ◌++◌, length, take, drop, Option, Some, None, Result, Ok, Err, refl, sym, ap, ◌∙◌, subst, arith, ◌≢◌, take-append_seam, drop-append_seam, append-nil, length-drop, length-take, uint16, uint32, int32, text, Error, int32_number, uint16_number, AuthenticationOk, AuthenticationKerberosV5, AuthenticationCleartextPassword, AuthenticationMd5Password, AuthenticationScmCredential, AuthenticationGss, AuthenticationGssContinue, AuthenticationSspi, AuthenticationSasl, AuthenticationSaslContinue, AuthenticationSaslFinal, Message, NegotiateProtocolVersion, NotificationResponse, CommandComplete, DataRow, ErrorResponse, CopyInResponse, CopyOutResponse, BackendKeyData, NoticeResponse, Authentication, ParameterStatus, RowDescription, ReadyForQuery, ParameterDescription, payload_of, IsMissing, missing_from, IsInside, no_parts, part, stands}
use Rattle.std.proofs.lemmas.List.{length-append, append_assoc}
use Rattle.pgp_base.specs.declared.error.Error.TheVariants as errors
use Rattle.pgp_message.specs.BackendMessage.{CopyData}
use Rattle.pgp_message.specs.Stream.{Frame, frame_bytes, TakesFrame, Step}
use Rattle.for_c.specs.declared.front.PgpMessage.{PgpMessage}
use Rattle.for_c.specs.declared.front.PgpParts.{PgpParts}
use Rattle.for_c.specs.Front.{CallResult, CopyBoth, CutShort, Misses, Reported, Says, SaysUnread, Unknown}
use Rattle.for_c.proofs.Announced.{of_server}
use Rattle.for_c.specs.Parts.{Shows, kind_of}
use Rattle.for_c.specs.Places.{place, two_texts}

-- both parts lie inside the frame
abbrev AreInside : ℕ → PgpParts → Type 0
AreInside frame p = IsInside frame p.first × IsInside frame p.second

module _ (bytes new : List ℕ) (f : Frame) (whole : bytes ≡ frame_bytes f ++ new) where
  abbrev head : List ℕ
  head = f.tag ∷ uint32 (length f.payload + 4)

  head_length : length head ≡ 5
  unfolding uint32
  head_length = refl

  -- what stands after the header and the front of the payload
  behind : (front rest : List ℕ) (n : ℕ) → f.payload ≡ front ++ rest → n ≡ 5 + length front → drop n bytes ≡ rest ++ new
  behind front rest n pay at =
      let e : bytes ≡ (head ++ front) ++ (rest ++ new) =
      whole ∙ ap (λ p. (head ++ p) ++ new) pay ∙ ap (λ x. x ++ new) (sym (append_assoc head front rest)) ∙ append_assoc (head ++ front) rest new in
      let count : n ≡ length (head ++ front) = omega (arith, at, head_length, length-append head front) in
      ap (λ i. drop i bytes) count ∙ ap (λ l. drop (length (head ++ front)) l) e ∙ drop-append_seam (head ++ front) (rest ++ new)

  sits : (front mid back : List ℕ) (n k : ℕ) → f.payload ≡ front ++ (mid ++ back) → n ≡ 5 + length front → k ≡ length mid → take k (drop n bytes) ≡ mid
  sits front mid back n k pay at len =
      let e = behind front (mid ++ back) n pay at ∙ append_assoc mid back new in
      ap (λ i. take i (drop n bytes)) len ∙ ap (λ l. take (length mid) l) e ∙ take-append_seam mid (back ++ new)

  -- how long the frame is
  frame_length : (frame : ℕ) → frame ≡ length bytes - length new → frame ≡ 5 + length f.payload
  frame_length frame is = omega (arith, is, ap length whole, length-append (head ++ f.payload) new, length-append head f.payload, head_length)

  -- what ends the payload
  last : (front rest : List ℕ) (n frame : ℕ) → frame ≡ length bytes - length new → f.payload ≡ front ++ rest → n ≡ 5 + length front → take (frame - n) (drop n bytes) ≡ rest
  last front rest n frame is pay at =
      sits front rest [] n (frame - n) (pay ∙ ap (λ l. front ++ l) (sym (append-nil rest))) at (omega (arith, frame_length frame is, at, ap length pay, length-append front rest))

  module _ (front a b : List ℕ) (at frame : ℕ) (is : frame ≡ length bytes - length new) (pay : f.payload ≡ front ++ (text a ++ text b)) (place_is : at ≡ 5 + length front) where
    abbrev texts : PgpParts
    texts = two_texts at a b frame

    lengths : frame ≡ 5 + length front + length a + 1 + length b + 1
    lengths = omega (arith, frame_length frame is, ap length pay, length-append front (text a ++ text b), length-append (text a) (text b), length-append a (0 ∷ []), length-append b (0 ∷ []))

    first_stands : stands bytes texts.first ≡ a
    first_stands = sits front a (0 ∷ text b) at (length a) (pay ∙ ap (λ l. front ++ l) (append_assoc a (0 ∷ []) (text b))) place_is refl

    second_stands : stands bytes texts.second ≡ b
    second_stands =
        sits (front ++ text a) b (0 ∷ []) (frame - 1 - length b) (length b) (pay ∙ sym (append_assoc front (text a) (text b)))
        (omega (arith, lengths, length-append front (text a), length-append a (0 ∷ []))) refl

    texts_fit : AreInside frame texts
    texts_fit = (omega (arith, lengths, place_is), omega (arith, lengths))

  module _ (frame : ℕ) (is : frame ≡ length bytes - length new) where
    -- what ends the payload lies inside the frame
    rest_fits : (n : ℕ) → n ≤ 5 + length f.payload → IsInside frame (part n (frame - n))
    rest_fits n few = omega (arith, few, frame_length frame is)

    behind_fits : (front rest : List ℕ) (n : ℕ) → f.payload ≡ (front ++ rest) ++ [] → n ≡ 5 + length front → IsInside frame (part n (frame - n))
    behind_fits front rest n pay at = rest_fits n (omega (arith, at, ap length pay, length-append (front ++ rest) [], length-append front rest))

    number_fits : (n : ℤ) (b : List ℕ) → f.payload ≡ (int32 n ++ b) ++ [] → IsInside frame (part 9 (frame - 9))
    number_fits n b pay = behind_fits (int32 n) b 9 pay (ap (λ n. 5 + n) (sym (int32_number.len n)))

    pub count_fits : (count : ℕ) (b : List ℕ) → f.payload ≡ (uint16 count ++ b) ++ [] → IsInside frame (part 7 (frame - 7))
    count_fits count b pay = behind_fits (uint16 count) b 7 pay (ap (λ n. 5 + n) (sym (uint16_number.len count)))

    formats_fit : (format count : ℕ) (b : List ℕ) → f.payload ≡ (format ∷ uint16 count ++ b) ++ [] → IsInside frame (part 8 (frame - 8))
    unfolding uint16
    formats_fit format count b pay = behind_fits (format ∷ uint16 count) b 8 pay refl

    -- the payload is the parts, with nothing after them
    alone : (m : Message) → f.payload ≡ payload_of m ++ [] → f.payload ≡ payload_of m
    alone m e = e ∙ append-nil (payload_of m)

    -- what stands after the code of a request
    detail : (code : ℕ) (b : List ℕ) → f.payload ≡ (int32 (pos code) ++ b) ++ [] → take (frame - 9) (drop 9 bytes) ≡ b
    detail code b e = last (int32 (pos code)) b 9 frame is (e ∙ append-nil (int32 (pos code) ++ b)) (ap (λ n. 5 + n) (sym (int32_number.len (pos code))))

    storage : (count : ℕ) (b : List ℕ) → f.payload ≡ (uint16 count ++ b) ++ [] → take (frame - 7) (drop 7 bytes) ≡ b
    storage count b e = last (uint16 count) b 7 frame is (e ∙ append-nil (uint16 count ++ b)) (ap (λ n. 5 + n) (sym (uint16_number.len count)))

    formats : (format count : ℕ) (b : List ℕ) → f.payload ≡ (format ∷ uint16 count ++ b) ++ [] → take (frame - 8) (drop 8 bytes) ≡ b
    unfolding uint16
    formats format count b e = last (format ∷ uint16 count) b 8 frame is (e ∙ append-nil (format ∷ uint16 count ++ b)) refl

-- the parts of a message that was taken stand where `place` says
shows : (bytes new : List ℕ) (m : Message) (frame : ℕ) → frame ≡ length bytes - length new → TakesFrame bytes (Ok m) new → Shows bytes m (place m frame)
shows bytes new (CommandComplete tag) frame is t =
    let e = alone bytes new t.first t.whole frame is (CommandComplete tag) t.body.parts in
    (refl, sits bytes new t.first t.whole [] tag (0 ∷ []) 5 (frame - 6) e refl (omega (arith, frame_length bytes new t.first t.whole frame is, ap length e, length-append tag (0 ∷ []))))
shows bytes new (ErrorResponse b) frame is t = (refl, last bytes new t.first t.whole [] b 5 frame is (t.body.parts ∙ append-nil b) refl)
shows bytes new (NoticeResponse b) frame is t = (refl, last bytes new t.first t.whole [] b 5 frame is (t.body.parts ∙ append-nil b) refl)
shows bytes new (CopyData b) frame is t = (refl, last bytes new t.first t.whole [] b 5 frame is (t.body.parts ∙ append-nil b) refl)
shows bytes new (Authentication (AuthenticationGssContinue b)) frame is t = (refl, detail bytes new t.first t.whole frame is 8 b t.body.parts)
shows bytes new (Authentication (AuthenticationSasl b)) frame is t = (refl, detail bytes new t.first t.whole frame is 10 b t.body.parts)
shows bytes new (Authentication (AuthenticationSaslContinue b)) frame is t = (refl, detail bytes new t.first t.whole frame is 11 b t.body.parts)
shows bytes new (Authentication (AuthenticationSaslFinal b)) frame is t = (refl, detail bytes new t.first t.whole frame is 12 b t.body.parts)
shows bytes new (Authentication (AuthenticationMd5Password salt)) frame is t =
    (refl, sits bytes new t.first t.whole (int32 (pos 5)) salt [] 9 4 (t.body.parts ∙ append_assoc (int32 (pos 5)) salt []) (ap (λ n. 5 + n) (sym (int32_number.len (pos 5)))) (sym t.body.fits))
shows bytes new (DataRow row) frame is t = (refl, storage bytes new t.first t.whole frame is row.count row.storage t.body.parts)
shows bytes new (RowDescription row) frame is t = (refl, storage bytes new t.first t.whole frame is row.count row.storage t.body.parts)
shows bytes new (ParameterDescription row) frame is t = (refl, storage bytes new t.first t.whole frame is row.count row.storage t.body.parts)
shows bytes new (CopyInResponse copy) frame is t = (refl, formats bytes new t.first t.whole frame is copy.format copy.count copy.storage t.body.parts)
shows bytes new (CopyOutResponse copy) frame is t = (refl, formats bytes new t.first t.whole frame is copy.format copy.count copy.storage t.body.parts)
shows bytes new (BackendKeyData key) frame is t =
    let e = alone bytes new t.first t.whole frame is (BackendKeyData key) t.body.parts in
    (refl, last bytes new t.first t.whole (int32 key.process_id) key.secret_key 9 frame is e (ap (λ n. 5 + n) (sym (int32_number.len key.process_id))))
shows bytes new (NegotiateProtocolVersion n) frame is t =
    let e = alone bytes new t.first t.whole frame is (NegotiateProtocolVersion n) t.body.parts in
    let at : 13 ≡ 5 + length (int32 n.version ++ int32 (pos n.count)) = omega (arith, length-append (int32 n.version) (int32 (pos n.count)), int32_number.len n.version, int32_number.len (pos n.count)) in
    (refl, last bytes new t.first t.whole (int32 n.version ++ int32 (pos n.count)) n.options 13 frame is e at)
shows bytes new (ReadyForQuery status) frame is t = refl
shows bytes new (ParameterStatus s) frame is t =
    let e = alone bytes new t.first t.whole frame is (ParameterStatus s) t.body.parts in
    (refl, first_stands bytes new t.first t.whole [] s.name s.value 5 frame is e refl, second_stands bytes new t.first t.whole [] s.name s.value 5 frame is e refl)
shows bytes new (NotificationResponse n) frame is t =
    let e = alone bytes new t.first t.whole frame is (NotificationResponse n) t.body.parts ∙ append_assoc (int32 n.process_id) (text n.channel) (text n.message) in
    let at : 9 ≡ 5 + length (int32 n.process_id) = ap (λ n. 5 + n) (sym (int32_number.len n.process_id)) in
    (refl, first_stands bytes new t.first t.whole (int32 n.process_id) n.channel n.message 9 frame is e at, second_stands bytes new t.first t.whole (int32 n.process_id) n.channel n.message 9 frame is e at)
shows bytes new (Authentication AuthenticationOk) frame is t = refl
shows bytes new (Authentication AuthenticationKerberosV5) frame is t = refl
shows bytes new (Authentication AuthenticationCleartextPassword) frame is t = refl
shows bytes new (Authentication AuthenticationScmCredential) frame is t = refl
shows bytes new (Authentication AuthenticationGss) frame is t = refl
shows bytes new (Authentication AuthenticationSspi) frame is t = refl
shows bytes new m frame is t = refl

-- and lie inside the frame
inside : (bytes new : List ℕ) (m : Message) (frame : ℕ) → frame ≡ length bytes - length new → TakesFrame bytes (Ok m) new → AreInside frame (place m frame)
inside bytes new (CommandComplete tag) frame is t = (omega (arith, frame_length bytes new t.first t.whole frame is), omega arith)
inside bytes new (ErrorResponse b) frame is t = (rest_fits bytes new t.first t.whole frame is 5 (omega arith), omega arith)
inside bytes new (NoticeResponse b) frame is t = (rest_fits bytes new t.first t.whole frame is 5 (omega arith), omega arith)
inside bytes new (CopyData b) frame is t = (rest_fits bytes new t.first t.whole frame is 5 (omega arith), omega arith)
inside bytes new (Authentication (AuthenticationGssContinue b)) frame is t = (number_fits bytes new t.first t.whole frame is (pos 8) b t.body.parts, omega arith)
inside bytes new (Authentication (AuthenticationSasl b)) frame is t = (number_fits bytes new t.first t.whole frame is (pos 10) b t.body.parts, omega arith)
inside bytes new (Authentication (AuthenticationSaslContinue b)) frame is t = (number_fits bytes new t.first t.whole frame is (pos 11) b t.body.parts, omega arith)
inside bytes new (Authentication (AuthenticationSaslFinal b)) frame is t = (number_fits bytes new t.first t.whole frame is (pos 12) b t.body.parts, omega arith)
inside bytes new (Authentication (AuthenticationMd5Password salt)) frame is t =
    (omega (arith, frame_length bytes new t.first t.whole frame is, ap length t.body.parts, length-append (int32 (pos 5) ++ salt) [], length-append (int32 (pos 5)) salt, int32_number.len (pos 5), t.body.fits), omega arith)
inside bytes new (DataRow row) frame is t = (count_fits bytes new t.first t.whole frame is row.count row.storage t.body.parts, omega arith)
inside bytes new (RowDescription row) frame is t = (count_fits bytes new t.first t.whole frame is row.count row.storage t.body.parts, omega arith)
inside bytes new (ParameterDescription row) frame is t = (count_fits bytes new t.first t.whole frame is row.count row.storage t.body.parts, omega arith)
inside bytes new (CopyInResponse copy) frame is t = (formats_fit bytes new t.first t.whole frame is copy.format copy.count copy.storage t.body.parts, omega arith)
inside bytes new (CopyOutResponse copy) frame is t = (formats_fit bytes new t.first t.whole frame is copy.format copy.count copy.storage t.body.parts, omega arith)
inside bytes new (BackendKeyData key) frame is t = (number_fits bytes new t.first t.whole frame is key.process_id key.secret_key t.body.parts, omega arith)
inside bytes new (NegotiateProtocolVersion n) frame is t =
    let at : 13 ≡ 5 + length (int32 n.version ++ int32 (pos n.count)) = omega (arith, length-append (int32 n.version) (int32 (pos n.count)), int32_number.len n.version, int32_number.len (pos n.count)) in
    (behind_fits bytes new t.first t.whole frame is (int32 n.version ++ int32 (pos n.count)) n.options 13 t.body.parts at, omega arith)
inside bytes new (ParameterStatus s) frame is t =
    let e = alone bytes new t.first t.whole frame is (ParameterStatus s) t.body.parts in
    texts_fit bytes new t.first t.whole [] s.name s.value 5 frame is e refl
inside bytes new (NotificationResponse n) frame is t =
    let e = alone bytes new t.first t.whole frame is (NotificationResponse n) t.body.parts ∙ append_assoc (int32 n.process_id) (text n.channel) (text n.message) in
    let at : 9 ≡ 5 + length (int32 n.process_id) = ap (λ n. 5 + n) (sym (int32_number.len n.process_id)) in
    texts_fit bytes new t.first t.whole (int32 n.process_id) n.channel n.message 9 frame is e at
inside bytes new (ReadyForQuery status) frame is t = (omega arith, omega arith)
inside bytes new (Authentication AuthenticationOk) frame is t = (omega arith, omega arith)
inside bytes new (Authentication AuthenticationKerberosV5) frame is t = (omega arith, omega arith)
inside bytes new (Authentication AuthenticationCleartextPassword) frame is t = (omega arith, omega arith)
inside bytes new (Authentication AuthenticationScmCredential) frame is t = (omega arith, omega arith)
inside bytes new (Authentication AuthenticationGss) frame is t = (omega arith, omega arith)
inside bytes new (Authentication AuthenticationSspi) frame is t = (omega arith, omega arith)
inside bytes new m frame is t = (omega arith, omega arith)

-- what is left is what stands after the frame
left : (bytes new : List ℕ) → (e : Error) → TakesFrame bytes (Err e) new → drop (length bytes - length new) bytes ≡ new
left bytes new e t =
    let count : length bytes - length new ≡ length (frame_bytes t.first) = omega (arith, ap length t.whole, length-append (frame_bytes t.first) new) in
    ap (λ i. drop i bytes) count ∙ ap (λ l. drop (length (frame_bytes t.first)) l) t.whole ∙ drop-append_seam (frame_bytes t.first) new

pub left_of : (bytes new : List ℕ) → (m : Message) → TakesFrame bytes (Ok m) new → drop (length bytes - length new) bytes ≡ new
left_of bytes new m t =
    let count : length bytes - length new ≡ length (frame_bytes t.first) = omega (arith, ap length t.whole, length-append (frame_bytes t.first) new) in
    ap (λ i. drop i bytes) count ∙ ap (λ l. drop (length (frame_bytes t.first)) l) t.whole ∙ drop-append_seam (frame_bytes t.first) new

pub none_left : (bytes new : List ℕ) → new ≡ bytes → drop (length bytes - length new) bytes ≡ new
none_left bytes new e = let none : length bytes - length new ≡ 0 = omega (arith, ap length e) in ap (λ i. drop i bytes) none ∙ sym e

rest_is : (bytes new : List ℕ) (r : Result (Option Message) Error) → Step ⊥ bytes r new → drop (length bytes - length new) bytes ≡ new
rest_is bytes new (Ok None) s = none_left bytes new s.1
rest_is bytes new (Ok (Some m)) s = left_of bytes new m s
rest_is bytes new (Err errors.InvalidLength) s = none_left bytes new s.1
rest_is bytes new (Err errors.OutOfMemory) s = absurd s.1
rest_is bytes new (Err e) s = left bytes new e s

-- what is reported, by the places of the parts
abbrev pub Placed : List ℕ → Result (Option Message) Error → PgpMessage → ℕ → Type 0
Placed bytes (Ok None) p code = (p.parts ≡ no_parts) × (p.kind ≡ 0) × (code ≡ 100)
Placed bytes (Ok (Some m)) p code = (p.parts ≡ place m p.frame) × (p.kind ≡ kind_of m) × (code ≡ 0)
Placed bytes (Err e) p code = SaysUnread bytes p.frame p.tag e p.parts p.kind code

says : (bytes new : List ℕ) (r : Result (Option Message) Error) (p : PgpMessage) (code : ℕ) → p.frame ≡ length bytes - length new → Step ⊥ bytes r new → Placed bytes r p code → Says bytes r p code
says bytes new (Ok None) p code is s at = at
says bytes new (Ok (Some m)) p code is s at = (subst (λ (q : _). Shows bytes m q) (sym at.0) (shows bytes new m p.frame is s), at.1, at.2)
says bytes new (Err e) p code is s at = at

-- a frame that is rejected has a header
headed : (bytes new : List ℕ) (e : Error) (frame : ℕ) → frame ≡ length bytes - length new → Step ⊥ bytes (Err e) new → frame ≢ 0 → 5 ≤ frame
headed bytes new errors.InvalidLength frame is s some = absurd (some (omega (arith, is, ap length s.1)))
headed bytes new errors.OutOfMemory frame is s some = absurd s.1
headed bytes new e frame is s some = omega (arith, frame_length bytes new s.first s.whole frame is)

inside_unread : (bytes : List ℕ) (frame tag : ℕ) (e : Error) (parts : PgpParts) (kind code : ℕ) → (frame ≢ 0 → 5 ≤ frame) → (frame ≡ 0 → tag ≡ 0) → SaysUnread bytes frame tag e parts kind code → AreInside frame parts
inside_unread bytes frame tag e parts kind code head none (CopyBoth c t small payload) =
    (omega (arith, ap length payload, length-drop 5 (take frame bytes), length-take frame bytes, length-append (uint16 c.count) c.storage, uint16_number.len c.count), omega arith)
inside_unread bytes frame tag e parts kind code head none (CutShort t short) = (omega arith, omega arith)
inside_unread bytes frame tag e parts kind code head none (CallResult t) = (omega (arith, head (λ z. absurd (omega (arith, t, none z)))), omega arith)
inside_unread bytes frame tag e parts kind code head none (Unknown t u) = (omega arith, omega arith)

inside_all : (bytes new : List ℕ) (r : Result (Option Message) Error) (p : PgpMessage) (code : ℕ) → p.frame ≡ length bytes - length new → Step ⊥ bytes r new → (p.frame ≡ 0 → p.tag ≡ 0) → Placed bytes r p code → AreInside p.frame p.parts
inside_all bytes new (Ok None) p code is s none at = subst (λ (q : _). AreInside p.frame q) (sym at.0) (omega arith, omega arith)
inside_all bytes new (Ok (Some m)) p code is s none at = subst (λ (q : _). AreInside p.frame q) (sym at.0) (inside bytes new m p.frame is s)
inside_all bytes new (Err e) p code is s none at = inside_unread bytes p.frame p.tag e p.parts p.kind code (headed bytes new e p.frame is s) none at

-- and how many bytes are missing
abbrev pub missing_reported : List ℕ → Result (Option Message) Error → ℕ
missing_reported bytes (Ok None) = missing_from (drop 1 bytes)
missing_reported bytes r = 0

misses : (bytes new : List ℕ) (r : Result (Option Message) Error) (missing : ℕ) → Step ⊥ bytes r new → missing ≡ missing_reported bytes r → Misses bytes r missing
misses bytes new (Ok None) missing s is = subst (λ n. IsMissing 1 bytes n) (sym is) (of_server bytes s.0)
misses bytes new (Ok (Some m)) missing s is = is
misses bytes new (Err e) missing s is = is

pub reported : (bytes new : List ℕ) (r : Result (Option Message) Error) (p : PgpMessage) (code : ℕ) → p.frame ≡ length bytes - length new → Step ⊥ bytes r new → p.missing ≡ missing_reported bytes r → Placed bytes r p code
    → (p.frame ≢ 0 → p.frame ≤ length bytes → (rest : List ℕ) × (bytes ≡ p.tag ∷ rest)) → (p.frame ≡ 0 → p.tag ≡ 0) → Reported bytes p code
reported bytes new r p code is s missing_is at tag none =
    let within : p.frame ≤ length bytes = omega (arith, is) in
    record {
      result = r;
      step = subst (λ l. Step ⊥ bytes r l) (sym (ap (λ i. drop i bytes) is ∙ rest_is bytes new r s)) s;
      within = within;
      says = says bytes new r p code is s at;
      missing = misses bytes new r p.missing s missing_is;
      first_inside = (inside_all bytes new r p code is s none at).0;
      second_inside = (inside_all bytes new r p code is s none at).1;
      tag_is = λ some. tag some within;
      no_tag = none;
    }
