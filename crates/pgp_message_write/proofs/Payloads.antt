-- A message that has no cause is read from its parts.
use Rattle.pgp_message_write.proofs.Common.{◌≡◌, ℕ, ◌+◌, ◌≤◌, List, [], ◌∷◌, ◌++◌, length, None, Some, refl, sym, ap, ◌∙◌, append_assoc, pos, inl, inr, nat_le, if◌then◌else◌, int32, uint16, text, text_cause, length_cause, either_left, either_right, Request, Message, tag_of, payload_of, code_of, details_of, Fits, Spells, AuthenticationOk, AuthenticationKerberosV5, AuthenticationCleartextPassword, AuthenticationMd5Password, AuthenticationScmCredential, AuthenticationGss, AuthenticationGssContinue, AuthenticationSspi, AuthenticationSasl, AuthenticationSaslContinue, AuthenticationSaslFinal, ParseComplete, BindComplete, CloseComplete, NotificationResponse, CommandComplete, DataRow, ErrorResponse, CopyInResponse, CopyOutResponse, EmptyQueryResponse, BackendKeyData, NegotiateProtocolVersion, NoticeResponse, Authentication, ParameterStatus, RowDescription, ReadyForQuery, CopyDone, CopyData, NoData, PortalSuspended, ParameterDescription, joined, parts_cause, key_cause, parts, cause, IsInRange}
use Rattle.std.proofs.Common.{append-nil}
use Rattle.std.proofs.lemmas.Bool.{leb-true, cases_Bool}
use Rattle.pgp_base.specs.declared.error.Error.TheVariants.{InvalidSize}
use Rattle.pgp_base.proofs.Spellings.{without_zero}

-- a key that has no cause has 4 to 256 bytes
key_fits : (n : ℕ) → key_cause n ≡ None → (4 ≤ n) × (n ≤ 256)
key_fits n h =
    elim (cases_Bool (nat_le 4 n)) [
      | inl t ↦
          let inner : (if nat_le n 256 then None else Some InvalidSize) ≡ None = rw t at h in
          (leb-true 4 n t, elim (cases_Bool (nat_le n 256)) [ inl u ↦ leb-true n 256 u | inr f ↦ let e : Some InvalidSize ≡ None = rw f at inner in cc ])
      | inr f ↦ let e : Some InvalidSize ≡ None = rw f at h in cc
    ]

fits_of : (m : Message) → IsInRange m → parts_cause (parts m) ≡ None → Fits m
fits_of ParseComplete r c = tt
fits_of BindComplete r c = tt
fits_of CloseComplete r c = tt
fits_of (NotificationResponse n) r c =
    (r, without_zero n.channel (either_left (text_cause n.channel) _ c), without_zero n.message (either_left (text_cause n.message) None (either_right (text_cause n.channel) _ c)))
fits_of (CommandComplete tag) r c = without_zero tag (either_left (text_cause tag) None c)
fits_of (DataRow row) r c = r
fits_of (ErrorResponse bytes) r c = tt
fits_of (CopyInResponse copy) r c = r
fits_of (CopyOutResponse copy) r c = r
fits_of EmptyQueryResponse r c = tt
fits_of (BackendKeyData key) r c =
    let k = key_fits (length key.secret_key) (either_left (key_cause (length key.secret_key)) None c) in
    (r, k.0, k.1)
fits_of (NegotiateProtocolVersion n) r c = r
fits_of (NoticeResponse bytes) r c = tt
fits_of (Authentication AuthenticationOk) r c = tt
fits_of (Authentication AuthenticationKerberosV5) r c = tt
fits_of (Authentication AuthenticationCleartextPassword) r c = tt
fits_of (Authentication (AuthenticationMd5Password salt)) r c = r
fits_of (Authentication AuthenticationScmCredential) r c = tt
fits_of (Authentication AuthenticationGss) r c = tt
fits_of (Authentication (AuthenticationGssContinue bytes)) r c = tt
fits_of (Authentication AuthenticationSspi) r c = tt
fits_of (Authentication (AuthenticationSasl bytes)) r c = tt
fits_of (Authentication (AuthenticationSaslContinue bytes)) r c = tt
fits_of (Authentication (AuthenticationSaslFinal bytes)) r c = tt
fits_of (ParameterStatus s) r c =
    (without_zero s.name (either_left (text_cause s.name) _ c), without_zero s.value (either_left (text_cause s.value) None (either_right (text_cause s.name) _ c)))
fits_of (RowDescription row) r c = r
fits_of (ReadyForQuery status) r c = tt
fits_of CopyDone r c = tt
fits_of (CopyData bytes) r c = tt
fits_of NoData r c = tt
fits_of PortalSuspended r c = tt
fits_of (ParameterDescription row) r c = r

last : (z : List ℕ) → z ≡ z ++ []
last z = sym (append-nil z)

behind : (a z : List ℕ) → a ++ z ≡ a ++ (z ++ [])
behind a z = ap (λ l. a ++ l) (last z)

-- three parts
texts_behind : (a b z : List ℕ) → a ++ b ++ z ≡ a ++ (b ++ (z ++ []))
texts_behind a b z = append_assoc a b z ∙ ap (λ l. a ++ l) (behind b z)

request_is : (r : Request) → payload_of (Authentication r) ≡ joined (parts (Authentication r))
request_is r = behind (int32 (pos (code_of r))) (details_of r)

counted_is : (c : ℕ) (z : List ℕ) → uint16 c ++ z ≡ uint16 c ++ (z ++ [])
counted_is c z = behind (uint16 c) z

pub payload_is : (m : Message) → payload_of m ≡ joined (parts m)
payload_is ParseComplete = refl
payload_is BindComplete = refl
payload_is CloseComplete = refl
payload_is (NotificationResponse n) = texts_behind (int32 n.process_id) (text n.channel) (text n.message)
payload_is (CommandComplete tag) = last (text tag)
payload_is (DataRow row) = counted_is row.count row.storage
payload_is (ErrorResponse bytes) = last bytes
payload_is (CopyInResponse copy) = ap (λ l. copy.format ∷ l) (counted_is copy.count copy.storage)
payload_is (CopyOutResponse copy) = ap (λ l. copy.format ∷ l) (counted_is copy.count copy.storage)
payload_is EmptyQueryResponse = refl
payload_is (BackendKeyData key) = behind (int32 key.process_id) key.secret_key
payload_is (NegotiateProtocolVersion n) = texts_behind (int32 n.version) (int32 (pos n.count)) n.options
payload_is (NoticeResponse bytes) = last bytes
payload_is (Authentication request) = request_is request
payload_is (ParameterStatus s) = behind (text s.name) (text s.value)
payload_is (RowDescription row) = counted_is row.count row.storage
payload_is (ReadyForQuery status) = refl
payload_is CopyDone = refl
payload_is (CopyData bytes) = last bytes
payload_is NoData = refl
payload_is PortalSuspended = refl
payload_is (ParameterDescription row) = counted_is row.count row.storage

pub read_back : (m : Message) → payload_of m ≡ joined (parts m) → IsInRange m → cause m ≡ None → Spells (tag_of m) (joined (parts m)) m []
read_back m is r c = record {
  tagged = refl;
  fits = fits_of m r (either_left (parts_cause (parts m)) (length_cause (length (joined (parts m)) + 4)) c);
  parts = sym is ∙ sym (append-nil (payload_of m));
}
