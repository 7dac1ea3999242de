-- What reading a body from the left returns is the one result that the grammar allows.
use Rattle.pgp_message.proofs.Common.{nat_lt, if◌then◌else◌, ◌≡◌, ◌≢◌, ℕ, ℤ, Bool, true, false, pos, negsuc, arith, length-append, List, [], ◌∷◌, ◌++◌, Result, Ok, Err, refl, sym, ap, subst, ◌∙◌, append-nil, le-ltb, Error, int32, text, HasNoZero, IsBytes, KeyData, CountedBytes, Negotiation, CopyFormats, Request, AuthenticationOk, AuthenticationKerberosV5, AuthenticationCleartextPassword, AuthenticationMd5Password, AuthenticationScmCredential, AuthenticationGss, AuthenticationGssContinue, AuthenticationSspi, AuthenticationSasl, AuthenticationSaslContinue, AuthenticationSaslFinal, Message, ParseComplete, BindComplete, CloseComplete, NotificationResponse, CommandComplete, DataRow, ErrorResponse, CopyInResponse, CopyOutResponse, EmptyQueryResponse, BackendKeyData, NegotiateProtocolVersion, NoticeResponse, Authentication, ParameterStatus, RowDescription, ReadyForQuery, CopyDone, CopyData, NoData, PortalSuspended, ParameterDescription, tag_of, counted_bytes, copy_formats, payload_of, Fits, Spells, IsUnknownCode, HasNegativeCount, Body, ended, made, byte_of, string_of, setting_of, notification_of, key_of, key_data_of, negotiation_of, counted_of, copy_of, request_of, bare_of, body_of}
use Rattle.std.specs.Prelude.{◌≤◌, ◌<◌, length}
use Rattle.pgp_base.specs.declared.error.Error.TheVariants as errors
use Rattle.pgp_message.proofs.Families.{Reads, string_again, setting_again, notification_again, key_data_again, key_whole, negotiation_again, negative_again, NegotiationReads, negotiation_reads, counted_again, copy_again, byte_again, string_reads, setting_reads, setting_parts, SettingFits, notification_reads, notification_parts, NotificationFits, key_data_reads, key_parts, KeyFits, counted_reads, CountFits, copy_reads, CopyFits, byte_reads}
use Rattle.pgp_message.proofs.Keys.{key_cut, negotiation_cut}
use Rattle.pgp_message.proofs.Requests.{pick, RequestFits, after_request, made_ended, request_again, request_whole, RequestReads, request_reads, unknown_again}

-- What was spelled is read again.

-- what is left after a message: one that takes all has nothing left
abbrev pub after : Message → List ℕ → Result Message Error
after (DataRow row) more = Ok (DataRow (record row { storage = row.storage ++ more }))
after (RowDescription row) more = Ok (RowDescription (record row { storage = row.storage ++ more }))
after (ParameterDescription row) more = Ok (ParameterDescription (record row { storage = row.storage ++ more }))
after (CopyInResponse copy) more = Ok (CopyInResponse (record copy { storage = copy.storage ++ more }))
after (CopyOutResponse copy) more = Ok (CopyOutResponse (record copy { storage = copy.storage ++ more }))
after (ErrorResponse bytes) more = Ok (ErrorResponse (bytes ++ more))
after (NoticeResponse bytes) more = Ok (NoticeResponse (bytes ++ more))
after (CopyData bytes) more = Ok (CopyData (bytes ++ more))
after (BackendKeyData key) more = made BackendKeyData (key_of key.process_id (key.secret_key ++ more))
after (NegotiateProtocolVersion n) more = Ok (NegotiateProtocolVersion (record n { options = n.options ++ more }))
after (Authentication q) more = made Authentication (after_request q more)
after m more = ended m more

request_fits : (q : Request) → Fits (Authentication q) → RequestFits q
request_fits (AuthenticationMd5Password salt) f = f
request_fits AuthenticationOk f = tt
request_fits AuthenticationKerberosV5 f = tt
request_fits AuthenticationCleartextPassword f = tt
request_fits AuthenticationScmCredential f = tt
request_fits AuthenticationGss f = tt
request_fits (AuthenticationGssContinue bytes) f = tt
request_fits AuthenticationSspi f = tt
request_fits (AuthenticationSasl bytes) f = tt
request_fits (AuthenticationSaslContinue bytes) f = tt
request_fits (AuthenticationSaslFinal bytes) f = tt

fits_request : (q : Request) → RequestFits q → Fits (Authentication q)
fits_request (AuthenticationMd5Password salt) f = f
fits_request AuthenticationOk f = tt
fits_request AuthenticationKerberosV5 f = tt
fits_request AuthenticationCleartextPassword f = tt
fits_request AuthenticationScmCredential f = tt
fits_request AuthenticationGss f = tt
fits_request (AuthenticationGssContinue bytes) f = tt
fits_request AuthenticationSspi f = tt
fits_request (AuthenticationSasl bytes) f = tt
fits_request (AuthenticationSaslContinue bytes) f = tt
fits_request (AuthenticationSaslFinal bytes) f = tt

-- a message that stands at the front is read
pub body_again : (m : Message) (more : List ℕ) → Fits m → body_of (tag_of m) (payload_of m ++ more) ≡ after m more
unfolding body_of bare_of
body_again ParseComplete more fits = refl
body_again BindComplete more fits = refl
body_again CloseComplete more fits = refl
body_again (NotificationResponse n) more fits = ap (made NotificationResponse) (notification_again n more fits.0 fits.1 fits.2) ∙ made_ended NotificationResponse n more
body_again (CommandComplete tag) more fits = ap (made CommandComplete) (string_again tag more fits) ∙ made_ended CommandComplete tag more
body_again (DataRow row) more fits = ap (made DataRow) (counted_again row more fits)
body_again (ErrorResponse bytes) more fits = refl
body_again (CopyInResponse copy) more fits = ap (made CopyInResponse) (copy_again copy more fits)
body_again (CopyOutResponse copy) more fits = ap (made CopyOutResponse) (copy_again copy more fits)
body_again EmptyQueryResponse more fits = refl
body_again (BackendKeyData key) more fits = ap (made BackendKeyData) (key_data_again key more fits.0)
body_again (NegotiateProtocolVersion n) more fits = ap (made NegotiateProtocolVersion) (negotiation_again n more fits.0 fits.1)
body_again (NoticeResponse bytes) more fits = refl
body_again (Authentication q) more fits = ap (made Authentication) (request_again q more (request_fits q fits))
body_again (ParameterStatus s) more fits = ap (made ParameterStatus) (setting_again s more fits.0 fits.1) ∙ made_ended ParameterStatus s more
body_again (RowDescription row) more fits = ap (made RowDescription) (counted_again row more fits)
body_again (ReadyForQuery status) more fits = ap (made ReadyForQuery) (byte_again status more) ∙ made_ended ReadyForQuery status more
body_again CopyDone more fits = refl
body_again (CopyData bytes) more fits = refl
body_again NoData more fits = refl
body_again PortalSuspended more fits = refl
body_again (ParameterDescription row) more fits = ap (made ParameterDescription) (counted_again row more fits)

-- What is read was spelled so.

-- what a result says of the bytes that were read
abbrev pub Found : ℕ → List ℕ → Result Message Error → Type 0
Found tag payload (Ok m) = Spells tag payload m []
Found tag payload (Err (errors.UnknownTag unknown)) = (unknown ≡ tag) × ((m : Message) → tag_of m ≢ tag)
Found tag payload (Err (errors.UnknownAuthentication code)) = IsUnknownCode tag payload code
Found tag payload (Err errors.InvalidCount) = HasNegativeCount tag payload
Found tag payload (Err errors.UnexpectedEof) = (m : Message) × (tag_of m ≡ tag)
Found tag payload (Err errors.NotDrained) = (m : Message) × (more : List ℕ) × Spells tag payload m more
Found tag payload (Err e) = ⊥

-- a message without parts
found_ended : (tag : ℕ) (payload : List ℕ) (m : Message) (more : List ℕ) → tag_of m ≡ tag → Fits m → payload ≡ payload_of m ++ more → Found tag payload (ended m more)
found_ended tag payload m [] t f p = record { tagged = t; fits = f; parts = p }
found_ended tag payload m (b ∷ more) t f p = (m, b ∷ more, record { tagged = t; fits = f; parts = p })

-- a message that takes all
found_all : (tag : ℕ) (payload : List ℕ) (m : Message) → tag_of m ≡ tag → Fits m → payload_of m ≡ payload → Found tag payload (Ok m)
found_all tag payload m t f p = record { tagged = t; fits = f; parts = sym p ∙ sym (append-nil (payload_of m)) }

-- a message of a family
module _ {X : Type 0} (FitsAs : X → Type 0) (spell : X → List ℕ) (tag : ℕ) (payload : List ℕ) (make : X → Message) (known : X)
    (tagged : (x : X) → tag_of (make x) ≡ tag) (fits : (x : X) → FitsAs x → Fits (make x)) (parts : (x : X) → spell x ≡ payload_of (make x)) where
  found_made : (r : Result X Error) → Reads FitsAs spell payload r → Found tag payload (made make r)
  found_made (Ok x) h = record { tagged = tagged x; fits = fits x h.fits; parts = h.parts ∙ ap (λ l. l ++ []) (parts x) }
  found_made (Err errors.UnexpectedEof) h = (make known, tagged known)
  found_made (Err errors.NotDrained) h = (make h.0, h.1, record { tagged = tagged h.0; fits = fits h.0 h.2.fits; parts = h.2.parts ∙ ap (λ l. l ++ h.1) (parts h.0) })
  found_made (Err e) h = absurd h

no_answer : Negotiation
no_answer = record { version = pos 0; count = 0; options = [] }

found_request : (tag : ℕ) (payload : List ℕ) → 0x52 ≡ tag → (r : Result Request Error) → RequestReads payload r → Found tag payload (made Authentication r)
found_request tag payload t (Ok q) h = record { tagged = t; fits = fits_request q h.fits; parts = h.parts }
found_request tag payload t (Err errors.UnexpectedEof) h = (Authentication AuthenticationOk, t)
found_request tag payload t (Err errors.NotDrained) h = (Authentication h.0, h.1, record { tagged = t; fits = fits_request h.0 h.2.fits; parts = h.2.parts })
found_request tag payload t (Err (errors.UnknownAuthentication code)) h = record { tagged = sym t; fits = h.fits; more = h.more; parts = h.parts; unknown = h.unknown }
found_request tag payload t (Err e) h = absurd h

found_negotiation : (tag : ℕ) (payload : List ℕ) → 0x76 ≡ tag → (r : Result Negotiation Error) → NegotiationReads payload r → Found tag payload (made NegotiateProtocolVersion r)
found_negotiation tag payload t (Ok n) h = record { tagged = t; fits = h.fits; parts = h.parts }
found_negotiation tag payload t (Err errors.UnexpectedEof) h = (NegotiateProtocolVersion no_answer, t)
found_negotiation tag payload t (Err errors.InvalidCount) h = record { tagged = sym t; version = h.version; below = h.below; fits = h.fits; more = h.more; parts = h.parts }
found_negotiation tag payload t (Err e) h = absurd h

no_key : KeyData
no_key = record { process_id = pos 0; secret_key = [] }

no_row : CountedBytes
no_row = record { count = 0; storage = [] }

no_copy : CopyFormats
no_copy = record { format = 0; count = 0; storage = [] }

pub found_body : (tag : ℕ) (payload : List ℕ) → IsBytes payload → Found tag payload (body_of tag payload)
unfolding body_of bare_of
found_body tag payload h =
    pick (Found tag payload) tag 0x41 _ _ (λ t. found_made NotificationFits notification_parts tag payload NotificationResponse (record { process_id = pos 0; channel = []; message = [] }) (λ x. t) (λ x f. f) (λ x. refl) (notification_of payload) (notification_reads payload h)) (λ nA.
    pick (Found tag payload) tag 0x43 _ _ (λ t. found_made HasNoZero text tag payload CommandComplete [] (λ x. t) (λ x f. f) (λ x. refl) (string_of payload) (string_reads payload)) (λ nC.
    pick (Found tag payload) tag 0x44 _ _ (λ t. found_made CountFits counted_bytes tag payload DataRow no_row (λ x. t) (λ x f. f) (λ x. refl) (counted_of payload) (counted_reads payload h)) (λ nD.
    pick (Found tag payload) tag 0x45 _ _ (λ t. found_all tag payload (ErrorResponse payload) t tt refl) (λ nE.
    pick (Found tag payload) tag 0x47 _ _ (λ t. found_made CopyFits copy_formats tag payload CopyInResponse no_copy (λ x. t) (λ x f. f) (λ x. refl) (copy_of payload) (copy_reads payload h)) (λ nG.
    pick (Found tag payload) tag 0x48 _ _ (λ t. found_made CopyFits copy_formats tag payload CopyOutResponse no_copy (λ x. t) (λ x f. f) (λ x. refl) (copy_of payload) (copy_reads payload h)) (λ nH.
    pick (Found tag payload) tag 0x4b _ _ (λ t. found_made KeyFits key_parts tag payload BackendKeyData no_key (λ x. t) (λ x f. f) (λ x. refl) (key_data_of payload) (key_data_reads payload h)) (λ nK.
    pick (Found tag payload) tag 0x4e _ _ (λ t. found_all tag payload (NoticeResponse payload) t tt refl) (λ nN.
    pick (Found tag payload) tag 0x52 _ _ (λ t. found_request tag payload t (request_of payload) (request_reads payload h)) (λ nR.
    pick (Found tag payload) tag 0x53 _ _ (λ t. found_made SettingFits setting_parts tag payload ParameterStatus (record { name = []; value = [] }) (λ x. t) (λ x f. f) (λ x. refl) (setting_of payload) (setting_reads payload)) (λ nS.
    pick (Found tag payload) tag 0x54 _ _ (λ t. found_made CountFits counted_bytes tag payload RowDescription no_row (λ x. t) (λ x f. f) (λ x. refl) (counted_of payload) (counted_reads payload h)) (λ nT.
    pick (Found tag payload) tag 0x64 _ _ (λ t. found_all tag payload (CopyData payload) t tt refl) (λ nd.
    pick (Found tag payload) tag 0x74 _ _ (λ t. found_made CountFits counted_bytes tag payload ParameterDescription no_row (λ x. t) (λ x f. f) (λ x. refl) (counted_of payload) (counted_reads payload h)) (λ nt.
    pick (Found tag payload) tag 0x76 _ _ (λ t. found_negotiation tag payload t (negotiation_of payload) (negotiation_reads payload h)) (λ nv.
    pick (Found tag payload) tag 0x31 _ _ (λ t. found_ended tag payload ParseComplete payload t tt refl) (λ n1.
    pick (Found tag payload) tag 0x32 _ _ (λ t. found_ended tag payload BindComplete payload t tt refl) (λ n2.
    pick (Found tag payload) tag 0x33 _ _ (λ t. found_ended tag payload CloseComplete payload t tt refl) (λ n3.
    pick (Found tag payload) tag 0x49 _ _ (λ t. found_ended tag payload EmptyQueryResponse payload t tt refl) (λ nI.
    pick (Found tag payload) tag 0x52 _ _ (λ t. absurd (nR t)) (λ nR2.
    pick (Found tag payload) tag 0x5a _ _ (λ t. found_made (λ b. Unit {0}) (λ b. b ∷ []) tag payload ReadyForQuery 0 (λ x. t) (λ x f. f) (λ x. refl) (byte_of payload) (byte_reads payload)) (λ nZ.
    pick (Found tag payload) tag 0x63 _ _ (λ t. found_ended tag payload CopyDone payload t tt refl) (λ nc.
    pick (Found tag payload) tag 0x6e _ _ (λ t. found_ended tag payload NoData payload t tt refl) (λ nn.
    pick (Found tag payload) tag 0x73 _ _ (λ t. found_ended tag payload PortalSuspended payload t tt refl) (λ ns. (
      refl,
      λ m. elim m as (λ v. tag_of v ≢ tag) [
        | ParseComplete ↦ n1
        | BindComplete ↦ n2
        | CloseComplete ↦ n3
        | NotificationResponse n ↦ nA
        | CommandComplete text ↦ nC
        | DataRow row ↦ nD
        | ErrorResponse bytes ↦ nE
        | CopyInResponse copy ↦ nG
        | CopyOutResponse copy ↦ nH
        | EmptyQueryResponse ↦ nI
        | BackendKeyData key ↦ nK
        | NegotiateProtocolVersion n ↦ nv
        | NoticeResponse bytes ↦ nN
        | Authentication q ↦ nR
        | ParameterStatus s ↦ nS
        | RowDescription row ↦ nT
        | ReadyForQuery status ↦ nZ
        | CopyDone ↦ nc
        | CopyData bytes ↦ nd
        | NoData ↦ nn
        | PortalSuspended ↦ ns
        | ParameterDescription row ↦ nt
      ],
    ))))))))))))))))))))))))

-- The two together.

-- the answer to a message at the front, whatever the tag is called
spelled : (tag : ℕ) (payload : List ℕ) (m : Message) (more : List ℕ) → Spells tag payload m more → body_of tag payload ≡ after m more
spelled tag payload m more s = ap (body_of tag) s.parts ∙ ap (λ t. body_of t (payload_of m ++ more)) (sym s.tagged) ∙ body_again m more s.fits

-- a complete message is answered
whole_is : (m : Message) → Fits m → after m [] ≡ Ok m
whole_is (DataRow row) fits = ap (λ (l : List ℕ). Ok (DataRow (record row { storage = l }))) (append-nil row.storage)
whole_is (RowDescription row) fits = ap (λ (l : List ℕ). Ok (RowDescription (record row { storage = l }))) (append-nil row.storage)
whole_is (ParameterDescription row) fits = ap (λ (l : List ℕ). Ok (ParameterDescription (record row { storage = l }))) (append-nil row.storage)
whole_is (CopyInResponse copy) fits = ap (λ (l : List ℕ). Ok (CopyInResponse (record copy { storage = l }))) (append-nil copy.storage)
whole_is (CopyOutResponse copy) fits = ap (λ (l : List ℕ). Ok (CopyOutResponse (record copy { storage = l }))) (append-nil copy.storage)
whole_is (ErrorResponse bytes) fits = ap (λ (l : List ℕ). Ok (ErrorResponse l)) (append-nil bytes)
whole_is (NoticeResponse bytes) fits = ap (λ (l : List ℕ). Ok (NoticeResponse l)) (append-nil bytes)
whole_is (CopyData bytes) fits = ap (λ (l : List ℕ). Ok (CopyData l)) (append-nil bytes)
whole_is (Authentication q) fits = ap (made Authentication) (request_whole q)
whole_is ParseComplete fits = refl
whole_is BindComplete fits = refl
whole_is CloseComplete fits = refl
whole_is (NotificationResponse n) fits = refl
whole_is (CommandComplete tag) fits = refl
whole_is EmptyQueryResponse fits = refl
whole_is (BackendKeyData key) fits = ap (made BackendKeyData) (key_whole key fits.1 fits.2)
whole_is (NegotiateProtocolVersion n) fits = ap (λ (l : List ℕ). Ok (NegotiateProtocolVersion (record n { options = l }))) (append-nil n.options)
whole_is (ParameterStatus s) fits = refl
whole_is (ReadyForQuery status) fits = refl
whole_is CopyDone fits = refl
whole_is NoData fits = refl
whole_is PortalSuspended fits = refl

-- after a message comes nothing, or too much
Drains : Result Message Error → Type 0
Drains (Ok m) = Unit {0}
Drains (Err errors.NotDrained) = Unit {0}
Drains (Err e) = ⊥

request_drains : (q : Request) (more : List ℕ) → Drains (made Authentication (after_request q more))
unfolding Drains
request_drains (AuthenticationGssContinue bytes) more = tt
request_drains (AuthenticationSasl bytes) more = tt
request_drains (AuthenticationSaslContinue bytes) more = tt
request_drains (AuthenticationSaslFinal bytes) more = tt
request_drains q [] = tt
request_drains q (b ∷ more) = tt

key_drains : (id : ℤ) (key : List ℕ) → 4 ≤ length key → Drains (made BackendKeyData (key_of id key))
unfolding Drains
key_drains id key least = go (nat_lt (length key) 4) (nat_lt 256 (length key)) (le-ltb _ _ least)
  where
    go : (few many : Bool) → few ≡ false → Drains (made BackendKeyData (if few then Err errors.UnexpectedEof else if many then Err errors.NotDrained else Ok (record { process_id = id; secret_key = key })))
    go true many e = cc
    go false true e = tt
    go false false e = tt

drains : (m : Message) (more : List ℕ) → Fits m → Drains (after m more)
unfolding Drains
drains (DataRow row) more fits = tt
drains (RowDescription row) more fits = tt
drains (ParameterDescription row) more fits = tt
drains (CopyInResponse copy) more fits = tt
drains (CopyOutResponse copy) more fits = tt
drains (ErrorResponse bytes) more fits = tt
drains (NoticeResponse bytes) more fits = tt
drains (CopyData bytes) more fits = tt
drains (BackendKeyData key) more fits = key_drains key.process_id (key.secret_key ++ more) (omega (arith, fits.1, length-append key.secret_key more))
drains (NegotiateProtocolVersion n) more fits = tt
drains (Authentication q) more fits = request_drains q more
drains m [] fits = tt
drains m (b ∷ more) fits = tt

not_drains : (tag : ℕ) (payload : List ℕ) (e : Error) (m : Message) (more : List ℕ) → body_of tag payload ≡ Err e → Spells tag payload m more → Drains (Err e)
not_drains tag payload e m more is s = subst Drains (sym (spelled tag payload m more s) ∙ is) (drains m more s.fits)

opened : (payload : List ℕ) → body_of 0x52 payload ≡ made Authentication (request_of payload)
unfolding body_of
opened payload = refl

-- an unknown code is answered
unknown_answer : (tag : ℕ) (payload : List ℕ) (code : ℤ) → IsUnknownCode tag payload code → body_of tag payload ≡ Err (errors.UnknownAuthentication code)
unknown_answer tag payload code u =
    ap (body_of tag) u.parts ∙ ap (λ t. body_of t (int32 code ++ u.more)) u.tagged ∙ opened (int32 code ++ u.more) ∙ ap (made Authentication) (unknown_again code u.more u.fits u.unknown)

negotiated : (payload : List ℕ) → body_of 0x76 payload ≡ made NegotiateProtocolVersion (negotiation_of payload)
unfolding body_of
negotiated payload = refl

-- so is a negative count
negative_answer : (tag : ℕ) (payload : List ℕ) → HasNegativeCount tag payload → body_of tag payload ≡ Err errors.InvalidCount
negative_answer tag payload u =
    let bytes = int32 u.version ++ int32 (negsuc u.below) ++ u.more in
    ap (body_of tag) u.parts ∙ ap (λ t. body_of t bytes) u.tagged ∙ negotiated bytes ∙ ap (made NegotiateProtocolVersion) (negative_again u.version u.below u.more u.fits.0 u.fits.1)

whole_answer : (tag : ℕ) (payload : List ℕ) (m : Message) → Spells tag payload m [] → body_of tag payload ≡ Ok m
whole_answer tag payload m s = spelled tag payload m [] s ∙ whole_is m s.fits

-- what was found is all that the grammar asks
only_found : (tag : ℕ) (payload : List ℕ) (r : Result Message Error) → body_of tag payload ≡ r → Found tag payload r → Body tag payload r
unfolding Drains
only_found tag payload (Ok m) e f = f
only_found tag payload (Err (errors.UnknownTag unknown)) e f = f
only_found tag payload (Err (errors.UnknownAuthentication code)) e f = f
only_found tag payload (Err errors.InvalidCount) e f = f
only_found tag payload (Err errors.UnexpectedEof) e f =
    (f, λ m more s. not_drains tag payload errors.UnexpectedEof m more e s, λ code u. let g = unknown_answer tag payload code u in cc, λ u. let g = negative_answer tag payload u in cc)
only_found tag payload (Err errors.NotDrained) e f = (f, λ m s. let g = whole_answer tag payload m s in cc)
only_found tag payload (Err e) g f = absurd f

pub body_is : (tag : ℕ) (payload : List ℕ) → IsBytes payload → Body tag payload (body_of tag payload)
body_is tag payload h = only_found tag payload (body_of tag payload) refl (found_body tag payload h)

key_read : (payload : List ℕ) → body_of 0x4b payload ≡ made BackendKeyData (key_data_of payload)
unfolding body_of
key_read payload = refl

-- too few bytes for a key, or for the numbers of an answer about versions
pub cut_key : (payload : List ℕ) → IsBytes payload → length payload < 8 → Body 0x4b payload (Err errors.UnexpectedEof)
cut_key payload h short = subst (Body 0x4b payload) (key_read payload ∙ ap (made BackendKeyData) (key_cut payload short)) (body_is 0x4b payload h)

pub cut_version : (payload : List ℕ) → IsBytes payload → length payload < 8 → Body 0x76 payload (Err errors.UnexpectedEof)
cut_version payload h short = subst (Body 0x76 payload) (negotiated payload ∙ ap (made NegotiateProtocolVersion) (negotiation_cut payload short)) (body_is 0x76 payload h)

-- where no message has the tag, that is the answer
unknown_is : (tag : ℕ) (payload : List ℕ) (r : Result Message Error) → ((m : Message) → tag_of m ≢ tag) → Found tag payload r → r ≡ Err (errors.UnknownTag tag)
unknown_is tag payload (Ok m) none f = absurd (none m f.tagged)
unknown_is tag payload (Err (errors.UnknownTag unknown)) none f = ap (λ u. Err (errors.UnknownTag u)) f.0
unknown_is tag payload (Err (errors.UnknownAuthentication code)) none f = absurd (none (Authentication AuthenticationOk) (sym f.tagged))
unknown_is tag payload (Err errors.InvalidCount) none f = absurd (none (NegotiateProtocolVersion no_answer) (sym f.tagged))
unknown_is tag payload (Err errors.UnexpectedEof) none f = absurd (none f.0 f.1)
unknown_is tag payload (Err errors.NotDrained) none f = absurd (none f.0 f.2.tagged)
unknown_is tag payload (Err e) none f = absurd f

-- where a message has the tag and none stands at the front, nor an unknown code, the bytes end too early
short_is : (tag : ℕ) (payload : List ℕ) (r : Result Message Error) → Body tag payload (Err errors.UnexpectedEof) → Found tag payload r → r ≡ Err errors.UnexpectedEof
short_is tag payload (Ok m) short f = absurd (short.1 m [] f)
short_is tag payload (Err (errors.UnknownTag unknown)) short f = absurd (f.1 short.0.0 short.0.1)
short_is tag payload (Err (errors.UnknownAuthentication code)) short f = absurd (short.2 code f)
short_is tag payload (Err errors.InvalidCount) short f = absurd (short.3 f)
short_is tag payload (Err errors.UnexpectedEof) short f = refl
short_is tag payload (Err errors.NotDrained) short f = absurd (short.1 f.0 f.1 f.2)
short_is tag payload (Err e) short f = absurd f

long_is : (tag : ℕ) (payload : List ℕ) (r : Result Message Error) → ((n : Message) → Spells tag payload n [] → ⊥) → Drains r → Found tag payload r → r ≡ Err errors.NotDrained
unfolding Drains
long_is tag payload (Ok m) none d f = absurd (none m f)
long_is tag payload (Err errors.NotDrained) none d f = refl
long_is tag payload (Err e) none d f = absurd d

-- no other result is allowed
pub one_body : (tag : ℕ) (payload : List ℕ) (r : Result Message Error) → IsBytes payload → Body tag payload r → body_of tag payload ≡ r
one_body tag payload (Ok m) h b = whole_answer tag payload m b
one_body tag payload (Err (errors.UnknownTag unknown)) h b = unknown_is tag payload (body_of tag payload) b.1 (found_body tag payload h) ∙ ap (λ u. Err (errors.UnknownTag u)) (sym b.0)
one_body tag payload (Err (errors.UnknownAuthentication code)) h b = unknown_answer tag payload code b
one_body tag payload (Err errors.InvalidCount) h b = negative_answer tag payload b
one_body tag payload (Err errors.UnexpectedEof) h b = short_is tag payload (body_of tag payload) b (found_body tag payload h)
one_body tag payload (Err errors.NotDrained) h b =
    long_is tag payload (body_of tag payload) b.1 (subst Drains (sym (spelled tag payload b.0.0 b.0.1 b.0.2)) (drains b.0.0 b.0.1 b.0.2.fits)) (found_body tag payload h)
one_body tag payload (Err e) h b = absurd b
