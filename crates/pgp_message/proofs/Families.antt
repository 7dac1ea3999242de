-- The families of bodies: what was spelled is read again, and what is read was spelled so.
use Rattle.pgp_message.proofs.Common.{◌≡◌, ℕ, ℤ, Bool, true, false, pos, negsuc, suc, ◌<◌, ◌≤◌, ◌^◌, List, [], ◌∷◌, ◌++◌, length, Option, Some, None, Result, Ok, Err, refl, sym, ap, ◌∙◌, append_assoc, arith, FitsSigned, w16, w32, from_be_bytes, cast_signed, nat_lt, if◌then◌else◌, append-nil, length-take, take-append-drop, ltb-false, ltb-true, le-ltb, Error, int32, uint16, uint32, oid, text, HasNoZero, IsBytes, ◌>>=◌, front_at, uint16_at, oid_at, int32_at, string_at, string_takes, string_front, string_whole, front_takes, front_again, TakesNumber, number_takes, number_again, oid_number, int32_number, uint16_number, Notification, KeyData, Setting, CountedBytes, Negotiation, CopyFormats, counted_bytes, copy_formats, ended, byte_of, string_of, setting_of, notification_of, key_of, key_data_of, options_of, negotiation_of, counted_of, copy_of, salt_of}
use Rattle.std.specs.Prelude.{take, drop}
use Rattle.pgp_base.specs.declared.error.Error.TheVariants as errors

-- Numbers at the front.

int32_again : (n : ℤ) (rest : List ℕ) → FitsSigned w32 n → int32_at (int32 n ++ rest) ≡ Some (n, rest)
int32_again = number_again 4 (FitsSigned w32) int32 (λ l. cast_signed w32 (from_be_bytes w32 l)) int32_number

pub int32_takes : (bytes : List ℕ) (x : ℤ × List ℕ) → IsBytes bytes → int32_at bytes ≡ Some x → TakesNumber (FitsSigned w32) int32 bytes x.0 x.1
int32_takes = number_takes 4 (FitsSigned w32) int32 (λ l. cast_signed w32 (from_be_bytes w32 l)) int32_number

pub code_again : (n : ℕ) (rest : List ℕ) → n < 2 ^ 32 → oid_at (uint32 n ++ rest) ≡ Some (n, rest)
code_again = number_again 4 (λ n. n < 2 ^ 32) oid (λ l. from_be_bytes w32 l) oid_number

pub code_takes : (bytes : List ℕ) (x : ℕ × List ℕ) → IsBytes bytes → oid_at bytes ≡ Some x → TakesNumber (λ n. n < 2 ^ 32) oid bytes x.0 x.1
code_takes = number_takes 4 (λ n. n < 2 ^ 32) oid (λ l. from_be_bytes w32 l) oid_number

count_again : (n : ℕ) (rest : List ℕ) → n < 2 ^ 16 → uint16_at (uint16 n ++ rest) ≡ Some (n, rest)
count_again = number_again 2 (λ n. n < 2 ^ 16) uint16 (λ l. from_be_bytes w16 l) uint16_number

count_takes : (bytes : List ℕ) (x : ℕ × List ℕ) → IsBytes bytes → uint16_at bytes ≡ Some x → TakesNumber (λ n. n < 2 ^ 16) uint16 bytes x.0 x.1
count_takes = number_takes 2 (λ n. n < 2 ^ 16) uint16 (λ l. from_be_bytes w16 l) uint16_number

-- What was spelled is read again.

pub string_again : (z more : List ℕ) → HasNoZero z → string_of (text z ++ more) ≡ ended z more
unfolding string_of
string_again z more none = rw (string_front z more none) refl

pub setting_again : (s : Setting) (more : List ℕ) → HasNoZero s.name → HasNoZero s.value → setting_of ((text s.name ++ text s.value) ++ more) ≡ ended s more
unfolding setting_of
setting_again s more name value =
    ap setting_of (append_assoc (text s.name) (text s.value) more) ∙ rw (string_front s.name (text s.value ++ more) name, string_front s.value more value) refl

pub notification_again : (n : Notification) (more : List ℕ) → FitsSigned w32 n.process_id → HasNoZero n.channel → HasNoZero n.message
    → notification_of ((int32 n.process_id ++ text n.channel ++ text n.message) ++ more) ≡ ended n more
unfolding notification_of
notification_again n more id channel message =
    let whole : (int32 n.process_id ++ text n.channel ++ text n.message) ++ more ≡ int32 n.process_id ++ (text n.channel ++ (text n.message ++ more)) =
    append_assoc (int32 n.process_id ++ text n.channel) (text n.message) more ∙ append_assoc (int32 n.process_id) (text n.channel) (text n.message ++ more) in
    ap notification_of whole ∙ rw (int32_again n.process_id (text n.channel ++ (text n.message ++ more)) id, string_front n.channel (text n.message ++ more) channel, string_front n.message more message) refl

pub key_data_again : (k : KeyData) (more : List ℕ) → FitsSigned w32 k.process_id → key_data_of ((int32 k.process_id ++ k.secret_key) ++ more) ≡ key_of k.process_id (k.secret_key ++ more)
unfolding key_data_of
key_data_again k more id =
    ap key_data_of (append_assoc (int32 k.process_id) k.secret_key more) ∙ rw (int32_again k.process_id (k.secret_key ++ more) id) refl

-- a key of such a length is taken whole
pub key_whole : (k : KeyData) → 4 ≤ length k.secret_key → length k.secret_key ≤ 256 → key_of k.process_id (k.secret_key ++ []) ≡ Ok k
key_whole k least most =
    let few : nat_lt (length k.secret_key) 4 ≡ false = le-ltb _ _ least in
    let many : nat_lt 256 (length k.secret_key) ≡ false = le-ltb _ _ most in
    ap (key_of k.process_id) (append-nil k.secret_key) ∙ rw (few, many) refl

-- the parts of an answer about versions but for the options, and what is left
version_parts : (version count : ℤ) (options more : List ℕ) → (int32 version ++ int32 count ++ options) ++ more ≡ int32 version ++ (int32 count ++ (options ++ more))
version_parts version count options more = append_assoc (int32 version ++ int32 count) options more ∙ append_assoc (int32 version) (int32 count) (options ++ more)

pub negotiation_again : (n : Negotiation) (more : List ℕ) → FitsSigned w32 n.version → FitsSigned w32 (pos n.count) → negotiation_of ((int32 n.version ++ int32 (pos n.count) ++ n.options) ++ more) ≡ Ok (record n { options = n.options ++ more })
unfolding negotiation_of
negotiation_again n more version count =
    ap negotiation_of (version_parts n.version (pos n.count) n.options more) ∙ rw (int32_again n.version (int32 (pos n.count) ++ (n.options ++ more)) version, int32_again (pos n.count) (n.options ++ more) count) refl

pub negative_again : (version : ℤ) (below : ℕ) (more : List ℕ) → FitsSigned w32 version → FitsSigned w32 (negsuc below) → negotiation_of (int32 version ++ int32 (negsuc below) ++ more) ≡ Err errors.InvalidCount
unfolding negotiation_of
negative_again version below more fits negative =
    ap negotiation_of (append_assoc (int32 version) (int32 (negsuc below)) more) ∙ rw (int32_again version (int32 (negsuc below) ++ more) fits, int32_again (negsuc below) more negative) refl

pub counted_again : (c : CountedBytes) (more : List ℕ) → c.count < 2 ^ 16 → counted_of (counted_bytes c ++ more) ≡ Ok (record c { storage = c.storage ++ more })
unfolding counted_of
counted_again c more fits = ap counted_of (append_assoc (uint16 c.count) c.storage more) ∙ rw (count_again c.count (c.storage ++ more) fits) refl

pub copy_again : (c : CopyFormats) (more : List ℕ) → c.count < 2 ^ 16 → copy_of (copy_formats c ++ more) ≡ Ok (record c { storage = c.storage ++ more })
unfolding copy_of
copy_again c more fits =
    ap (λ (l : List ℕ). copy_of (c.format ∷ l)) (append_assoc (uint16 c.count) c.storage more) ∙ rw (count_again c.count (c.storage ++ more) fits) refl

pub salt_again : (salt more : List ℕ) → length salt ≡ 4 → salt_of (salt ++ more) ≡ ended salt more
unfolding salt_of
salt_again salt more four = rw (front_again 4 (λ l. l) salt more four) refl

pub byte_again : (b : ℕ) (more : List ℕ) → byte_of ((b ∷ []) ++ more) ≡ ended b more
unfolding byte_of
byte_again b more = refl

-- What is read was spelled so.

-- the payload is the spelling of x, and these bytes after it
pub record Holds {X : Type 0} (FitsAs : X → Type 0) (spell : X → List ℕ) (payload : List ℕ) (x : X) (more : List ℕ) : Type 0 where
  pub fits : FitsAs x
  pub parts : payload ≡ spell x ++ more

abbrev pub Reads : {X : Type 0} → (X → Type 0) → (X → List ℕ) → List ℕ → Result X Error → Type 0
Reads FitsAs spell payload (Ok x) = Holds FitsAs spell payload x []
Reads FitsAs spell payload (Err errors.UnexpectedEof) = Unit {0}
Reads {X} FitsAs spell payload (Err errors.NotDrained) = (x : X) × (more : List ℕ) × Holds FitsAs spell payload x more
Reads FitsAs spell payload (Err e) = ⊥

module _ {X : Type 0} (FitsAs : X → Type 0) (spell : X → List ℕ) (payload : List ℕ) where
  pub reads_ended : (x : X) (more : List ℕ) → FitsAs x → payload ≡ spell x ++ more → Reads FitsAs spell payload (ended x more)
  reads_ended x [] f p = record { fits = f; parts = p }
  reads_ended x (b ∷ more) f p = (x, b ∷ more, record { fits = f; parts = p })

  -- it takes all that is left
  reads_all : (x : X) → FitsAs x → payload ≡ spell x → Reads FitsAs spell payload (Ok x)
  reads_all x f p = record { fits = f; parts = p ∙ sym (append-nil (spell x)) }

  -- a part and what follows it: either the part is cut short, or the rest decides
  reads_then : {A : Type 0} (part : Option A) (f : A → Result X Error) → ((x : A) → part ≡ Some x → Reads FitsAs spell payload (f x)) → Reads FitsAs spell payload (part >>= f)
  reads_then None f g = tt
  reads_then (Some x) f g = g x refl

pub string_reads : (payload : List ℕ) → Reads HasNoZero text payload (string_of payload)
unfolding string_of
string_reads payload =
    reads_then HasNoZero text payload (string_at payload) _ (λ s i.
    let a = string_takes payload s i in
    reads_ended HasNoZero text payload s.0 s.1 a.no_zero (string_whole payload s.0 s.1 a.parts))

abbrev pub SettingFits : Setting → Type 0
SettingFits s = HasNoZero s.name × HasNoZero s.value

abbrev pub setting_parts : Setting → List ℕ
setting_parts s = text s.name ++ text s.value

pub setting_reads : (payload : List ℕ) → Reads SettingFits setting_parts payload (setting_of payload)
unfolding setting_of
setting_reads payload =
    reads_then SettingFits setting_parts payload (string_at payload) _ (λ name i.
    reads_then SettingFits setting_parts payload (string_at name.1) _ (λ value j.
    let a = string_takes payload name i in
    let b = string_takes name.1 value j in
    let whole : payload ≡ (text name.0 ++ text value.0) ++ value.1 =
    string_whole payload name.0 name.1 a.parts ∙ ap (λ l. text name.0 ++ l) (string_whole name.1 value.0 value.1 b.parts) ∙ sym (append_assoc (text name.0) (text value.0) value.1) in
    reads_ended SettingFits setting_parts payload (record { name = name.0; value = value.0 }) value.1 (a.no_zero, b.no_zero) whole))

abbrev pub NotificationFits : Notification → Type 0
NotificationFits n = FitsSigned w32 n.process_id × HasNoZero n.channel × HasNoZero n.message

abbrev pub notification_parts : Notification → List ℕ
notification_parts n = int32 n.process_id ++ text n.channel ++ text n.message

pub notification_reads : (payload : List ℕ) → IsBytes payload → Reads NotificationFits notification_parts payload (notification_of payload)
unfolding notification_of
notification_reads payload h =
    reads_then NotificationFits notification_parts payload (int32_at payload) _ (λ id i.
    reads_then NotificationFits notification_parts payload (string_at id.1) _ (λ channel j.
    reads_then NotificationFits notification_parts payload (string_at channel.1) _ (λ message k.
    let a = int32_takes payload id h i in
    let b = string_takes id.1 channel j in
    let d = string_takes channel.1 message k in
    let whole : payload ≡ (int32 id.0 ++ text channel.0 ++ text message.0) ++ message.1 =
    a.parts
    ∙ ap (λ l. int32 id.0 ++ l) (string_whole id.1 channel.0 channel.1 b.parts ∙ ap (λ l. text channel.0 ++ l) (string_whole channel.1 message.0 message.1 d.parts))
    ∙ sym (append_assoc (int32 id.0) (text channel.0) (text message.0 ++ message.1))
    ∙ sym (append_assoc (int32 id.0 ++ text channel.0) (text message.0) message.1) in
    reads_ended NotificationFits notification_parts payload (record { process_id = id.0; channel = channel.0; message = message.0 }) message.1 (a.fits, b.no_zero, d.no_zero) whole)))

abbrev pub KeyFits : KeyData → Type 0
KeyFits k = FitsSigned w32 k.process_id × (4 ≤ length k.secret_key) × (length k.secret_key ≤ 256)

abbrev pub key_parts : KeyData → List ℕ
key_parts k = int32 k.process_id ++ k.secret_key

-- by its length a key is too short, too long or whole
key_reads : (payload : List ℕ) (id : ℤ) (key : List ℕ) → FitsSigned w32 id → payload ≡ int32 id ++ key → Reads KeyFits key_parts payload (key_of id key)
key_reads payload id key fits parts = go (nat_lt (length key) 4) (nat_lt 256 (length key)) refl refl
  where
    go : (few many : Bool) → nat_lt (length key) 4 ≡ few → nat_lt 256 (length key) ≡ many → Reads KeyFits key_parts payload (if few then Err errors.UnexpectedEof else if many then Err errors.NotDrained else Ok (record { process_id = id; secret_key = key }))
    go true many e f = tt
    go false true e f =
        let len : length (take 256 key) ≡ 256 = omega (arith, length-take 256 key, ltb-true _ _ f) in (
          record { process_id = id; secret_key = take 256 key },
          drop 256 key,
          record {
            fits = (fits, omega (arith, len), omega (arith, len));
            parts = parts ∙ ap (λ l. int32 id ++ l) (sym (take-append-drop 256 key)) ∙ sym (append_assoc (int32 id) (take 256 key) (drop 256 key));
          },
        )
    go false false e f = record { fits = (fits, ltb-false _ _ e, ltb-false _ _ f); parts = parts ∙ sym (append-nil (int32 id ++ key)) }

pub key_data_reads : (payload : List ℕ) → IsBytes payload → Reads KeyFits key_parts payload (key_data_of payload)
unfolding key_data_of
key_data_reads payload h =
    reads_then KeyFits key_parts payload (int32_at payload) _ (λ id i.
    let a = int32_takes payload id h i in
    key_reads payload id.0 id.1 a.fits a.parts)

-- An answer about versions has a cause of its own.

abbrev pub NegotiationFits : Negotiation → Type 0
NegotiationFits n = FitsSigned w32 n.version × FitsSigned w32 (pos n.count)

abbrev pub negotiation_parts : Negotiation → List ℕ
negotiation_parts n = int32 n.version ++ int32 (pos n.count) ++ n.options

-- a version, and a count below zero
pub record IsNegative (payload : List ℕ) : Type 0 where
  pub version : ℤ
  pub below : ℕ
  pub fits : FitsSigned w32 version × FitsSigned w32 (negsuc below)
  pub more : List ℕ
  pub parts : payload ≡ int32 version ++ int32 (negsuc below) ++ more

abbrev pub NegotiationReads : List ℕ → Result Negotiation Error → Type 0
NegotiationReads payload (Ok n) = Holds NegotiationFits negotiation_parts payload n []
NegotiationReads payload (Err errors.UnexpectedEof) = Unit {0}
NegotiationReads payload (Err errors.InvalidCount) = IsNegative payload
NegotiationReads payload (Err e) = ⊥

negotiation_then : {A : Type 0} (payload : List ℕ) (part : Option A) (f : A → Result Negotiation Error) → ((x : A) → part ≡ Some x → NegotiationReads payload (f x)) → NegotiationReads payload (part >>= f)
negotiation_then payload None f g = tt
negotiation_then payload (Some x) f g = g x refl

options_read : (payload : List ℕ) (version count : ℤ) (options : List ℕ) → FitsSigned w32 version → FitsSigned w32 count → payload ≡ int32 version ++ int32 count ++ options → NegotiationReads payload (options_of version count options)
options_read payload version (pos n) options fits counts parts = record { fits = (fits, counts); parts = parts ∙ sym (append-nil (int32 version ++ int32 (pos n) ++ options)) }
options_read payload version (negsuc k) options fits counts parts = record { version = version; below = k; fits = (fits, counts); more = options; parts = parts }

pub negotiation_reads : (payload : List ℕ) → IsBytes payload → NegotiationReads payload (negotiation_of payload)
unfolding negotiation_of
negotiation_reads payload h =
    negotiation_then payload (int32_at payload) _ (λ version i.
    negotiation_then payload (int32_at version.1) _ (λ count j.
    let a = int32_takes payload version h i in
    let b = int32_takes version.1 count a.tail j in
    options_read payload version.0 count.0 count.1 a.fits b.fits (a.parts ∙ ap (λ l. int32 version.0 ++ l) b.parts ∙ sym (append_assoc (int32 version.0) (int32 count.0) count.1))))

abbrev pub CountFits : CountedBytes → Type 0
CountFits c = c.count < 2 ^ 16

pub counted_reads : (payload : List ℕ) → IsBytes payload → Reads CountFits counted_bytes payload (counted_of payload)
unfolding counted_of
counted_reads payload h =
    reads_then CountFits counted_bytes payload (uint16_at payload) _ (λ count i.
    let a = count_takes payload count h i in
    reads_all CountFits counted_bytes payload (record { count = count.0; storage = count.1 }) a.fits a.parts)

abbrev pub CopyFits : CopyFormats → Type 0
CopyFits c = c.count < 2 ^ 16

pub copy_reads : (payload : List ℕ) → IsBytes payload → Reads CopyFits copy_formats payload (copy_of payload)
unfolding copy_of
copy_reads [] h = tt
copy_reads (format ∷ rest) h =
    reads_then CopyFits copy_formats (format ∷ rest) (uint16_at rest) _ (λ count i.
    let a = count_takes rest count (λ k. h (suc k)) i in
    reads_all CopyFits copy_formats (format ∷ rest) (record { format = format; count = count.0; storage = count.1 }) a.fits (ap (λ l. format ∷ l) a.parts))

pub salt_reads : (payload : List ℕ) → Reads (λ salt. length salt ≡ 4) (λ salt. salt) payload (salt_of payload)
unfolding salt_of
salt_reads payload =
    reads_then (λ salt. length salt ≡ 4) (λ salt. salt) payload (front_at 4 (λ l. l) payload) _ (λ salt i.
    let a = front_takes 4 (λ l. l) payload salt i in
    let four : length salt.0 ≡ 4 = ap length a.1 ∙ omega (arith, length-take 4 payload, a.0) in
    reads_ended (λ salt. length salt ≡ 4) (λ salt. salt) payload salt.0 salt.1 four (a.2 ∙ ap (λ l. l ++ salt.1) (sym a.1)))

pub byte_reads : (payload : List ℕ) → Reads (λ b. Unit {0}) (λ b. b ∷ []) payload (byte_of payload)
unfolding byte_of
byte_reads [] = tt
byte_reads (b ∷ rest) = reads_ended (λ b. Unit {0}) (λ b. b ∷ []) (b ∷ rest) b rest tt refl
