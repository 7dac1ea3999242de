-- What holds of each two messages that differ in their secrets alone: a case for each secret, and one for messages that are the same.
use Rattle.pgtrace_lines.proofs.Common.{◌≡◌, ℕ, ℤ, List, length, Some, Result, Ok, Err, subst, AuthenticationMd5Password, AuthenticationGssContinue, AuthenticationSaslContinue, AuthenticationSaslFinal, Message, BackendKeyData, Authentication, Error, ClientMessage, CancelRequest, PasswordMessage, SaslInitialResponse, SaslResponse, ClientError, Alike, AlikeResults}
use Rattle.pgp_message.specs.Parts.{KeyData}
use Rattle.pgtrace_lines.specs.ClientSecrets.{AlikeAnswers, AlikeMessages}

module _ (P : Message → Message → Type 0) (same : (m : Message) → P m m)
    (salts : (a b : List ℕ) → length a ≡ length b → P (Authentication (AuthenticationMd5Password a)) (Authentication (AuthenticationMd5Password b)))
    (texts : (a b : List ℕ) → length a ≡ length b → P (Authentication (AuthenticationGssContinue a)) (Authentication (AuthenticationGssContinue b)))
    (challenges : (a b : List ℕ) → length a ≡ length b → P (Authentication (AuthenticationSaslContinue a)) (Authentication (AuthenticationSaslContinue b)))
    (finals : (a b : List ℕ) → length a ≡ length b → P (Authentication (AuthenticationSaslFinal a)) (Authentication (AuthenticationSaslFinal b)))
    (keys : (a b : KeyData) → (a.process_id ≡ b.process_id) × (length a.secret_key ≡ length b.secret_key) → P (BackendKeyData a) (BackendKeyData b)) where
  salt : (a : List ℕ) (y : Message) → Alike (Authentication (AuthenticationMd5Password a)) y → P (Authentication (AuthenticationMd5Password a)) y
  salt a (Authentication (AuthenticationMd5Password b)) e = salts a b e
  salt a y e = subst (P (Authentication (AuthenticationMd5Password a))) e (same (Authentication (AuthenticationMd5Password a)))

  text : (a : List ℕ) (y : Message) → Alike (Authentication (AuthenticationGssContinue a)) y → P (Authentication (AuthenticationGssContinue a)) y
  text a (Authentication (AuthenticationGssContinue b)) e = texts a b e
  text a y e = subst (P (Authentication (AuthenticationGssContinue a))) e (same (Authentication (AuthenticationGssContinue a)))

  challenge : (a : List ℕ) (y : Message) → Alike (Authentication (AuthenticationSaslContinue a)) y → P (Authentication (AuthenticationSaslContinue a)) y
  challenge a (Authentication (AuthenticationSaslContinue b)) e = challenges a b e
  challenge a y e = subst (P (Authentication (AuthenticationSaslContinue a))) e (same (Authentication (AuthenticationSaslContinue a)))

  final : (a : List ℕ) (y : Message) → Alike (Authentication (AuthenticationSaslFinal a)) y → P (Authentication (AuthenticationSaslFinal a)) y
  final a (Authentication (AuthenticationSaslFinal b)) e = finals a b e
  final a y e = subst (P (Authentication (AuthenticationSaslFinal a))) e (same (Authentication (AuthenticationSaslFinal a)))

  key : (a : KeyData) (y : Message) → Alike (BackendKeyData a) y → P (BackendKeyData a) y
  key a (BackendKeyData b) e = keys a b e
  key a y e = subst (P (BackendKeyData a)) e (same (BackendKeyData a))

  pub heard_alike : (x y : Message) → Alike x y → P x y
  heard_alike (Authentication (AuthenticationMd5Password a)) y e = salt a y e
  heard_alike (Authentication (AuthenticationGssContinue a)) y e = text a y e
  heard_alike (Authentication (AuthenticationSaslContinue a)) y e = challenge a y e
  heard_alike (Authentication (AuthenticationSaslFinal a)) y e = final a y e
  heard_alike (BackendKeyData a) y e = key a y e
  heard_alike x y e = subst (P x) e (same x)

module _ (P : ClientMessage → ClientMessage → Type 0) (same : (m : ClientMessage) → P m m)
    (passwords : (a b : List ℕ) → length a ≡ length b → P (PasswordMessage a) (PasswordMessage b))
    (initials : (m a b : List ℕ) → length a ≡ length b → P (SaslInitialResponse m (Some a)) (SaslInitialResponse m (Some b)))
    (responses : (a b : List ℕ) → length a ≡ length b → P (SaslResponse a) (SaslResponse b))
    (cancels : (p : ℤ) (a b : List ℕ) → length a ≡ length b → P (CancelRequest p a) (CancelRequest p b)) where
  password : (a : List ℕ) (y : ClientMessage) → AlikeMessages (PasswordMessage a) y → P (PasswordMessage a) y
  password a (PasswordMessage b) e = passwords a b e
  password a y e = subst (P (PasswordMessage a)) e (same (PasswordMessage a))

  initial : (m a : List ℕ) (y : ClientMessage) → AlikeMessages (SaslInitialResponse m (Some a)) y → P (SaslInitialResponse m (Some a)) y
  initial m a (SaslInitialResponse n (Some b)) e = subst (λ k. P (SaslInitialResponse m (Some a)) (SaslInitialResponse k (Some b))) e.0 (initials m a b e.1)
  initial m a y e = subst (P (SaslInitialResponse m (Some a))) e (same (SaslInitialResponse m (Some a)))

  response : (a : List ℕ) (y : ClientMessage) → AlikeMessages (SaslResponse a) y → P (SaslResponse a) y
  response a (SaslResponse b) e = responses a b e
  response a y e = subst (P (SaslResponse a)) e (same (SaslResponse a))

  cancel : (p : ℤ) (a : List ℕ) (y : ClientMessage) → AlikeMessages (CancelRequest p a) y → P (CancelRequest p a) y
  cancel p a (CancelRequest q b) e = subst (λ k. P (CancelRequest p a) (CancelRequest k b)) e.0 (cancels p a b e.1)
  cancel p a y e = subst (P (CancelRequest p a)) e (same (CancelRequest p a))

  pub sent_alike : (x y : ClientMessage) → AlikeMessages x y → P x y
  sent_alike (PasswordMessage a) y e = password a y e
  sent_alike (SaslInitialResponse m (Some a)) y e = initial m a y e
  sent_alike (SaslResponse a) y e = response a y e
  sent_alike (CancelRequest p a) y e = cancel p a y e
  sent_alike x y e = subst (P x) e (same x)

-- messages, or the same error

pub results_alike : (P : Result Message Error → Result Message Error → Type 0) → ((x y : Message) → Alike x y → P (Ok x) (Ok y)) → ((e : Error) → P (Err e) (Err e)) → (r s : Result Message Error) → AlikeResults r s → P r s
results_alike P read faults (Ok x) (Ok y) e = read x y e
results_alike P read faults (Err d) (Err f) e = subst (λ k. P (Err d) (Err k)) e (faults d)
results_alike P read faults (Ok x) (Err f) e = absurd e
results_alike P read faults (Err d) (Ok y) e = absurd e

pub answers_alike : (P : Result ClientMessage ClientError → Result ClientMessage ClientError → Type 0) → ((x y : ClientMessage) → AlikeMessages x y → P (Ok x) (Ok y)) → ((e : ClientError) → P (Err e) (Err e))
    → (r s : Result ClientMessage ClientError) → AlikeAnswers r s → P r s
answers_alike P read faults (Ok x) (Ok y) e = read x y e
answers_alike P read faults (Err d) (Err f) e = subst (λ k. P (Err d) (Err k)) e (faults d)
answers_alike P read faults (Ok x) (Err f) e = absurd e
answers_alike P read faults (Err d) (Ok y) e = absurd e
