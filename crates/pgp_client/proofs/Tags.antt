-- What a message asks, by its tag.
use Rattle.pgp_client.proofs.Common.{◌≡◌, ℕ, Option, Some, None, refl, sym, subst}
use Rattle.pgp_client.specs.Kinds.{BeginsWith, kind_of_tag, request_of, request_of_tag}
use Rattle.pgp_frontend.specs.ClientMessage.{ClientMessage, Bind, CancelRequest, Close, CopyData, CopyDone, CopyFail, Describe, Execute, Flush, FunctionCall, GssEncRequest, Parse, PasswordMessage, Query, SaslInitialResponse, SaslResponse, SslRequest, Startup, Sync, Terminate}
use Rattle.pgp_frontend.specs.Payload.{payload, tag_of}
use Rattle.pgp_message.specs.BackendMessage as backend

same_tag : (a b : ℕ) → (let o : Option ℕ = Some a in o) ≡ Some b → a ≡ b
same_tag a b is = cc

no_tag : (m : ClientMessage) (tag first : ℕ) → (let o : Option ℕ = None in o) ≡ Some tag → request_of m ≡ request_of_tag tag first
no_tag m tag first is = cc

at_tag : (m : ClientMessage) (a tag first : ℕ) → (let o : Option ℕ = Some a in o) ≡ Some tag → request_of m ≡ request_of_tag a first → request_of m ≡ request_of_tag tag first
at_tag m a tag first is e = subst (λ (t : ℕ). request_of m ≡ request_of_tag t first) (same_tag a tag is) e

pub tags_agree : (m : ClientMessage) (tag first : ℕ) → tag_of m ≡ Some tag → BeginsWith (payload m) first → request_of m ≡ request_of_tag tag first
tags_agree (Bind p s f v r) tag first is b = at_tag (Bind p s f v r) 66 tag first is refl
tags_agree (Close v n) tag first is b = at_tag (Close v n) 67 tag first is refl
tags_agree (CopyData d) tag first is b = at_tag (CopyData d) 100 tag first is refl
tags_agree CopyDone tag first is b = at_tag CopyDone 99 tag first is refl
tags_agree (CopyFail r) tag first is b = at_tag (CopyFail r) 102 tag first is refl
tags_agree (Execute p n) tag first is b = at_tag (Execute p n) 69 tag first is refl
tags_agree Flush tag first is b = at_tag Flush 72 tag first is refl
tags_agree (FunctionCall f s a r) tag first is b = at_tag (FunctionCall f s a r) 70 tag first is refl
tags_agree (Parse n q t) tag first is b = at_tag (Parse n q t) 80 tag first is refl
tags_agree (PasswordMessage p) tag first is b = at_tag (PasswordMessage p) 112 tag first is refl
tags_agree (Query q) tag first is b = at_tag (Query q) 81 tag first is refl
tags_agree (SaslInitialResponse m r) tag first is b = at_tag (SaslInitialResponse m r) 112 tag first is refl
tags_agree (SaslResponse r) tag first is b = at_tag (SaslResponse r) 112 tag first is refl
tags_agree Sync tag first is b = at_tag Sync 83 tag first is refl
tags_agree Terminate tag first is b = at_tag Terminate 88 tag first is refl
tags_agree (Describe v n) tag first is b = subst (λ (x : ℕ). request_of (Describe v n) ≡ request_of_tag tag x) (sym b) (at_tag (Describe v n) 68 tag v is refl)
tags_agree (Startup n p) tag first is b = no_tag (Startup n p) tag first is
tags_agree (CancelRequest n k) tag first is b = no_tag (CancelRequest n k) tag first is
tags_agree SslRequest tag first is b = no_tag SslRequest tag first is
tags_agree GssEncRequest tag first is b = no_tag GssEncRequest tag first is

pub no_kind : (m : backend.Message) → kind_of_tag (backend.tag_of m) ≡ None
no_kind backend.ParseComplete = refl
no_kind backend.BindComplete = refl
no_kind backend.CloseComplete = refl
no_kind (backend.NotificationResponse n) = refl
no_kind (backend.CommandComplete tag) = refl
no_kind (backend.DataRow row) = refl
no_kind (backend.ErrorResponse bytes) = refl
no_kind (backend.CopyInResponse copy) = refl
no_kind (backend.CopyOutResponse copy) = refl
no_kind backend.EmptyQueryResponse = refl
no_kind (backend.BackendKeyData key) = refl
no_kind (backend.NoticeResponse bytes) = refl
no_kind (backend.Authentication request) = refl
no_kind (backend.ParameterStatus setting) = refl
no_kind (backend.RowDescription row) = refl
no_kind (backend.ReadyForQuery status) = refl
no_kind backend.CopyDone = refl
no_kind (backend.CopyData bytes) = refl
no_kind backend.NoData = refl
no_kind backend.PortalSuspended = refl
no_kind (backend.ParameterDescription row) = refl
no_kind (backend.NegotiateProtocolVersion n) = refl
