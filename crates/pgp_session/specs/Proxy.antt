-- What a proxy of a client's messages passes on.
use Rattle.std.specs.Prelude.{◌≡◌, ℕ, List, [], ◌∷◌, ◌++◌, Option, Some, None, Result, Ok, Err, length, map}
use Rattle.std.specs.List.{Contains, flat_map}
use Rattle.std.specs.Borrow.{Bor}
use Rattle.pgp_base.specs.Held.{Held, ◌⊕◌}
use Rattle.pgp_frontend.specs.ClientMessage.{ClientMessage, Query, Parse, PasswordKind}
use Rattle.pgp_frontend.specs.Payload.{bytes_of}
use Rattle.pgp_frontend_read.specs.Step.{Unread, Step}
use Rattle.pgp_session.specs.declared.proxy.Passed.{Passed}
use Rattle.pgp_session.specs.declared.proxy.Passed.TheVariants.{Forwarded, HeldBack}
use Rattle.pgp_session.specs.declared.proxy.ProxyError.{ProxyError}
use Rattle.pgp_session.specs.declared.proxy.ProxyError.TheVariants.{NoMessage, OutOfMemory}

-- the statement that a message brings: of a query, or of one that is to be prepared
abbrev pub statement_of : ClientMessage → Option (List ℕ)
statement_of (Query text) = Some text
statement_of (Parse name text types) = Some text
statement_of m = None

-- it is one of these
abbrev pub IsListed : List (Bor (List ℕ)) → Option (List ℕ) → Type 0
IsListed refused None = ⊥
IsListed refused (Some text) = Contains (map (λ (r : Bor (List ℕ)). r.now) refused) text

-- What a call comes to: a message is passed on byte for byte, or held back; or none stands there; or memory is refused that its bytes need,
-- and it is still to be read.
abbrev pub Proxies : {Kept : Type 0} → List (Bor (List ℕ)) → PasswordKind → (Held Kept → ℕ → Type 0) → Unread → Held Kept → Result (Option Passed) ProxyError → Unread → Held Kept → Type 0
Proxies refused kind lacks from old (Ok (Some Forwarded)) next new = (x : ClientMessage) × Step kind from (Ok (Some x)) next × (IsListed refused (statement_of x) → ⊥) × (new ≡ old ⊕ bytes_of x)
Proxies refused kind lacks from old (Ok (Some HeldBack)) next new = (x : ClientMessage) × Step kind from (Ok (Some x)) next × IsListed refused (statement_of x) × (new ≡ old)
Proxies refused kind lacks from old (Ok None) next new = Step kind from (Ok None) next × (new ≡ old)
Proxies refused kind lacks from old (Err (NoMessage e)) next new = Step kind from (Err e) next × (new ≡ old)
Proxies refused kind lacks from old (Err OutOfMemory) next new =
    (x : ClientMessage) × (after : Unread) × Step kind from (Ok (Some x)) after × (IsListed refused (statement_of x) → ⊥) × lacks old (length (bytes_of x)) × (next ≡ from) × (new ≡ old)

-- ---- calls, one after the other

-- the kind that a call was given, and what became of the message
pub record Call : Type 0 where
  pub kind : PasswordKind
  pub passed : Passed

-- Each of these calls found a message.
abbrev pub ProxiesAll : {Kept : Type 0} → List (Bor (List ℕ)) → (Held Kept → ℕ → Type 0) → List Call → Unread → Held Kept → Unread → Held Kept → Type 0
ProxiesAll refused lacks [] from old next new = (next ≡ from) × (new ≡ old)
ProxiesAll {Kept} refused lacks (call ∷ calls) from old next new =
    (here : Unread) × (held : Held Kept) × Proxies refused call.kind lacks from old (Ok (Some call.passed)) here held × ProxiesAll refused lacks calls here held next new

-- Of the messages that came those went on whose statement isn't one of these, in the order in which they came.
pub data WentOn : List (Bor (List ℕ)) → List ClientMessage → List ClientMessage → Type 0 where
  NoneReceived : {refused : List (Bor (List ℕ))} → WentOn refused [] []
  Went : {refused : List (Bor (List ℕ))} {received went : List ClientMessage} (x : ClientMessage) → (IsListed refused (statement_of x) → ⊥) → WentOn refused received went → WentOn refused (x ∷ received) (x ∷ went)
  Stayed : {refused : List (Bor (List ℕ))} {received went : List ClientMessage} (x : ClientMessage) → IsListed refused (statement_of x) → WentOn refused received went → WentOn refused (x ∷ received) went

-- These messages were read by the calls, one after the other, each under the kind that its call was given.
pub data ReadBy : List Call → Unread → List ClientMessage → Unread → Type 0 where
  NoneRead : {from next : Unread} → next ≡ from → ReadBy [] from [] next
  OneRead : {call : Call} {calls : List Call} {from here next : Unread} {x : ClientMessage} {more : List ClientMessage} → Step call.kind from (Ok (Some x)) here → ReadBy calls here more next → ReadBy (call ∷ calls) from (x ∷ more) next

-- The bytes that were read are those of the messages that came, which the calls read, and those that were written are those of the messages that went on.
pub record PassesOn {Kept : Type 0} (refused : List (Bor (List ℕ))) (calls : List Call) (from : Unread) (old : Held Kept) (next : Unread) (new : Held Kept) : Type 0 where
  pub received : List ClientMessage
  pub went : List ClientMessage
  pub read_by : ReadBy calls from received next
  pub are : WentOn refused received went
  pub read : from.bytes ≡ flat_map bytes_of received ++ next.bytes
  pub written : new ≡ old ⊕ flat_map bytes_of went

-- calls that were given these kinds, each of which passed its message on
abbrev pub forwarded : PasswordKind → Call
forwarded kind = record { kind = kind; passed = Forwarded }

abbrev pub all_forwarded : List PasswordKind → List Call
all_forwarded kinds = map forwarded kinds
