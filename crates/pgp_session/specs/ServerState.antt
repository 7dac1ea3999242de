-- What a server says of its session.
-- PostgreSQL manual, "Message Formats": ReadyForQuery, BackendKeyData, NegotiateProtocolVersion.
use Rattle.std.specs.Prelude.{◌≤◌, ℕ, List, [], ◌∷◌, length, Option, Some, None}
use Rattle.pgp_login.specs.Versions.{answered, newer as newer_version}
use Rattle.pgp_message.specs.BackendMessage.{Message, BackendKeyData, ReadyForQuery}
use Rattle.pgp_message.specs.Parts.{KeyData}
use Rattle.pgp_session.specs.declared.server_state.BackendKey.{BackendKey}
use Rattle.pgp_session.specs.declared.server_state.ServerState.{ServerState}

-- the status that a message says: that of a ReadyForQuery
abbrev pub status : Message → Option ℕ
status (ReadyForQuery s) = Some s
status m = None

-- the key that a message says: that of a BackendKeyData
abbrev pub key : Message → Option KeyData
key (BackendKeyData k) = Some k
key m = None

-- the key of a message, if it has one, is one that can be kept
abbrev pub KeyFits : Message → Type 0
KeyFits (BackendKeyData k) = length k.secret_key ≤ 256
KeyFits m = Unit {0}

-- a key as a caller reads it
abbrev pub shown_key : BackendKey → KeyData
shown_key k = record { process_id = k.process_id; secret_key = k.secret_key.now }

abbrev pub newer : {A : Type 0} → Option A → Option A → Option A
newer before None = before
newer before (Some s) = Some s

-- nothing was said
abbrev pub unsaid : ServerState
unsaid = record { status = None; key = None; version = None }

-- after a message
abbrev pub noted : Message → ServerState → ServerState
noted m s = record { status = newer s.status (status m); key = newer s.key (key m); version = newer_version s.version (answered m) }

-- after messages: the last status and the last key among them
abbrev pub state_after : ServerState → List Message → ServerState
state_after s [] = s
state_after s (m ∷ received) = state_after (noted m s) received
