-- The versions of the protocol that a client asks for, and the one that is spoken.
-- PostgreSQL manual, "Message Flow": "Start-up"; "Message Formats": NegotiateProtocolVersion.
use Rattle.std.specs.Prelude.{ℤ, pos, Bool, true, false, Option, Some, None, if◌then◌else◌}
use Rattle.std.specs.Ordering.{int_eq}
use Rattle.pgp_frontend.specs.declared.startup.ProtocolVersion.{ProtocolVersion}
use Rattle.pgp_frontend.specs.declared.startup.ProtocolVersion.TheVariants.{V3_0, V3_2}
use Rattle.pgp_message.specs.BackendMessage.{Message, NegotiateProtocolVersion}
use Rattle.pgp_login.specs.declared.versions.Versions.{Versions}
use Rattle.pgp_login.specs.declared.versions.Versions.TheVariants.{Only3_0, UpTo3_2, Only3_2}

-- the version of the startup packet: the newest of them
abbrev pub newest : Versions → ProtocolVersion
newest Only3_0 = V3_0
newest UpTo3_2 = V3_2
newest Only3_2 = V3_2

-- this one may be spoken
abbrev pub is_admitted : Versions → ProtocolVersion → Bool
is_admitted Only3_0 V3_0 = true
is_admitted Only3_0 V3_2 = false
is_admitted UpTo3_2 version = true
is_admitted Only3_2 V3_0 = false
is_admitted Only3_2 V3_2 = true

-- the version of this number: 3.1 and versions to come are none
abbrev pub version_of : ℤ → Option ProtocolVersion
version_of number = if int_eq number (pos 196608) then Some V3_0 else if int_eq number (pos 196610) then Some V3_2 else None

-- the version that a message answers
abbrev pub answered : Message → Option ProtocolVersion
answered (NegotiateProtocolVersion v) = version_of v.version
answered m = None

-- the last that was answered, after a message
abbrev pub newer : Option ProtocolVersion → Option ProtocolVersion → Option ProtocolVersion
newer before None = before
newer before (Some v) = Some v

-- the version that is spoken, where this was answered, if anything
abbrev pub spoken : Versions → Option ProtocolVersion → ProtocolVersion
spoken asked None = newest asked
spoken asked (Some v) = v
