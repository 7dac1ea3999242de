-- The packets that open a connection, which have no tag.
-- PostgreSQL manual, "Message Formats": StartupMessage, CancelRequest, SSLRequest, GSSENCRequest.
use Rattle.std.specs.Prelude.{◌≡◌, ℕ, List, None}
use Rattle.pgp_frontend.specs.ClientMessage.{ClientMessage}
use Rattle.pgp_frontend.specs.Payload.{tag_of, bytes_of}
use Rattle.pgp_frontend.specs.Reading.{IsSpelled}

-- the bytes are this opening packet; no name in it is empty
pub record Opening (m : ClientMessage) (bytes : List ℕ) : Type 0 where
  pub untagged : tag_of m ≡ None
  pub spelled : IsSpelled m
  pub are : bytes ≡ bytes_of m
