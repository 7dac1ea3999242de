-- Private: the messages without lists, as one type.
use Rattle.std.specs.Prelude.{Bool, true, false, Some}
use Rattle.pgp_frontend.specs.ClientMessage.{ClientMessage}
use Rattle.pgp_frontend.specs.ClientMessage as client
use Rattle.for_c.specs.declared.message.PlainMessage.{PlainMessage}
use Rattle.for_c.specs.declared.message.PlainMessage.TheVariants.{CancelRequest, Close, CopyData, CopyDone, CopyFail, Describe, Execute, Flush, PasswordMessage, Query, SaslInitialResponse, SaslResponse, SslRequest, Sync, Terminate}

-- the message that is meant
abbrev pub message_of : PlainMessage → ClientMessage
message_of (CancelRequest process_id secret_key) = client.CancelRequest process_id secret_key.now
message_of (Close variant name) = client.Close variant name.now
message_of (CopyData bytes) = client.CopyData bytes.now
message_of CopyDone = client.CopyDone
message_of (CopyFail reason) = client.CopyFail reason.now
message_of (Describe variant name) = client.Describe variant name.now
message_of (Execute portal max_rows) = client.Execute portal.now max_rows
message_of Flush = client.Flush
message_of (PasswordMessage password) = client.PasswordMessage password.now
message_of (Query text) = client.Query text.now
message_of (SaslInitialResponse mechanism response) = client.SaslInitialResponse mechanism.now (Some response.now)
message_of (SaslResponse response) = client.SaslResponse response.now
message_of SslRequest = client.SslRequest
message_of Sync = client.Sync
message_of Terminate = client.Terminate

-- it comes after a startup packet, and not before one
abbrev pub comes_open : PlainMessage → Bool
comes_open (CancelRequest process_id secret_key) = false
comes_open SslRequest = false
comes_open _ = true
