-- The code's messages and kinds as those of the grammar.
use Rattle.std.specs.Prelude.{ℕ, List, Option, Some, None, Result, Ok, Err}
use Rattle.std.specs.Borrow.{Bor}
use Rattle.pgp_base.specs.declared.error.Error.{Error}
use Rattle.pgp_frontend_read.specs.Whole.{shown}
use Rattle.pgp_frontend_read.specs.declared.error.ClientError.{ClientError}
use Rattle.pgp_frontend_read.specs.declared.message.ClientMessage as code
use Rattle.pgp_frontend_read.specs.declared.message.ClientMessage.TheVariants as variants
use Rattle.pgp_frontend_read.specs.declared.message.PasswordKind as code_kind
use Rattle.pgp_frontend_read.specs.declared.message.PasswordKind.TheVariants as kinds
use Rattle.pgp_frontend.specs.ClientMessage.{ClientMessage, Bind, Close, CopyData, CopyDone, CopyFail, Describe, Execute, Flush, Parse, PasswordMessage, Query, SaslInitialResponse, SaslResponse, Sync, Terminate, Startup, CancelRequest, SslRequest, GssEncRequest, FunctionCall, PasswordKind, Password, Initial, Response}

abbrev pub kind_view : code_kind.PasswordKind → PasswordKind
kind_view kinds.Password = Password
kind_view kinds.Initial = Initial
kind_view kinds.Response = Response

abbrev pub view : code.ClientMessage → ClientMessage
view (variants.Bind portal statement formats values result_formats) = Bind portal.now statement.now formats values result_formats
view (variants.Close variant name) = Close variant name.now
view (variants.CopyData bytes) = CopyData bytes.now
view variants.CopyDone = CopyDone
view (variants.CopyFail message) = CopyFail message.now
view (variants.Describe variant name) = Describe variant name.now
view (variants.Execute portal max_rows) = Execute portal.now max_rows
view variants.Flush = Flush
view (variants.FunctionCall function formats arguments result_format) = FunctionCall function formats arguments result_format
view (variants.Parse name query param_types) = Parse name.now query.now param_types
view (variants.PasswordMessage password) = PasswordMessage password.now
view (variants.Query query) = Query query.now
view (variants.SaslInitialResponse mechanism response) = SaslInitialResponse mechanism.now (shown response)
view (variants.SaslResponse response) = SaslResponse response.now
view variants.Sync = Sync
view variants.Terminate = Terminate
view (variants.Startup minor parameters) = Startup minor parameters
view (variants.CancelRequest process_id secret_key) = CancelRequest process_id secret_key.now
view variants.SslRequest = SslRequest
view variants.GssEncRequest = GssEncRequest

-- the result of a body
abbrev pub seen : Result code.ClientMessage Error → Result ClientMessage Error
seen (Ok m) = Ok (view m)
seen (Err e) = Err e

-- the result of an opening packet
abbrev pub reported : Result code.ClientMessage ClientError → Result ClientMessage ClientError
reported (Ok m) = Ok (view m)
reported (Err e) = Err e

-- the answer of `next`
abbrev pub read : Result (Option code.ClientMessage) ClientError → Result (Option ClientMessage) ClientError
read (Ok None) = Ok None
read (Ok (Some m)) = Ok (Some (view m))
read (Err e) = Err e

-- the answer of `next_with_bytes`
abbrev pub read_with_bytes : Result (Option (code.ClientMessage × Bor (List ℕ))) ClientError → Result (Option (ClientMessage × List ℕ)) ClientError
read_with_bytes (Ok None) = Ok None
read_with_bytes (Ok (Some x)) = Ok (Some (view x.0, x.1.now))
read_with_bytes (Err e) = Err e
