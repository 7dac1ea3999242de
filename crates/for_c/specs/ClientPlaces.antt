-- Private: where the code finds the parts of a client's message in a frame of so many bytes.
use Rattle.std.specs.Prelude.{ℕ, ◌-◌, true, List, length, Option, Some, None}
use Rattle.pgp_frontend.specs.ClientMessage.{ClientMessage, Bind, Close, CopyData, CopyFail, Describe, Execute, FunctionCall, Parse, PasswordMessage, Query, SaslInitialResponse, SaslResponse, Startup, CancelRequest}
use Rattle.for_c.specs.ClientParts.{no_client_parts}
use Rattle.for_c.specs.Parts.{part}
use Rattle.for_c.specs.declared.client_places.PgpClientParts.{PgpClientParts}
use Rattle.for_c.specs.declared.cursor.PgpCursor.{PgpCursor}

-- the place so many bytes after another, and that after a text, no further than the frame's end
abbrev pub past : ℕ → ℕ → ℕ → ℕ
past frame at len = frame - (frame - at - len)

abbrev pub after_text : ℕ → ℕ → ℕ → ℕ
after_text frame at len = past frame (past frame at len) 1

abbrev pub list_at : ℕ → ℕ → ℕ → PgpCursor
list_at at end left = record { at = at; end = end; left = left }

-- numbers of two bytes, after their count
abbrev pub numbers_at : ℕ → ℕ → ℕ → PgpCursor
numbers_at frame at count = list_at (past frame at 2) (past frame (past frame (past frame at 2) count) count) count

abbrev pub one_text : ℕ → ℕ → PgpClientParts
one_text at len = record no_client_parts { first = part at len }

abbrev pub lettered : ℕ → ℕ → PgpClientParts
lettered byte len = record (one_text 6 len) { byte = byte }

abbrev pub bind_place : ℕ → ℕ → ℕ → ℕ → ℕ → ℕ → PgpClientParts
bind_place frame portal statement formats values results =
    record (one_text 5 portal) {
      second = part (after_text frame 5 portal) statement;
      formats = numbers_at frame (after_text frame (after_text frame 5 portal) statement) formats;
      items = list_at (past frame (numbers_at frame (after_text frame (after_text frame 5 portal) statement) formats).end 2) (frame - results - results - 2) values;
      result_formats = list_at (frame - results - results) frame results;
    }

abbrev pub call_place : ℕ → ℕ → ℕ → PgpClientParts
call_place frame formats arguments =
    record no_client_parts { formats = numbers_at frame 9 formats; items = list_at (past frame (numbers_at frame 9 formats).end 2) (frame - 2) arguments }

abbrev pub parse_place : ℕ → ℕ → ℕ → ℕ → PgpClientParts
parse_place frame name query types =
    record (one_text 5 name) { second = part (after_text frame 5 name) query; items = list_at (past frame (after_text frame (after_text frame 5 name) query) 2) frame types }

abbrev pub sasl_place : ℕ → ℕ → Option (List ℕ) → PgpClientParts
sasl_place frame mechanism None = record (one_text 5 mechanism) { is_null = true }
sasl_place frame mechanism (Some response) = record (one_text 5 mechanism) { second = part (frame - length response) (length response) }

abbrev pub startup_place : ℕ → ℕ → PgpClientParts
startup_place frame minor = record no_client_parts { items = list_at 8 frame 0; code = minor }

-- where the parts of a message stand in a frame of so many bytes
abbrev pub place : ClientMessage → ℕ → PgpClientParts
place (Bind portal statement formats values result_formats) frame = bind_place frame (length portal) (length statement) (length formats) (length values) (length result_formats)
place (Close variant name) frame = lettered variant (length name)
place (CopyData bytes) frame = one_text 5 (frame - 5)
place (CopyFail message) frame = one_text 5 (length message)
place (Describe variant name) frame = lettered variant (length name)
place (Execute portal max_rows) frame = record (one_text 5 (length portal)) { number = max_rows }
place (FunctionCall function formats arguments result_format) frame = record (call_place frame (length formats) (length arguments)) { code = function; number = result_format }
place (Parse name query param_types) frame = parse_place frame (length name) (length query) (length param_types)
place (PasswordMessage password) frame = one_text 5 (length password)
place (Query query) frame = one_text 5 (length query)
place (SaslInitialResponse mechanism response) frame = sasl_place frame (length mechanism) response
place (SaslResponse response) frame = one_text 5 (frame - 5)
place (Startup minor parameters) frame = startup_place frame minor
place (CancelRequest process_id secret_key) frame = record (one_text 12 (frame - 12)) { number = process_id }
place m frame = no_client_parts
