-- The kind and the parts of a client's message, as C sees them.
use Rattle.std.specs.Prelude.{◌≡◌, ◌≤◌, ℕ, true, false, pos, List, [], ◌∷◌, ◌++◌, length, None, Some}
use Rattle.std.specs.List.{flat_map}
use Rattle.pgp_base.specs.Wire.{int16, nullable, oid}
use Rattle.pgp_frontend.specs.ClientMessage.{ClientMessage, Bind, Close, CopyData, CopyDone, CopyFail, Describe, Execute, Flush, FunctionCall, Parse, PasswordMessage, Query, SaslInitialResponse, SaslResponse, Sync, Terminate, Startup, CancelRequest, SslRequest, GssEncRequest}
use Rattle.pgp_frontend.specs.Payload.{pair}
use Rattle.for_c.specs.Parts.{IsInside, part, stands}
use Rattle.for_c.specs.Walks.{rest}
use Rattle.for_c.specs.declared.client_places.PgpClientParts.{PgpClientParts}
use Rattle.for_c.specs.declared.cursor.PgpCursor.{PgpCursor}

-- the number of a message's kind
abbrev pub kind_of : ClientMessage → ℕ
kind_of (Bind portal statement formats values result_formats) = 1
kind_of (Close variant name) = 2
kind_of (CopyData bytes) = 3
kind_of CopyDone = 4
kind_of (CopyFail message) = 5
kind_of (Describe variant name) = 6
kind_of (Execute portal max_rows) = 7
kind_of Flush = 8
kind_of (FunctionCall function formats arguments result_format) = 9
kind_of (Parse name query param_types) = 10
kind_of (PasswordMessage password) = 11
kind_of (Query query) = 12
kind_of (SaslInitialResponse mechanism response) = 13
kind_of (SaslResponse response) = 14
kind_of Sync = 15
kind_of Terminate = 16
kind_of (Startup minor parameters) = 17
kind_of (CancelRequest process_id secret_key) = 18
kind_of SslRequest = 19
kind_of GssEncRequest = 20

abbrev pub no_list : PgpCursor
no_list = record { at = 0; end = 0; left = 0 }

abbrev pub no_client_parts : PgpClientParts
no_client_parts = record { first = part 0 0; second = part 0 0; formats = no_list; items = no_list; result_formats = no_list; number = pos 0; code = 0; byte = 0; is_null = false }

-- a cursor is at the first of so many items, which are spelled so
abbrev pub Lists : List ℕ → PgpCursor → List ℕ → ℕ → Type 0
Lists bytes c spelled count = (rest bytes c ≡ spelled) × (c.left ≡ count)

-- one part, and nothing else
abbrev pub ShowsOne : List ℕ → PgpClientParts → List ℕ → Type 0
ShowsOne bytes p what = (p ≡ record no_client_parts { first = p.first }) × (stands bytes p.first ≡ what)

-- a letter and a name, and nothing else
abbrev pub ShowsName : List ℕ → PgpClientParts → ℕ → List ℕ → Type 0
ShowsName bytes p letter name = (p ≡ record no_client_parts { first = p.first; byte = letter }) × (stands bytes p.first ≡ name)

-- The parts of the message stand at their places, its numbers are reported, and all else is 0.
abbrev pub Shows : List ℕ → ClientMessage → PgpClientParts → Type 0
Shows bytes (Bind portal statement formats values result_formats) p =
    (p ≡ record no_client_parts { first = p.first; second = p.second; formats = p.formats; items = p.items; result_formats = p.result_formats })
    × (stands bytes p.first ≡ portal) × (stands bytes p.second ≡ statement) × Lists bytes p.formats (flat_map int16 formats) (length formats)
    × Lists bytes p.items (flat_map nullable values) (length values) × Lists bytes p.result_formats (flat_map int16 result_formats) (length result_formats)
Shows bytes (Close variant name) p = ShowsName bytes p variant name
Shows bytes (CopyData z) p = ShowsOne bytes p z
Shows bytes (CopyFail message) p = ShowsOne bytes p message
Shows bytes (Describe variant name) p = ShowsName bytes p variant name
Shows bytes (Execute portal max_rows) p = (p ≡ record no_client_parts { first = p.first; number = max_rows }) × (stands bytes p.first ≡ portal)
Shows bytes (FunctionCall function formats arguments result_format) p =
    (p ≡ record no_client_parts { formats = p.formats; items = p.items; code = function; number = result_format })
    × Lists bytes p.formats (flat_map int16 formats) (length formats) × Lists bytes p.items (flat_map nullable arguments) (length arguments)
Shows bytes (Parse name query param_types) p =
    (p ≡ record no_client_parts { first = p.first; second = p.second; items = p.items })
    × (stands bytes p.first ≡ name) × (stands bytes p.second ≡ query) × Lists bytes p.items (flat_map oid param_types) (length param_types)
Shows bytes (PasswordMessage password) p = ShowsOne bytes p password
Shows bytes (Query query) p = ShowsOne bytes p query
Shows bytes (SaslInitialResponse mechanism None) p = (p ≡ record no_client_parts { first = p.first; is_null = true }) × (stands bytes p.first ≡ mechanism)
Shows bytes (SaslInitialResponse mechanism (Some response)) p =
    (p ≡ record no_client_parts { first = p.first; second = p.second }) × (stands bytes p.first ≡ mechanism) × (stands bytes p.second ≡ response)
Shows bytes (SaslResponse response) p = ShowsOne bytes p response
Shows bytes (Startup minor parameters) p = (p ≡ record no_client_parts { items = p.items; code = minor }) × Lists bytes p.items (flat_map pair parameters ++ 0 ∷ []) 0
Shows bytes (CancelRequest process_id secret_key) p = (p ≡ record no_client_parts { first = p.first; number = process_id }) × (stands bytes p.first ≡ secret_key)
Shows bytes m p = p ≡ no_client_parts

-- a cursor's places lie before this one, in their order
abbrev pub IsListInside : ℕ → PgpCursor → Type 0
IsListInside size c = (c.at ≤ c.end) × (c.end ≤ size)

-- all places lie before this one
pub record ArePartsInside (size : ℕ) (p : PgpClientParts) : Type 0 where
  pub first : IsInside size p.first
  pub second : IsInside size p.second
  pub formats : IsListInside size p.formats
  pub items : IsListInside size p.items
  pub result_formats : IsListInside size p.result_formats
