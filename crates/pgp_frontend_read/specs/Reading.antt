-- Private: reading a message from the left, as the code does it. What stands there in the grammar's terms is `Step`.
use Rattle.std.specs.Prelude.{◌≡◌, ℕ, ℤ, zero, suc, ◌-◌, List, [], ◌∷◌, length, take, drop, Option, Some, None, Result, Ok, Err, nat_lt, nat_le, ◌==◌, if◌then◌else◌}
use Rattle.pgp_base.specs.declared.error.Error.{Error}
use Rattle.pgp_base.specs.declared.error.Error.TheVariants.{UnknownTag, UnexpectedEof, InvalidValueLength}
use Rattle.std.specs.Int.{w32, cast_signed}
use Rattle.pgp_base.specs.Cause.{Cause}
use Rattle.pgp_base.specs.PartReading.{◌>>=◌, byte_at, uint16_at, oid_at, int16_at, int32_at, string_at}
use Rattle.pgp_base.specs.WalkReading.{marked_run}
use Rattle.pgp_frontend.specs.ClientMessage.{ClientMessage, Bind, Close, CopyData, CopyDone, CopyFail, Describe, Execute, Flush, Parse, PasswordMessage, Query, SaslInitialResponse, SaslResponse, Sync, Terminate, Startup, CancelRequest, SslRequest, GssEncRequest, FunctionCall, PasswordKind, Password, Initial, Response}
use Rattle.pgp_frontend.specs.Payload.{key_cause}
use Rattle.pgp_frontend.specs.Reading.{Shape, AByte, AnInt16, AnInt32, AnOid, AText, SomeInt16s, SomeOids, SomeValues, ANullable, AllBytes, AKey, SomePairs}
use Rattle.pgp_frontend_read.specs.Content.{Content, Contents, Then}
use Rattle.pgp_frontend_read.specs.declared.error.ClientError.{ClientError}
use Rattle.pgp_frontend_read.specs.declared.error.ClientError.TheVariants.{UnknownPacket, Reading}
pub use Rattle.pgp_base.specs.PartReading.{type_at, ended, made}

-- ---- items of lists

abbrev pub format_at : List ℕ → Result (ℤ × List ℕ) Error
format_at bytes = int16_at bytes >>= λ x. Ok x

-- the length of all ones stands for a null
abbrev pub value_after : ℕ → List ℕ → Result (Option (List ℕ) × List ℕ) Error
value_after n rest =
    if n == 4294967295 then Ok (None, rest) else
    if nat_lt 2147483647 n then Err InvalidValueLength else
    if nat_lt (length rest) n then Err UnexpectedEof else Ok (Some (take n rest), drop n rest)

unfoldable pub value_at : List ℕ → Result (Option (List ℕ) × List ℕ) Error
value_at bytes = oid_at bytes >>= λ len. value_after len.0 len.1

unfoldable pub pair_at : List ℕ → Result ((List ℕ × List ℕ) × List ℕ) Error
pair_at bytes = do
  name ← string_at bytes
  value ← string_at name.1
  Ok ((name.0, value.0), value.1)

-- ---- lists

-- an item before those that the bytes after it give
abbrev pub with_front : {V : Type 0} → V → Result (List V × List ℕ) Error → Result (List V × List ℕ) Error
with_front x (Ok y) = Ok (x ∷ y.0, y.1)
with_front x (Err e) = Err e

abbrev pub items_on : {V : Type 0} → (List ℕ → Result (List V × List ℕ) Error) → Result (V × List ℕ) Error → Result (List V × List ℕ) Error
items_on go (Ok x) = with_front x.0 (go x.1)
items_on go (Err e) = Err e

-- so many items, and what is left after them
abbrev pub items_at : {V : Type 0} → (List ℕ → Result (V × List ℕ) Error) → ℕ → List ℕ → Result (List V × List ℕ) Error
items_at read zero bytes = Ok ([], bytes)
items_at read (suc n) bytes = items_on (items_at read n) (read bytes)

-- what is left of a counted list: so many items, in these bytes
pub record Left : Type 0 where
  pub bytes : List ℕ
  pub count : ℕ

-- the items that were read
abbrev pub got : {V : Type 0} → Result (List V × List ℕ) Error → List V
got (Ok x) = x.0
got (Err e) = []

-- the items that are left
abbrev pub items_of : {V : Type 0} → (List ℕ → Result (V × List ℕ) Error) → Left → List V
items_of read left = got (items_at read left.count left.bytes)

-- they stand there, and nothing after them
abbrev pub AreLeft : {V : Type 0} → (List ℕ → Result (V × List ℕ) Error) → Left → Type 0
AreLeft read left = items_at read left.count left.bytes ≡ Ok (items_of read left, [])

-- a count, and so many items
unfoldable pub counted_at : {V : Type 0} → (List ℕ → Result (V × List ℕ) Error) → List ℕ → Result (List V × List ℕ) Error
counted_at read bytes = uint16_at bytes >>= λ n. items_at read n.0 n.1

abbrev pub all_of : {V : Type 0} → List V × Option Error → Result (List V × List ℕ) Error
all_of (xs, None) = Ok (xs, [])
all_of (xs, Some e) = Err e

-- pairs up to a 0 byte, after which nothing stands
unfoldable pub pairs_at : List ℕ → Result (List (List ℕ × List ℕ) × List ℕ) Error
pairs_at bytes = all_of (marked_run pair_at (suc (length bytes)) bytes)

-- all bytes, unless there is a cause
abbrev pub unless : Cause → List ℕ → Result (List ℕ × List ℕ) Error
unless None bytes = Ok (bytes, [])
unless (Some e) bytes = Err e

-- a cancel request's key
unfoldable pub key_at : List ℕ → Result (List ℕ × List ℕ) Error
key_at bytes = unless (key_cause (length bytes)) bytes

-- ---- parts

abbrev pub content_at : (s : Shape) → List ℕ → Result (Content s × List ℕ) Error
content_at AByte bytes = byte_at bytes >>= λ x. Ok x
content_at AnInt16 bytes = int16_at bytes >>= λ x. Ok x
content_at AnInt32 bytes = int32_at bytes >>= λ x. Ok x
content_at AnOid bytes = oid_at bytes >>= λ x. Ok x
content_at AText bytes = string_at bytes >>= λ x. Ok x
content_at SomeInt16s bytes = counted_at format_at bytes
content_at SomeOids bytes = counted_at type_at bytes
content_at SomeValues bytes = counted_at value_at bytes
content_at ANullable bytes = value_at bytes
content_at AllBytes bytes = Ok (bytes, [])
content_at AKey bytes = key_at bytes
content_at SomePairs bytes = pairs_at bytes

abbrev pub before : {A B : Type 0} → A → Result B Error → Result (Then A B) Error
before x (Ok y) = Ok (record { first = x; rest = y })
before x (Err e) = Err e

abbrev pub contents_on : {A B : Type 0} → (List ℕ → Result B Error) → Result (A × List ℕ) Error → Result (Then A B) Error
contents_on go (Ok x) = before x.0 (go x.1)
contents_on go (Err e) = Err e

-- parts of these shapes, which are all of the bytes
abbrev pub contents_at : (shapes : List Shape) → List ℕ → Result (Contents shapes) Error
contents_at [] bytes = ended tt bytes
contents_at (s ∷ shapes) bytes = contents_on (contents_at shapes) (content_at s bytes)

-- ---- messages

unfoldable pub bind_of : List ℕ → Result ClientMessage Error
bind_of payload = made (λ c. Bind c.first c.rest.first c.rest.rest.first c.rest.rest.rest.first c.rest.rest.rest.rest.first)
    (contents_at (AText ∷ AText ∷ SomeInt16s ∷ SomeValues ∷ SomeInt16s ∷ []) payload)

unfoldable pub close_of : List ℕ → Result ClientMessage Error
close_of payload = made (λ c. Close c.first c.rest.first) (contents_at (AByte ∷ AText ∷ []) payload)

unfoldable pub describe_of : List ℕ → Result ClientMessage Error
describe_of payload = made (λ c. Describe c.first c.rest.first) (contents_at (AByte ∷ AText ∷ []) payload)

unfoldable pub execute_of : List ℕ → Result ClientMessage Error
execute_of payload = made (λ c. Execute c.first c.rest.first) (contents_at (AText ∷ AnInt32 ∷ []) payload)

unfoldable pub function_call_of : List ℕ → Result ClientMessage Error
function_call_of payload = made (λ c. FunctionCall c.first c.rest.first c.rest.rest.first c.rest.rest.rest.first)
    (contents_at (AnOid ∷ SomeInt16s ∷ SomeValues ∷ AnInt16 ∷ []) payload)

unfoldable pub parse_of : List ℕ → Result ClientMessage Error
parse_of payload = made (λ c. Parse c.first c.rest.first c.rest.rest.first) (contents_at (AText ∷ AText ∷ SomeOids ∷ []) payload)

unfoldable pub query_of : List ℕ → Result ClientMessage Error
query_of payload = made (λ c. Query c.first) (contents_at (AText ∷ []) payload)

unfoldable pub copy_fail_of : List ℕ → Result ClientMessage Error
copy_fail_of payload = made (λ c. CopyFail c.first) (contents_at (AText ∷ []) payload)

unfoldable pub password_of : List ℕ → Result ClientMessage Error
password_of payload = made (λ c. PasswordMessage c.first) (contents_at (AText ∷ []) payload)

unfoldable pub sasl_initial_of : List ℕ → Result ClientMessage Error
sasl_initial_of payload = made (λ c. SaslInitialResponse c.first c.rest.first) (contents_at (AText ∷ ANullable ∷ []) payload)

-- what follows the tag `p`
abbrev pub reported_of : PasswordKind → List ℕ → Result ClientMessage Error
reported_of Password payload = password_of payload
reported_of Initial payload = sasl_initial_of payload
reported_of Response payload = Ok (SaslResponse payload)

-- what follows each tag
unfoldable pub body_of : PasswordKind → ℕ → List ℕ → Result ClientMessage Error
body_of kind tag payload =
    if tag == 66 then bind_of payload else
    if tag == 67 then close_of payload else
    if tag == 68 then describe_of payload else
    if tag == 69 then execute_of payload else
    if tag == 70 then function_call_of payload else
    if tag == 72 then ended Flush payload else
    if tag == 80 then parse_of payload else
    if tag == 81 then query_of payload else
    if tag == 83 then ended Sync payload else
    if tag == 88 then ended Terminate payload else
    if tag == 99 then ended CopyDone payload else
    if tag == 100 then Ok (CopyData payload) else
    if tag == 102 then copy_fail_of payload else
    if tag == 112 then reported_of kind payload else
    Err (UnknownTag tag)

-- ---- opening packets

unfoldable pub startup_of : ℕ → List ℕ → Result ClientMessage Error
startup_of minor rest = made (λ c. Startup minor c.first) (contents_at (SomePairs ∷ []) rest)

unfoldable pub cancel_of : List ℕ → Result ClientMessage Error
cancel_of rest = made (λ c. CancelRequest c.first c.rest.first) (contents_at (AnInt32 ∷ AKey ∷ []) rest)

-- a body's fault, by its name
abbrev pub named : Result ClientMessage Error → Result ClientMessage ClientError
named (Ok m) = Ok m
named (Err e) = Err (Reading e)

-- what follows each code; those of protocol 3 begin at 196608, those after it at 262144
unfoldable pub by_code : ℕ → List ℕ → Result ClientMessage ClientError
by_code code rest =
    if code == 80877102 then named (cancel_of rest) else
    if code == 80877103 then named (ended SslRequest rest) else
    if code == 80877104 then named (ended GssEncRequest rest) else
    if nat_lt code 196608 then Err (UnknownPacket (cast_signed w32 code)) else
    if nat_le 262144 code then Err (UnknownPacket (cast_signed w32 code)) else
    named (startup_of (code - 196608) rest)

abbrev pub by_front : Option (ℕ × List ℕ) → Result ClientMessage ClientError
by_front None = Err (Reading UnexpectedEof)
by_front (Some code) = by_code code.0 code.1

unfoldable pub packet_of : List ℕ → Result ClientMessage ClientError
packet_of payload = by_front (oid_at payload)
