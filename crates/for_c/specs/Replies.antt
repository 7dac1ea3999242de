-- The messages of a server, as C names them by their kinds.
use Rattle.std.specs.Prelude.{◌≡◌, ◌⊎◌, ℕ, ◌==◌, List, [], ◌∷◌, length, Option, Some, None, if◌then◌else◌}
use Rattle.pgp_message.specs.BackendMessage.{Message, Authentication, AuthenticationCleartextPassword, AuthenticationGss, AuthenticationGssContinue, AuthenticationKerberosV5, AuthenticationMd5Password, AuthenticationOk, AuthenticationSaslContinue, AuthenticationSaslFinal, AuthenticationScmCredential, AuthenticationSspi, BackendKeyData, BindComplete, CloseComplete, CommandComplete, CopyData, CopyDone, EmptyQueryResponse, NoData, NotificationResponse, ParameterStatus, ParseComplete, PortalSuspended, ReadyForQuery}
use Rattle.pgp_message.specs.Items.{ErrorPart, FieldPart}
use Rattle.std.specs.List.{flat_map}
use Rattle.pgp_base.specs.Cause.{Cause, count_cause, either}
use Rattle.pgp_base.specs.Wire.{uint16}
use Rattle.pgp_frontend.specs.Payload.{Byte, Rest, frame_cause}
use Rattle.pgp_message_write.specs.Lists.{format_parts, type_parts, with_list}
use Rattle.for_c.specs.Replying.{NotReplied, Replied}
use Rattle.for_c.specs.declared.reply.Reply as code
use Rattle.for_c.specs.declared.reply.Reply.TheVariants as replies
use Rattle.for_c.specs.declared.reply_list.PgpDescribed.{PgpDescribed}
use Rattle.for_c.specs.declared.reply_list.PgpReported.{PgpReported}
use Rattle.for_c.specs.declared.reply_names.PgpName.{PgpName}

-- a message without a body, by its kind's number
abbrev pub bare_at : ℕ → Option Message
bare_at n =
    if n == 1 then Some (Authentication AuthenticationCleartextPassword)
    else (if n == 2 then Some (Authentication AuthenticationGss)
    else (if n == 4 then Some (Authentication AuthenticationKerberosV5)
    else (if n == 6 then Some (Authentication AuthenticationOk)
    else (if n == 10 then Some (Authentication AuthenticationScmCredential)
    else (if n == 11 then Some (Authentication AuthenticationSspi)
    else (if n == 13 then Some BindComplete
    else (if n == 14 then Some CloseComplete
    else (if n == 17 then Some CopyDone
    else (if n == 21 then Some EmptyQueryResponse
    else (if n == 23 then Some NoData
    else (if n == 28 then Some ParseComplete
    else (if n == 29 then Some PortalSuspended
    else None))))))))))))

-- a message of one text or some bytes
abbrev pub worded_at : ℕ → List ℕ → Option Message
worded_at n text =
    if n == 3 then Some (Authentication (AuthenticationGssContinue text))
    else (if n == 8 then Some (Authentication (AuthenticationSaslContinue text))
    else (if n == 9 then Some (Authentication (AuthenticationSaslFinal text))
    else (if n == 15 then Some (CommandComplete text)
    else (if n == 16 then Some (CopyData text)
    else None))))

-- the message of a kind was written
abbrev pub RepliedAs : Option Message → List ℕ → List ℕ → ℕ → Type 0
RepliedAs found old new reported = (m : Message) × (found ≡ Some m) × Replied m old new reported

-- it was not; or the number is that of no such kind, and the code is 35
abbrev pub NotRepliedAs : Option Message → List ℕ → ℕ → ℕ → Type 0
NotRepliedAs found old reported code = ((m : Message) × (found ≡ Some m) × NotReplied m old reported code) ⊎ ((found ≡ None) × (code ≡ 35) × (reported ≡ 0))

-- the code's messages
abbrev pub reply_of : code.Reply → Message
reply_of replies.AuthenticationCleartextPassword = Authentication AuthenticationCleartextPassword
reply_of replies.AuthenticationGss = Authentication AuthenticationGss
reply_of (replies.AuthenticationGssContinue text) = Authentication (AuthenticationGssContinue text.now)
reply_of replies.AuthenticationKerberosV5 = Authentication AuthenticationKerberosV5
reply_of (replies.AuthenticationMd5Password salt) = Authentication (AuthenticationMd5Password salt)
reply_of replies.AuthenticationOk = Authentication AuthenticationOk
reply_of (replies.AuthenticationSaslContinue text) = Authentication (AuthenticationSaslContinue text.now)
reply_of (replies.AuthenticationSaslFinal text) = Authentication (AuthenticationSaslFinal text.now)
reply_of replies.AuthenticationScmCredential = Authentication AuthenticationScmCredential
reply_of replies.AuthenticationSspi = Authentication AuthenticationSspi
reply_of (replies.BackendKeyData process_id secret_key) = BackendKeyData (record { process_id = process_id; secret_key = secret_key.now })
reply_of replies.BindComplete = BindComplete
reply_of replies.CloseComplete = CloseComplete
reply_of (replies.CommandComplete tag) = CommandComplete tag.now
reply_of (replies.CopyData bytes) = CopyData bytes.now
reply_of replies.CopyDone = CopyDone
reply_of replies.EmptyQueryResponse = EmptyQueryResponse
reply_of replies.NoData = NoData
reply_of (replies.NotificationResponse process_id channel message) = NotificationResponse (record { process_id = process_id; channel = channel.now; message = message.now })
reply_of (replies.ParameterStatus name value) = ParameterStatus (record { name = name.now; value = value.now })
reply_of replies.ParseComplete = ParseComplete
reply_of replies.PortalSuspended = PortalSuspended
reply_of (replies.ReadyForQuery status) = ReadyForQuery status

abbrev pub reply_seen : Option code.Reply → Option Message
reply_seen None = None
reply_seen (Some reply) = Some (reply_of reply)

-- what C's columns and fields say
abbrev pub described : PgpDescribed → FieldPart
described c = record {
  name = c.name.now;
  table_oid = c.table_oid;
  column_id = c.column_id;
  type_oid = c.type_oid;
  type_size = c.type_size;
  type_modifier = c.type_modifier;
  format = c.format;
}

abbrev pub reported_field : PgpReported → ErrorPart
reported_field f = record { code = f.code; value = f.value.now }

-- a name
abbrev pub name_of : PgpName → List ℕ
name_of n = n.name.now

-- the causes of a list of types, and of the formats of a copy
abbrev pub types_cause : List ℕ → Cause
types_cause types = either (count_cause (length types)) (frame_cause (with_list (Rest (uint16 (length types)) ∷ []) (flat_map type_parts types) []))

abbrev pub formats_cause : ℕ → List ℕ → Cause
formats_cause format formats = either (count_cause (length formats)) (frame_cause (with_list (Byte format ∷ Rest (uint16 (length formats)) ∷ []) (flat_map format_parts formats) []))
