-- Private: where the code finds the parts of a message in a frame of so many bytes.
use Rattle.std.specs.Prelude.{ℕ, ◌-◌, List, length}
use Rattle.pgp_message.specs.BackendMessage.{Message, Authentication, NegotiateProtocolVersion, AuthenticationGssContinue, AuthenticationMd5Password, AuthenticationSasl, AuthenticationSaslContinue, AuthenticationSaslFinal, BackendKeyData, CommandComplete, CopyData, CopyInResponse, CopyOutResponse, DataRow, ErrorResponse, NoticeResponse, NotificationResponse, ParameterDescription, ParameterStatus, ReadyForQuery, RowDescription}
use Rattle.for_c.specs.declared.front.PgpParts.{PgpParts}
use Rattle.for_c.specs.Parts.{part, no_parts}

-- of two texts the first begins at this place, and the second ends before the frame's last byte
abbrev pub two_texts : ℕ → (first second : List ℕ) → ℕ → PgpParts
two_texts at first second frame = record no_parts { first = part at (length first); second = part (frame - 1 - length second) (length second) }

-- where the parts of a message stand in a frame of so many bytes
abbrev pub place : Message → ℕ → PgpParts
place (CommandComplete tag) frame = record no_parts { first = part 5 (frame - 6) }
place (ErrorResponse b) frame = record no_parts { first = part 5 (frame - 5) }
place (NoticeResponse b) frame = record no_parts { first = part 5 (frame - 5) }
place (CopyData b) frame = record no_parts { first = part 5 (frame - 5) }
place (Authentication (AuthenticationGssContinue b)) frame = record no_parts { first = part 9 (frame - 9) }
place (Authentication (AuthenticationSasl b)) frame = record no_parts { first = part 9 (frame - 9) }
place (Authentication (AuthenticationSaslContinue b)) frame = record no_parts { first = part 9 (frame - 9) }
place (Authentication (AuthenticationSaslFinal b)) frame = record no_parts { first = part 9 (frame - 9) }
place (Authentication (AuthenticationMd5Password salt)) frame = record no_parts { first = part 9 4 }
place (DataRow row) frame = record no_parts { first = part 7 (frame - 7); count = row.count }
place (RowDescription row) frame = record no_parts { first = part 7 (frame - 7); count = row.count }
place (ParameterDescription row) frame = record no_parts { first = part 7 (frame - 7); count = row.count }
place (CopyInResponse copy) frame = record no_parts { first = part 8 (frame - 8); count = copy.count; byte = copy.format }
place (CopyOutResponse copy) frame = record no_parts { first = part 8 (frame - 8); count = copy.count; byte = copy.format }
place (BackendKeyData key) frame = record no_parts { first = part 9 (frame - 9); number = key.process_id }
place (NegotiateProtocolVersion n) frame = record no_parts { first = part 13 (frame - 13); count = n.count; number = n.version }
place (ReadyForQuery status) frame = record no_parts { byte = status }
place (ParameterStatus setting) frame = two_texts 5 setting.name setting.value frame
place (NotificationResponse n) frame = record (two_texts 9 n.channel n.message frame) { number = n.process_id }
place m frame = no_parts
