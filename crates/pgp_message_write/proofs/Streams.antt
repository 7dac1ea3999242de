-- Replies on a stream.
use Rattle.pgp_message_write.proofs.Common.{◌≡◌, ℕ, ◌+◌, ◌<◌, false, List, [], ◌∷◌, ◌++◌, length, map, refl, sym, ap, ◌∙◌, arith, inl, Result, flat_map, AllByRecursion, length_cause, either_right, fits_of, Error, Message, tag_of, ParseComplete, BindComplete, CloseComplete, NotificationResponse, CommandComplete, DataRow, ErrorResponse, CopyInResponse, CopyOutResponse, EmptyQueryResponse, BackendKeyData, NegotiateProtocolVersion, NoticeResponse, Authentication, ParameterStatus, RowDescription, ReadyForQuery, CopyDone, CopyData, NoData, PortalSuspended, ParameterDescription, joined, parts_cause, parts, bytes_of, IsReply}
use Rattle.std.proofs.Common.{append-nil}
use Rattle.std.specs.Prelude.{Ok}
use Rattle.pgp_message.specs.Stream.{Frame, frame_bytes, IsFrame, Bodies, BackendRun, TakesFrame}
use Rattle.pgp_message_write.proofs.Payloads.{read_back, payload_is}

tag_fits : (m : Message) → tag_of m < 256
tag_fits ParseComplete = omega arith
tag_fits BindComplete = omega arith
tag_fits CloseComplete = omega arith
tag_fits (NotificationResponse n) = omega arith
tag_fits (CommandComplete tag) = omega arith
tag_fits (DataRow row) = omega arith
tag_fits (ErrorResponse bytes) = omega arith
tag_fits (CopyInResponse copy) = omega arith
tag_fits (CopyOutResponse copy) = omega arith
tag_fits EmptyQueryResponse = omega arith
tag_fits (BackendKeyData key) = omega arith
tag_fits (NegotiateProtocolVersion n) = omega arith
tag_fits (NoticeResponse bytes) = omega arith
tag_fits (Authentication request) = omega arith
tag_fits (ParameterStatus s) = omega arith
tag_fits (RowDescription row) = omega arith
tag_fits (ReadyForQuery status) = omega arith
tag_fits CopyDone = omega arith
tag_fits (CopyData bytes) = omega arith
tag_fits NoData = omega arith
tag_fits PortalSuspended = omega arith
tag_fits (ParameterDescription row) = omega arith

abbrev frame_of : Message → Frame
frame_of m = record { tag = tag_of m; payload = joined (parts m) }

is_frame : (m : Message) → IsReply m → IsFrame (frame_of m)
is_frame m r =
    let fits = fits_of (length (joined (parts m)) + 4) (either_right (parts_cause (parts m)) (length_cause (length (joined (parts m)) + 4)) r.none) in
    record { tag = tag_fits m; payload = r.bytes; fits = omega arith }

pub reply_taken : (m : Message) (rest : List ℕ) → IsReply m → TakesFrame (bytes_of m ++ rest) (Ok m) rest
reply_taken m rest r = record { first = frame_of m; whole = refl; fits = is_frame m r; body = read_back m (payload_is m) r.in_range r.none }

wholes : (ms : List Message) → flat_map bytes_of ms ≡ flat_map frame_bytes (map frame_of ms)
wholes [] = refl
wholes (m ∷ ms) = ap (λ l. bytes_of m ++ l) (wholes ms)

frames_fit : (ms : List Message) → AllByRecursion IsReply ms → AllByRecursion IsFrame (map frame_of ms)
frames_fit [] rs = tt
frames_fit (m ∷ ms) rs = (is_frame m rs.0, frames_fit ms rs.1)

abbrev read : List Message → List (Result Message Error)
read ms = map Ok ms

bodies_read : (ms : List Message) → AllByRecursion IsReply ms → Bodies (map frame_of ms) (read ms)
bodies_read [] rs = tt
bodies_read (m ∷ ms) rs = (read_back m (payload_is m) rs.0.in_range rs.0.none, bodies_read ms rs.1)

pub replies_run : (ms : List Message) → AllByRecursion IsReply ms → BackendRun (flat_map bytes_of ms) (read ms) false []
replies_run ms rs = record {
  run = record { frames = map frame_of ms; whole = wholes ms ∙ sym (append-nil (flat_map frame_bytes (map frame_of ms))); each = frames_fit ms rs; bodies = bodies_read ms rs };
  ending = inl (omega arith);
}
