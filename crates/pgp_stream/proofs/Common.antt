-- The names of other crates and of this one's specs that several proofs cite, passed on from one place. Declares nothing.
pub use Rattle.std.proofs.Common.{◌≡◌, ℕ, Bool, true, false, List, [], ◌∷◌, ◌++◌, ℤ, None, Result, Ok, Err, refl, sym, ap, subst, ◌∙◌, inl, inr, ◌+◌, ◌<◌, ◌≤◌, length, take, drop, get_or, Option, Some, append_assoc, arith, length-append, zero, suc, map, Bor, rules}
pub use Rattle.std.proofs.Math.Facts.{to_z-of_z}
pub use Rattle.std.proofs.Math.Seq.{take-length}
pub use Rattle.std.proofs.lemmas.Iterator.{YieldsList, YieldsList-from_slice}
pub use Rattle.std.proofs.lemmas.Iterator.Consumers.{YieldsList-so_far, YieldsList-turn, YieldsList-end, YieldsList-from_copied}
pub use Rattle.std.proofs.lemmas.List.{take_more, take-append-drop, append-nil, length-drop, nil_from_length}
pub use Rattle.std.specs.List.{flat_map}
pub use Rattle.std.specs.Prelude.{◌⊎◌, is_some, if◌then◌else◌, IfSome}
pub use Rattle.pgp_base.specs.Cause.{Wants, first}
pub use Rattle.pgp_base.specs.Held.{Held, ◌⊕◌, Leaves}
unfoldable pub use Rattle.pgp_base.specs.Held.{lengthened}
pub use Rattle.pgp_base.specs.Wire.{int32}
unfoldable pub use Rattle.pgp_base.specs.Wire.{uint32}
pub use Rattle.pgp_base.specs.declared.error.Error.{Error}
pub use Rattle.pgp_frontend.specs.ClientMessage.{ClientMessage, CancelRequest, FunctionCall, GssEncRequest, SaslInitialResponse, Startup, PasswordKind, IsOurs, Close, CopyData, CopyDone, CopyFail, Describe, Execute, Flush, PasswordMessage, Query, SaslResponse, SslRequest, Sync, Terminate}
pub use Rattle.pgp_frontend.specs.ClientRun.{ClientRun, IsStartup, IsRequest, MayCome, kinds_of, is_startup, is_opened}
pub use Rattle.pgp_frontend.specs.Given.{Arrived, shown, shown_pairs}
pub use Rattle.pgp_frontend.specs.Payload.{tag_of, bytes_of, cause, IsInRange, WritesMessage, Part, Int32, minor_code, minor_of, pair, pair_cause, parts_cause, parts}
pub use Rattle.pgp_frontend.specs.Reading.{IsNamed}
pub use Rattle.pgp_message.specs.BackendMessage.{Message}
pub use Rattle.pgp_message.specs.Found.{Found, FindsAll, TakesEach, TakesSome}
pub use Rattle.pgp_message.specs.Remembered.{Memory, Fits, header_of, headers_read}
pub use Rattle.pgp_message.specs.Views.{seen}
pub use Rattle.pgp_stream.specs.ClientStream.{Sent, IsAdded, IsLeft, AddsMessage, Reads}
pub use Rattle.pgp_stream.specs.ServerSteps.{Takes, TakesAll, Moves, TakesPart, kept_or_piece}
pub use Rattle.pgp_stream.specs.ServerStream.{Reading, GoesOn, Fails, HasRead}
