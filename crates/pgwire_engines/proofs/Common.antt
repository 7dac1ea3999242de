-- The names of other crates and of this one's specs that several proofs cite, passed on from one place. Declares nothing.
pub use Rattle.std.proofs.Common.{◌≡◌, ℕ, ◌+◌, ◌<◌, Bool, false, List, [], ◌∷◌, ◌++◌, length, take, get_or, map, Option, Result, refl, sym, ap, ◌∙◌, true, Some, None, Contains, subst, arith, inl, inr, length-append, cond, ◌≢◌, zero, suc, ◌-◌, drop, take-append-drop, rules, append_assoc, ◌≤◌}
pub use Rattle.std.proofs.KnownBytes.{Consumes-nil, Consumes-trans, Consumes-kept, Consumes-whole}
pub use Rattle.std.proofs.lemmas.List.{append-nil, take_more, map_push, get_or_default, drop_more, get_or-take, length-take-le, take_rest, take_all}
pub use Rattle.std.proofs.lemmas.List.Elements.{All-from_get_or, All-from_recursion}
pub use Rattle.std.proofs.lemmas.Str.Pattern.{split_parts}
pub use Rattle.std.specs.Io.KnownBytes.{Consumes, Keeps, IsAtEnd}
pub use Rattle.std.specs.List.{flat_map, list_any, AllByRecursion, slice_split}
pub use Rattle.std.specs.Prelude.{IfSome, if◌then◌else◌, ◌==◌, codes, decimal, not, string_bytes}
pub use Rattle.std.specs.Str.{IsUtf8}
pub use Rattle.pgp_base.specs.declared.error.Error.{Error}
pub use Rattle.pgp_base.specs.declared.error.Error.TheVariants.{OutOfMemory}
pub use Rattle.pgp_frontend.proofs.ClientRuns.{runs_bytes, opened_more}
pub use Rattle.pgp_frontend.specs.ClientMessage.{ClientMessage, Startup, SslRequest, Sync, Terminate, Query, PasswordMessage, CancelRequest, GssEncRequest}
pub use Rattle.pgp_frontend.specs.ClientRun.{AreInOrder, IsStartup, IsRequest, IsTagged, MayCome, is_opened, kinds_of, is_startup}
pub use Rattle.pgp_frontend.specs.Given.{shown}
pub use Rattle.pgp_frontend.specs.Payload.{cause, minor_of}
pub use Rattle.pgp_frontend.specs.Reading.{IsSpelled, IsNamed}
pub use Rattle.pgp_frontend.specs.declared.startup.ProtocolVersion.TheVariants.{V3_0, V3_2}
pub use Rattle.pgp_message.specs.Views.{seen}
pub use Rattle.pgp_stream.specs.ClientStream.{Sent, IsAdded}
pub use Rattle.pgp_stream.specs.ServerStream.{Reading, HasRead}
pub use Rattle.pgwire_engines.specs.ClientOutput.{Ask, ClientOutput, IsFaulty, IsRefused, IsSent, Sends, reported}
pub use Rattle.pgwire_engines.specs.Output.{BackendOutput, line_of, last_line, line}
pub use Rattle.pgwire_engines.specs.Request.{AddsPart, asked}
pub use Rattle.pgwire_engines.specs.Script.{Says, ArePairs, HasWord, IsPair, is_newline, is_space, version_word}
pub use Rattle.pgwire_engines.specs.Sending.{is_opening, SendsLine, HasSent, lines_left, size_left}
