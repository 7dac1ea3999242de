-- The names of other crates and of this one's specs that several proofs cite, passed on from one place. Declares nothing.
pub use Rattle.std.proofs.Common.{◌≡◌, ℕ, ℤ, pos, true, false, List, [], ◌∷◌, ◌++◌, length, Option, Some, None, Result, Ok, Err, MutBor, refl, sym, ap, subst, ◌∙◌, append_assoc, inl, inr, arith, if◌then◌else◌, Contains, option_map, Bool, max, ◌≤◌, map, ◌+◌, ◌*◌, length-append, Bor, negsuc, ◌≤ℤ◌, take, drop, ◌-◌, ◌<◌, ◌^◌, rules, zero, suc, codes}
pub use Rattle.std.proofs.Math.IntN.{nat_abs}
pub use Rattle.std.proofs.Math.Seq.{take-append_seam, drop-append_seam}
pub use Rattle.std.proofs.lemmas.Grind.{flat_map-append}
pub use Rattle.std.proofs.lemmas.Int.{fits_signed_from_abs, to_z_pos}
pub use Rattle.std.proofs.lemmas.Iterator.Adapters.{YieldsList-from_once}
pub use Rattle.std.proofs.lemmas.List.{append-nil, map-append, length-take, length-take-le, length-drop, append_cancel_left, length-map}
pub use Rattle.std.specs.Char.{digit_value}
unfoldable pub use Rattle.std.specs.Char.{encode_utf8}
pub use Rattle.std.specs.Int.{w32}
pub use Rattle.std.specs.Iterator.Adapters.{once_item, once_steps}
pub use Rattle.std.specs.List.{flat_map, AllByRecursion, AllZip}
pub use Rattle.std.specs.Option.{option_to_list, option_len}
pub use Rattle.std.specs.Prelude.{◌⊎◌, ◌≢◌, IfErr, decimal, slice_index_or}
pub use Rattle.std.specs.declared.iter.Once.{Once}
pub use Rattle.pgp_auth.proofs.EndsMeet.{first_memory, finish_never_refused, last_is, message_is, signature_never_refused, text_is, update_memory_met, answer_meets}
pub use Rattle.pgp_auth.specs.ScramClient.{Begun, Client, Answers, message_of}
pub use Rattle.pgp_auth.specs.ScramErrorView.{refusal}
pub use Rattle.pgp_auth.specs.ScramMeeting.{Meeting}
pub use Rattle.pgp_auth.specs.ScramServing.{Server, Challenges, Admits}
pub use Rattle.pgp_base.proofs.Causes.{either_first, either_none, fits_of, length_fits}
pub use Rattle.pgp_base.proofs.Needs.{sized_wants, flat_more, nullable_least, memory_lacks}
pub use Rattle.pgp_base.proofs.PartLemmas.{int32_number}
pub use Rattle.pgp_base.proofs.Parts.{more_bytes, front_left, wants_more, length-uint32, more_twice, wants_then, cut_back, front_then, if_err_at}
pub use Rattle.pgp_base.specs.Calls.{value_of, KeepsValue, Puts, Gives, Runs, SoFar, Appends, Yielded}
pub use Rattle.pgp_base.specs.ClosureWriters.{BodyRefused, WritesBody}
pub use Rattle.pgp_base.specs.Cause.{Wants, WantsMemory, length_cause, first, nullable_cause}
pub use Rattle.pgp_base.specs.Held.{Held, ◌⊕◌}
unfoldable pub use Rattle.pgp_base.specs.Held.{lengthened}
pub use Rattle.pgp_base.specs.Items.{MarkedItems}
pub use Rattle.pgp_base.specs.Walk.{Walk, TakesItem, IsFinished, IsRefused}
pub use Rattle.pgp_base.specs.Wire.{HasNoZero, IsBytes, nullable, frame}
unfoldable pub use Rattle.pgp_base.specs.Wire.{uint32, int32}
pub use Rattle.pgp_base.specs.declared.error.BindError.{BindError}
pub use Rattle.pgp_base.specs.declared.error.BindError.TheVariants.{Conversion, Serialization}
pub use Rattle.pgp_base.specs.declared.error.Error.{Error}
pub use Rattle.pgp_base.specs.declared.number.IsNull.{IsNull}
pub use Rattle.pgp_base.specs.declared.number.IsNull.TheVariants.{Yes, No}
pub use Rattle.pgp_client.specs.Limits.{lacks_status}
pub use Rattle.pgp_client.specs.Taking.{is_end}
pub use Rattle.pgp_client.specs.declared.event.Event.{Event}
pub use Rattle.pgp_frontend.proofs.Lists.{all_given, some_given, all_same, some_same}
pub use Rattle.pgp_frontend.specs.ClientMessage.{ClientMessage, Parse, SaslInitialResponse, Startup, Describe, Execute, Sync, Query}
pub use Rattle.pgp_frontend.specs.ClientRun.{ClientRun, kinds_of, is_startup}
pub use Rattle.pgp_frontend.specs.Given.{Arrived, Serves, before_values, BindWhole, BindRefused, Refused, ParseWhole, ParseSoFar}
pub use Rattle.pgp_frontend.specs.Payload.{Oids, bytes_of, parts, parts_cause, cause, joined, WritesMessage}
pub use Rattle.pgp_message.specs.BackendMessage.{Message, tag_of, DataRow, ErrorResponse, RowDescription, Body}
pub use Rattle.pgp_message.specs.Items.{TextSpelled, TextRefused, FieldPart}
pub use Rattle.pgp_message.specs.Stream.{Frames, TakesFrame, IsPartial, Step, Frame, frame_bytes, BeginsWithHeader, IsEnding, Bodies}
pub use Rattle.pgp_message.specs.Views.{view, parsed}
pub use Rattle.pgp_message_write.proofs.Lists.{same_more}
pub use Rattle.pgp_message_write.specs.Reply.{IsInRange, IsMechanism, IsReply, names_of}
pub use Rattle.pgp_session.specs.Connection.{IsCut, Nexts, Shown, nexted, Took, TookEnd, with_incoming, Hears, IsUnfit, ComesInTime, is_logged_in, logged_in_at, begun, shown}
pub use Rattle.pgp_login.specs.Exchange.{Added, AddsReply, Replies, begun_of, initial, is_bound, seen_client}
pub use Rattle.pgp_message.specs.LogIn.{Lists}
pub use Rattle.pgp_session.specs.Serving.{Comes, Outcome, Challenge, Denied, Signed, IsAdmitted, IsChallenged, IsNoFinal, IsNoFirst, admission, cause_of, challenge, due, final_message, first_message, kind_in, scram, scram_offer, signature, spelled}
pub use Rattle.pgp_session.specs.declared.connection_error.ConnectionError.{ConnectionError}
pub use Rattle.pgp_session.specs.declared.serving.Serving.{Serving}
pub use Rattle.pgp_session.specs.declared.serving.ServingPhase.{ServingPhase}
pub use Rattle.pgp_stream.specs.ClientStream.{Sent, IsAdded, IsLeft, Adds, RefusesMessage}
pub use Rattle.pgp_types.specs.Array.{Array, array_bytes, IsArray, IsDimension, array_seen}
pub use Rattle.pgp_types.specs.Format.{Plain, Format, IsSound}
pub use Rattle.pgp_types.specs.Scalar.{int4}
pub use Rattle.pgp_types.specs.declared.array.ArrayDimension.{ArrayDimension}
pub use Rattle.postgres_protocol.proofs.BindLemmas.{names_first, one_whole, one_refused, null_wants, value_wants}
pub use Rattle.postgres_protocol.proofs.StepLemmas.{array_length, head_wants, element_wants, first_of_one, none_of_none, FromOption}
pub use Rattle.postgres_protocol.specs.OneValue.{PutsOne, OneWants, unnamed, OneBinds, BindsOne}
pub use Rattle.pgp_uses.specs.Arrays.{ReadsElement, ReadsElements, RefusesElement, RefusesEnd, BindsInt4s, PutsInt4s, int4_array, IsInt4}
pub use Rattle.pgp_uses.specs.Asking.{AreAdded, Blames, Stops, AddsAll, NamedBinds, BindsNamed, named, named_bound}
pub use Rattle.pgp_uses.specs.BothEnds.{AreRead, Facing, IsServersWant, ConnectionLogsIn, HasStarted, IsConnectionsWant}
pub use Rattle.pgp_uses.specs.Client.{IsSo, received_as, row_if, is_part, scram_alone}
pub use Rattle.pgp_uses.specs.Columns.{IsOther, Passed, Columns, FirstColumns, HasNames, HasBroken}
pub use Rattle.pgp_base.specs.Error.{error_of}
pub use Rattle.pgp_uses.specs.Values.{Serializes, BindsValue, BoundWants, HasSpelling, RefusesValue, bound}
