-- The names of other crates and of this one's specs that several proofs cite, passed on from one place. Declares nothing.
pub use Rattle.std.proofs.Common.{◌≡◌, ℕ, true, false, List, [], ◌∷◌, ◌++◌, Option, Some, None, refl, sym, ap, subst, ◌∙◌, inl, inr, ◌⊎◌, ◌+◌, ◌≤◌, length, arith, ◌-◌, get_or, Result, Ok, Err, ap₂, Bool, not, take, drop, ◌||◌, zero, suc, map, Contains, append_assoc, ◌≢◌, rules, codes, ◌^◌}
pub use Rattle.std.proofs.Math.Seq.{take-append_seam, drop-append_seam}
pub use Rattle.std.proofs.lemmas.Bool.{cond-true, cond-false, cases_Bool, ne_eqb, and_parts, true≢false}
pub use Rattle.std.proofs.lemmas.Bool.Decides.{nat_tests, Decides-eqb}
pub use Rattle.std.proofs.lemmas.List.{append-nil, length-append, take-append-drop}
pub use Rattle.std.proofs.lemmas.List.Elements.{filter-append}
pub use Rattle.std.proofs.lemmas.Slice.Eq.{bytes_eq-Decides, slice_eq-Decides}
pub use Rattle.std.specs.Borrow.{Bor}
pub use Rattle.std.specs.List.{AllByRecursion, list_any, flat_map, list_all, filter}
pub use Rattle.std.specs.Prelude.{option_to_list, nat_lt, OnOk, IfErr, ◌&&◌, option_map, ◌<◌, if◌then◌else◌, ◌==◌}
pub use Rattle.std.specs.Str.{bytes_eq}
pub use Rattle.pgp_base.proofs.Parts.{length-uint32, nothing_more, cut_back, front_left, front_then, more_twice, wants_more, wants_then}
pub use Rattle.pgp_base.specs.Cause.{WantsMemory, Wants, Cause}
pub use Rattle.pgp_base.specs.Held.{Held, ◌⊕◌, Leaves, items_held}
unfoldable pub use Rattle.pgp_base.specs.Held.{lengthened}
pub use Rattle.pgp_base.specs.Walk.{Walk, TakesItem}
pub use Rattle.pgp_base.specs.Wire.{uint32}
unfoldable pub use Rattle.pgp_base.specs.Wire.{int32}
pub use Rattle.pgp_base.specs.declared.error.Error.{Error}
pub use Rattle.pgp_base.specs.declared.error.Error.TheVariants.{InvalidLength, OutOfMemory}
pub use Rattle.pgp_client.specs.Kinds.{kind_of, request_of}
pub use Rattle.pgp_client.specs.Limits.{is_longer, longer}
pub use Rattle.pgp_client.specs.Taking.{is_end, taken, Takes, awaits_data, is_copying, is_idle, is_between}
pub use Rattle.pgp_client.specs.Talk.{Talk}
pub use Rattle.pgp_client.specs.Telling.{Turn, Asks, asked_in, observed_in, reported_in, start}
pub use Rattle.pgp_client.specs.declared.event.Event.{Event}
pub use Rattle.pgp_client.specs.declared.event.Event.TheVariants.{Part, Aside, Ended, Last}
pub use Rattle.pgp_client.specs.declared.request.Request.{Request}
pub use Rattle.pgp_client.specs.declared.request.Request.TheVariants.{Bind, Parse}
pub use Rattle.pgp_frontend.proofs.ClientRuns.{run_more, opened_more, nothing}
pub use Rattle.pgp_frontend.specs.ClientMessage.{ClientMessage, PasswordMessage, SaslInitialResponse, SaslResponse, PasswordKind, Terminate, Startup, CancelRequest, SslRequest, GssEncRequest}
pub use Rattle.pgp_frontend.specs.Payload.{IsInRange, bytes_of, cause, WritesMessage, tag_of}
pub use Rattle.pgp_frontend_read.specs.Step.{Unread, Refuses}
pub use Rattle.pgp_frontend_read.specs.Whole.{plain}
pub use Rattle.pgp_message.specs.BackendMessage.{Message, CopyData, DataRow}
pub use Rattle.pgp_message.specs.Parts.{Setting}
pub use Rattle.pgp_message.specs.Remembered.{header_of}
pub use Rattle.pgp_message.specs.Stream.{BeginsWithHeader, IsPartial, BeginsWithKept, IsLengthFault, Step, TakesFrame, Frame, frame_bytes, Frames}
pub use Rattle.pgp_message.specs.Views.{parsed, view}
pub use Rattle.pgp_session.specs.Connection.{Advances, Comes, IsNone, IsUnfit, Nexts, Notes, SendsGiven, Sent, Shown, Stops, Took, asked_of, is_bulk, in_phase, is_logged_in, is_part, limit_of, may_ask, may_send, moved, next_name, noted, said, with_incoming, with_login, with_out, HasStarted, Wrote, begun, logged_in_at, OutOfTurn, IsLonger, IsCut, shown, in_state, left_at, dropped, fed, told, is_option}
pub use Rattle.pgp_session.specs.Incoming.{Reads, HasFrame, Waiting}
pub use Rattle.pgp_login.specs.Exchange.{Added, AddsReply}
pub use Rattle.pgp_login.specs.Fault.{fault}
pub use Rattle.pgp_login.specs.Login.{Puts}
pub use Rattle.pgp_login.specs.Machine.{asking}
pub use Rattle.pgp_session.specs.Login.{error_of, given, seen}
pub use Rattle.pgp_session.specs.Proxy.{Call, ProxiesAll, PassesOn, NoneReceived, NoneRead, OneRead, Went, Stayed, Proxies, all_forwarded, statement_of}
pub use Rattle.pgp_login.specs.Session.{ReceivedAmong, NoneWanted, OneReceived, OtherReceived}
pub use Rattle.pgp_session.specs.ServerState.{newer, status, state_after}
pub use Rattle.pgp_session.specs.Serving.{admission, signature, Due, Outcome, StepsAll, IsAsked, Proves, HasShown, IsUnderWay, IsChallenged, IsAdmitted, ReceivedIn, due, at_opening, at_password, at_first, at_final, at_open, phase_after, password_message, first_message, final_message, NamesLast, NoneStands, OneStands, OtherStands, IsNewer}
pub use Rattle.pgp_session.specs.Session.{is_secret, secrets_of, Follows, History, IsOpenedAt, Known, and_fed, and_observed, and_sent, and_wrote, good, requests_in, requests_of, turns_of, AreNamed, Rises}
pub use Rattle.pgp_session.specs.Settings.{AreInOrder, HasRoom, Said, heard, cost, cost_at, is_before, most, put_in, setting_in, StandsAt, last_after, replaced, reported, said_after, settled, value_of, nothing_said, size, without}
pub use Rattle.pgp_session.specs.declared.connection.ConnectionPhase.{ConnectionPhase}
pub use Rattle.pgp_session.specs.declared.connection.ConnectionPhase.TheVariants.{Started, Encrypting, Over}
pub use Rattle.pgp_session.specs.declared.connection_error.ConnectionError.{ConnectionError}
pub use Rattle.pgp_session.specs.Answered.{named_from, BeginsWithNone, IsFront, IsOne, kind_of_fault, named}
pub use Rattle.pgp_client.specs.declared.kind.Kind.{Kind}
pub use Rattle.pgp_client.specs.declared.request.Asked.{Asked}
pub use Rattle.pgp_client.specs.Flow.{Belong, NoneLeft, Serves, Ready}
pub use Rattle.std.specs.Cmp.Lexicographic.{slice_cmp, nat_list_cmp_total, texts_ties}
pub use Rattle.std.specs.Ordering.{is_eq, is_lt, nat_cmp, ordering_index, ordering_reverse}
pub use Rattle.pgp_session.specs.declared.monitor.Stop.{Stop}
pub use Rattle.std.specs.Bool.{Decides}
