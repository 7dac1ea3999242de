-- The names of other crates and of this one's specs that several proofs cite, passed on from one place. Declares nothing.
pub use Rattle.std.proofs.Common.{◌≡◌, ℕ, ◌+◌, Bool, true, false, List, [], ◌∷◌, Option, Some, None, Ok, Err, ◌∙◌, Contains, add-one, ap, arith, inl, inr, refl, sym, subst, Result, length, nat_le, le-leb, if◌then◌else◌, ◌≢◌, ◌++◌, append_assoc, append-nil, ◌⊎◌, ap₂, ◌-◌, ◌≤◌, take, drop, length-drop, ◌<◌, ◌==◌, leb-true, eqb-true, eq-eqb, map}
pub use Rattle.pgp_client.specs.Flow.{Among, NoneLeft, OneOfThem, OneAside, StandsAnywhere, Notices, Notifies, Sets, Belong, CopyEnds, DoneStands, SyncStands, CopyBreaks, BreaksHere, At, Ready, Skips, Queries, Fails, Progress, NoResult, SomeResult, PastBoth, is_end_of_copy, parts, Serves, Many, NoMore, OneMore, Exchange, Exchanged, Negotiates, has_result, IsResult, Selects, Completes, IsEmpty, CopiesBoth, CopiesOut, AllReceived, MoreStand, SomeColumns, NoColumns, Answers, LogsIn, Parses, Binds, Closes, DescribesPortal, DescribesStatement, Returns, ReturnsNothing, GivesCopy, Calls, Syncs, IsFront, IsResultFront, is_extended, stands_alone, BreaksBehind, EndsRows}
pub use Rattle.pgp_client.specs.InTurns.{AmongTurns, NoTurnLeft, OneAsked, OneAnswer, OneElse, BelongInTurns, failed_copy}
pub use Rattle.pgp_client.specs.Taking.{begins, begun, first_in, follows, goes, observed, is_aside, moved, ready, taken, taken_as, behind_copy, completes, copied, fails, observed_at, is_sync, starts_with_sync, asked, at_idle, behind_end, event_of, is_passed, has_end, awaits_none, ready_at, Moves, Takes, is_copying, idle_at, is_idle}
pub use Rattle.pgp_client.specs.Talk.{Talk, Kept, shown}
pub use Rattle.pgp_client.specs.Telling.{Doubts, Asks, Follows, Hears, TakesAll, Turn, asked_in, observed_in, reported_in, Tells, asked_all, InOrder, NoneReported, PartReported, LastReported, GoneBy, AsideReported, EndReported, names, start, FollowsTo}
pub use Rattle.pgp_client.specs.declared.event.Event.{Event}
pub use Rattle.pgp_client.specs.declared.event.Event.TheVariants.{Aside, Part, Last, Ended}
pub use Rattle.pgp_client.specs.declared.event.Refusal.{Refusal}
pub use Rattle.pgp_client.specs.declared.event.Refusal.TheVariants.{Uncertain, Unexpected}
pub use Rattle.pgp_client.specs.declared.kind.Kind.{Kind}
pub use Rattle.pgp_client.specs.declared.kind.Kind.TheVariants.{ErrorResponse, NoticeResponse, NotificationResponse, ParameterStatus, CopyInResponse, ReadyForQuery}
pub use Rattle.pgp_client.specs.declared.request.Asked.{Asked}
pub use Rattle.pgp_client.specs.declared.request.Request.{Request}
pub use Rattle.pgp_client.specs.declared.slots.Slot.{Slot}
pub use Rattle.pgp_client.specs.declared.stage.Stage.{Stage}
pub use Rattle.pgp_client.specs.declared.stage.Stage.TheVariants.{Idle, Skipping, CopyingIn, TakingCopy, Answering, Failed, Over, Rows, CopyingOut, CopyingBoth, CopiedBoth, Syncing, Authenticating, Starting, Parsing, Binding, Closing, Describing, DescribingRows, Executing, Returning, GivingCopy, GaveCopy, Calling, Called}
