-- The names of other crates and of this one's specs that several proofs cite, passed on from one place. Declares nothing.
pub use Rattle.std.proofs.Common.{◌≡◌, ◌≢◌, ◌⊎◌, ◌∙◌, ℕ, Bool, true, false, List, [], ◌∷◌, ◌++◌, Option, Some, None, Result, Ok, Err, ap, ap₂, append_assoc, append-nil, inl, inr, length, map, refl, sym, subst, if◌then◌else◌}
pub use Rattle.pgp_client.specs.Flow.{StandsAnywhere, is_end_of_copy}
pub use Rattle.pgp_client.specs.InTurns.{AmongTurns, NoTurnLeft, OneAsked, OneAnswer, OneElse, AskedBefore, BelongInTurns}
pub use Rattle.pgp_client.specs.Taking.{asked, at_idle, awaits_none, begins, begun, behind_copy, behind_end, completes, copied, event_of, fails, first_in, follows, goes, idle_at, is_aside, is_idle, is_passed, is_sync, moved, observed, observed_at, ready, ready_at, starts_with_sync, taken, taken_as}
pub use Rattle.pgp_client.specs.Talk.{Talk}
pub use Rattle.pgp_client.specs.Telling.{Turn, Asks, Hears, Follows, FollowsTo, asked_all, asked_in, reported_in, start}
pub use Rattle.pgp_client.specs.declared.event.Event.{Event}
pub use Rattle.pgp_client.specs.declared.event.Event.TheVariants.{Part, Last, Aside, Ended}
pub use Rattle.pgp_client.specs.declared.event.Refusal.{Refusal}
pub use Rattle.pgp_client.specs.declared.event.Refusal.TheVariants.{Uncertain, Unexpected}
pub use Rattle.pgp_client.specs.declared.kind.Kind.{Kind}
pub use Rattle.pgp_client.specs.declared.request.Asked.{Asked}
pub use Rattle.pgp_client.specs.declared.request.Request.{Request}
pub use Rattle.pgp_client.specs.declared.stage.Stage.{Stage}
pub use Rattle.pgp_client.specs.declared.stage.Stage.TheVariants.{Idle, Skipping, Over, Answering, CopyingIn, TakingCopy, Failed}
pub use Rattle.pgp_client.proofs.Served.{aside_is, ok_parts, talk}
pub use Rattle.pgp_client.specs.Pool.{AreTheirs, EachHearsOwn, EachStandsAlone, EndsAnswer, EndsSession, InAnswer, IsTheirs, Lending, Lends, OfConnection, StandsAlone, asked_by, run_by_client, run_of, turns_by}
