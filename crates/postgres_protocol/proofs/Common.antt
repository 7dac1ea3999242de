-- The names of other crates and of this one's specs that several proofs cite, passed on from one place. Declares nothing.
pub use Rattle.std.proofs.Common.{◌≡◌, ℕ, ◌+◌, ◌≤◌, ℤ, pos, List, [], ◌∷◌, ◌++◌, length, take, Option, Some, None, Result, Ok, Err, MutBor, refl, sym, ap, subst, ◌∙◌, inl, inr, arith, ◌*◌, map, length-append, Bor, rules, ◌≢◌, ◌<◌, zero, suc, get_or, false, ◌-◌}
pub use Rattle.std.proofs.iter.Yields.{copies, fronts}
pub use Rattle.std.proofs.lemmas.Iterator.{YieldsList, YieldsList-from_slice}
pub use Rattle.std.proofs.lemmas.Iterator.Consumers.{YieldsList-from_copied}
pub use Rattle.std.proofs.lemmas.List.{append-nil, map-append}
pub use Rattle.std.specs.List.{flat_map, slice_get}
pub use Rattle.std.specs.Option.{option_to_list, option_map, option_len}
pub use Rattle.std.specs.Prelude.{◌⊎◌, IfErr, is_some, FitsSigned}
pub use Rattle.pgp_base.proofs.Causes.{either_left, either_right, either_none, first-append, either_then, first_here, length_past}
pub use Rattle.pgp_base.proofs.Needs.{flat_more, counted_length, nullable_least, sized_wants, counted_wants, wants_window, sized_length}
pub use Rattle.pgp_base.proofs.Parts.{nothing_more, wants_more, if_err_at, length-uint32, more_twice, front_left, wants_then, length-int32}
pub use Rattle.pgp_base.specs.Calls.{value_of, Puts, Gives, Runs, SoFar, KeepsValue, Yielded}
pub use Rattle.pgp_base.specs.Cause.{Cause, Wants, either, first, length_cause, nullable_cause}
pub use Rattle.pgp_base.specs.Held.{Held, ◌⊕◌}
pub use Rattle.pgp_base.specs.Window.{window_held, window_lacks}
pub use Rattle.pgp_base.specs.Wire.{uint16, uint32, int16, nullable, counted, int32, oid}
pub use Rattle.pgp_base.specs.declared.error.BindError.{BindError}
pub use Rattle.pgp_base.specs.declared.error.BindError.TheVariants.{Conversion, Serialization}
pub use Rattle.pgp_base.specs.declared.error.Error.{Error}
pub use Rattle.pgp_base.specs.declared.number.IsNull.{IsNull}
pub use Rattle.pgp_base.specs.declared.number.IsNull.TheVariants.{No, Yes}
pub use Rattle.pgp_frontend.proofs.Causes.{parts_first, never_memory}
pub use Rattle.pgp_frontend.proofs.ClientRuns.{same_tag, is_reported, kind_there, no_run, run_more, runs_one, runs_bytes, runs_front}
pub use Rattle.pgp_frontend.proofs.Lists.{parse_refused, all_same, some_same, all_given, some_given}
pub use Rattle.pgp_frontend.proofs.Needs.{null_length, bind_length, joined_more, framed_wants}
pub use Rattle.pgp_frontend.specs.ClientMessage.{ClientMessage, Bind, Parse, SaslInitialResponse, SaslResponse, CopyData}
pub use Rattle.pgp_frontend.specs.Given.{Arrived, Serves, before_values, BindWhole, BindSoFar, BindRefused, WritesBind, ParseWhole, ParseSoFar}
pub use Rattle.pgp_frontend.specs.Payload.{Part, Text, Int16s, Values, part_cause, parts, parts_cause, joined, bytes_of, cause, WritesMessage, tag_of, kind_of, payload}
pub use Rattle.pgp_message.specs.Table.{Table, column, value_at}
pub use Rattle.pgp_types.specs.Array.{array_bytes, array_cause, Array, dimension_bytes, has_null, flag_of}
pub use Rattle.pgp_types.specs.declared.array.ArrayDimension.{ArrayDimension}
pub use Rattle.postgres_protocol.specs.ArraySteps.{Give, RefusesAt, array_of, ElementsWant, ArrayRefused, ArrayWants, WritesSteps, binding, BindWants, BindsArray, gives, StepRefuses, HasCause, IsTooLong, Does, ArrayAppended}
pub use Rattle.postgres_protocol.specs.OneValue.{Target, unnamed, one_bound, names_cause, PutsOne, NamesRefused, OneTooLong, OneWants, OneRefused, OneBinds, BindsOne}
pub use Rattle.postgres_protocol.specs.RowValues.{IsInt4, AreInt4}
pub use Rattle.postgres_protocol.specs.declared.laws.array.Step.{Step}
pub use Rattle.postgres_protocol.specs.declared.laws.array.Step.TheVariants.{Append, Null, Refuse}
