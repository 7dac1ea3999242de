-- The names of other crates and of this one's specs that several proofs cite, passed on from one place. Declares nothing.
pub use Rattle.std.proofs.Common.{◌≡◌, ℕ, Bool, true, false, Option, List, [], ◌∷◌, Some, None, refl, sym, ap, subst, ◌∙◌, ◌⊎◌, inl, inr, position, zero, suc, ◌+◌, ◌<◌, ◌≤◌, length, get_or, arith, ◌^◌, ◌-◌, ◌++◌, min, append_assoc, OnOk, Ok, Err, rules}
pub use Rattle.std.proofs.lemmas.Bool.{cases_Bool, eqb-true, le-ltb, lt-ltb, ltb-false, ltb-true}
pub use Rattle.std.proofs.lemmas.Option.{slice_get-get_or, slice_get-map}
pub use Rattle.std.proofs.lemmas.Slice.Eq.{bytes_eq-Decides}
pub use Rattle.std.specs.Prelude.{if◌then◌else◌, nat_lt, ◌==◌, Result, ⊤, ◌%◌, slice_get, swap_remove, not, take, ◌&&◌, max}
pub use Rattle.std.specs.Str.{bytes_eq}
pub use Rattle.indexmap.specs.IndexMap.{insert_entry, swap_remove_entry}
pub use Rattle.pgtrace_summary.specs.Names.{AreApart, found, names_of, put, read, without}
pub use Rattle.pgtrace_summary.specs.Places.{Ran, more_of, no_run, tallies_of, tally_of, AreKeys, Fits, FitsAt, key, key_at, picked}
pub use Rattle.pgtrace_summary.specs.Runs.{tallied, ascending, inserted, Tally, begun, capped, grown, tally, tally_after, placed, ranked, sum_of}
pub use Rattle.pgtrace_summary.specs.Summary.{Request, State, done, nothing, skipped, taken, with_waiting, did, ends, given, given_at, gives, granted, last_given, text_due, text_under, unknown, ended, error_of, failed, first_of}
pub use Rattle.std.specs.Map.{keys_of, lookup, set_value}
pub use Rattle.std.specs.Option.{option_map, option_map_or, option_to_list, unwrap_or}
pub use Rattle.std.specs.List.{AllByRecursion, flat_map, position_or_len, sum_by}
unfoldable pub use Rattle.std.specs.List.{IsDistinct}
pub use Rattle.std.proofs.lemmas.List.{append-nil, take_all, length-map}
pub use Rattle.pgtrace_summary.specs.Fold.{behind_tag, folded, folded_from, behind_next}
pub use Rattle.std.specs.List.Sorted.{IsPermutation, IsSorted, IsNonDecreasing}
pub use Rattle.std.specs.Ordering.{nat_cmp}
pub use Rattle.std.proofs.lemmas.List.Sums.{sum_by_more, sum_by-cons, sum_by-append}
pub use Rattle.std.proofs.lemmas.Cmp.{nat_list_eq_equiv}
pub use Rattle.pgtrace_summary.specs.declared.work.Work.{Work}
pub use Rattle.pgtrace_summary.specs.declared.work.Work.TheVariants.{Query, Parse, Bind, Execute}
