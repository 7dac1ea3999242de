-- What is still to come makes of the line what all was to make of it.
use Rattle.pgtrace_session.proofs.Common.{ℕ, List, length, map, string_bytes, AllByRecursion, IsPlaceIn, value_at, AddsValues}
use Rattle.pgtrace_session.proofs.row.put_values.Given as goal

abbrev pub invariant-items : goal.invariant-items
invariant-items g l = ((new : List ℕ) → AddsValues l.style l.rest (map (value_at l.buffer) l.places.items) l.places.end (string_bytes l.line) new
    → AddsValues l.fn.style l.fn.columns (map (value_at l.fn.buffer) l.fn.places.items) l.fn.places.end (string_bytes l.fn.line) new)
    × AllByRecursion (IsPlaceIn (length l.buffer)) l.places.items

abbrev pub decreases-items : goal.decreases-items
decreases-items g l = length l.places.items
