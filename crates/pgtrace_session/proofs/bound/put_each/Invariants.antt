-- What is still to come makes of the line what all was to make of it.
use Rattle.pgtrace_session.proofs.Common.{ℕ, List, None, length, string_bytes, AddsValues}
use Rattle.pgtrace_session.proofs.bound.put_each.Given as goal

abbrev pub invariant-items : goal.invariant-items
invariant-items g l = (new : List ℕ) → AddsValues l.style l.rest l.values None (string_bytes l.line) new → AddsValues l.fn.style l.fn.parameters l.fn.values None (string_bytes l.fn.line) new

abbrev pub decreases-items : goal.decreases-items
decreases-items g l = length l.values
