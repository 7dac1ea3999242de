-- What is left is shown alike.
use Rattle.std.specs.Prelude.{◌≡◌, ◌+◌}
use Rattle.pgp_value_text.proofs.Common.{trimmed}
use Rattle.pgp_value_text.proofs.rounded.shortened.Given as goal

abbrev pub invariant-zeros : goal.invariant-zeros
invariant-zeros l = (trimmed l.places l.number ≡ trimmed l.fn.v.places l.fn.v.number) × (l.places + l.counter ≡ l.fn.v.places)
