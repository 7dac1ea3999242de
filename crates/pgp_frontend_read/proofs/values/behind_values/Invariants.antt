use Rattle.pgp_frontend_read.proofs.Common.{◌≡◌, ◌-◌, ◌≤◌, List, ℕ, Option, value_at, items_at, behind}
use Rattle.pgp_frontend_read.proofs.values.behind_values.Given as goal

-- after values that were read
abbrev pub invariant-values : goal.invariant-values
invariant-values l = record {
  front : List (Option (List ℕ));
  read : items_at value_at l.count l.bytes ≡ behind front (items_at value_at (l.count - l.counter) l.rest);
  few : l.counter ≤ l.count;
}
