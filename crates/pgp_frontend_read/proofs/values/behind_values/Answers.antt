use Rattle.pgp_frontend_read.proofs.Common.{rules, arith, ◌∷◌, ◌++◌, [], ◌≡◌, Ok, Err, Bor, List, ℕ, value_at, items_at, shown}
use Rattle.pgp_frontend_read.proofs.Loops.{none_read, item_read, item_refused, rest_err}
use Rattle.pgp_frontend_read.proofs.values.behind_values.Goals as goal

pub values-init : goal.values-init
values-init c = record { front = []; read = none_read value_at c.args.count c.args.bytes.now; few = omega arith }

pub returns-in_err-after : goal.returns-in_err-after
returns-in_err-after c =
    let is : value_at c.values.rest.now ≡ Err c.in_err-after.field-0.0 = search rules in
    rest_err (λ (b : Bor (List ℕ)). b.now) (items_at value_at c.args.count c.args.bytes.now) c.from_residual.result c.in_err-after.field-0.0 c.from_residual.ensures.1
    (item_refused value_at c.args.count c.values.counter c.args.bytes.now c.values.rest.now c.values.invariant.front c.in_err-after.field-0.0 c.values-test.true c.values.invariant.read is)

pub values-preserved : goal.values-preserved
values-preserved c =
    let is : value_at c.values.rest.now ≡ Ok (shown c.in_ok-after.field-0-0, c.in_ok-after.after.now) = search rules in
    record {
      front = c.values.invariant.front ++ shown c.in_ok-after.field-0-0 ∷ [];
      read = item_read value_at c.args.count c.values.counter c.args.bytes.now c.values.rest.now c.in_ok-after.after.now c.values.invariant.front (shown c.in_ok-after.field-0-0) c.values-test.true c.values.invariant.read is;
      few = omega (arith, c.values-test.true);
    }
