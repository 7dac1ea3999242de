use Rattle.pgp_frontend_read.proofs.Common.{rules, arith, ◌≡◌, Ok, List, ℕ, Option, IsBytes, value_at, items_at}
use Rattle.pgp_frontend_read.proofs.Loops.{values_shorter, values_left, values_read, count_tail}
use Rattle.pgp_frontend_read.proofs.values.Values.read.Goals as goal

pub overflow_sub-rest : goal.overflow_sub-rest
overflow_sub-rest c =
    let each : IsBytes c.args.bytes.now = λ i. omega (arith, c.type_inv.bytes i) in
    let here : IsBytes c.in_ok-count.rest.now = count_tail c.args.bytes.now c.in_ok-count.count c.in_ok-count.rest.now each (search rules) in
    let made : (xs : List (Option (List ℕ))) × (items_at value_at c.in_ok-count.count c.in_ok-count.rest.now ≡ Ok (xs, c.in_ok-behind.behind.now)) = c.in_ok-behind.ensures in
    values_shorter c.in_ok-count.count c.in_ok-count.rest.now c.in_ok-behind.behind.now made.0 here made.1

pub invariant_of-result : goal.invariant_of-result
invariant_of-result c =
    let each : IsBytes c.args.bytes.now = λ i. omega (arith, c.type_inv.bytes i) in
    let here : IsBytes c.in_ok-count.rest.now = count_tail c.args.bytes.now c.in_ok-count.count c.in_ok-count.rest.now each (search rules) in
    let made : (xs : List (Option (List ℕ))) × (items_at value_at c.in_ok-count.count c.in_ok-count.rest.now ≡ Ok (xs, c.in_ok-behind.behind.now)) = c.in_ok-behind.ensures in
    values_left c.in_ok-count.count c.in_ok-count.rest.now c.split_at.result.0.now c.in_ok-behind.behind.now made.0 c.new.result here made.1 c.split_at.ensures.front c.new.ensures

pub returns : goal.returns
returns c =
    let each : IsBytes c.args.bytes.now = λ i. omega (arith, c.type_inv.bytes i) in
    let here : IsBytes c.in_ok-count.rest.now = count_tail c.args.bytes.now c.in_ok-count.count c.in_ok-count.rest.now each (search rules) in
    let made : (xs : List (Option (List ℕ))) × (items_at value_at c.in_ok-count.count c.in_ok-count.rest.now ≡ Ok (xs, c.in_ok-behind.behind.now)) = c.in_ok-behind.ensures in
    values_read c.args.bytes.now c.in_ok-count.count c.in_ok-count.rest.now c.split_at.result.0.now c.in_ok-behind.behind.now made.0 c.new.result here (search rules) made.1 c.split_at.ensures.front c.new.ensures
