use Rattle.pgp_message.proofs.Common.{rules, ◌≡◌, ◌≤◌, length, arith, ap, IfOk}
use Rattle.pgp_base.proofs.RestSteps.{taken_shorter}
use Rattle.pgp_message.proofs.walk.data_row_ranges.DataRowRangesFallibleIterator.next.Goals as goal

pub invariant_of-self-in-Some : goal.invariant_of-self-in-Some
invariant_of-self-in-Some c =
    let fits : length c.self.inside.rest.bytes ≤ c.self.inside.len = c.self.invariant in
    let same : c.due.new.self ≡ c.self.inside.rest = search rules in
    let buf : c.in-Some.buf.now ≡ c.due.new.self.bytes = search rules in
    let shorter : IfOk c.range_at.result (λ x. length x.1.now ≤ length c.due.new.self.bytes) = rw (← buf) c.range_at.ensures.shorter in
    omega (arith, fits, ap (λ r. length r.bytes) same, taken_shorter (λ x. x.0) (λ x. x.1.now) c.due.new.self c.range_at.result c.take.result c.take.new.self shorter c.take.ensures)
