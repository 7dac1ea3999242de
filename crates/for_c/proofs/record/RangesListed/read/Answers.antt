use Rattle.for_c.proofs.Common.{rules, arith, if_err_at, member_item}
use Rattle.for_c.proofs.RecordWalks.{range_long, range_stands}
use Rattle.for_c.proofs.record.RangesListed.read.Goals as goal

pub returns-in_err-range-clause-refused : goal.returns-in_err-range-clause-refused
returns-in_err-range-clause-refused c =
    if_err_at _ _ _ c.from_residual.ensures.1 (member_item.part.refused c.args.rest.now _ (search rules) c.in_err-range.ensures)

pub overflow_add-range : goal.overflow_add-range
overflow_add-range c =
    omega (arith, c.requires, range_long c.args.rest.now c.in_ok-range.more.now _ (member_item.part.found c.args.rest.now _ c.in_ok-range.more.now (search rules) c.in_ok-range.ensures))

pub returns-clause-item : goal.returns-clause-item
returns-clause-item c bytes from =
    range_stands bytes c.args.rest.now c.in_ok-range.more.now c.in_ok-range.range.now c.args.at from (member_item.part.found c.args.rest.now c.in_ok-range.range.now c.in_ok-range.more.now (search rules) c.in_ok-range.ensures)

pub returns-clause-shorter : goal.returns-clause-shorter
returns-clause-shorter c =
    omega (arith, range_long c.args.rest.now c.in_ok-range.more.now _ (member_item.part.found c.args.rest.now _ c.in_ok-range.more.now (search rules) c.in_ok-range.ensures))

pub returns-clause-inside : goal.returns-clause-inside
returns-clause-inside c size within =
    omega (arith, within, range_long c.args.rest.now c.in_ok-range.more.now _ (member_item.part.found c.args.rest.now _ c.in_ok-range.more.now (search rules) c.in_ok-range.ensures))
