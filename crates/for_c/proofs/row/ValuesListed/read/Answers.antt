use Rattle.for_c.proofs.Common.{rules, arith, inl, inr, cases_Bool, if_err_at, range_at, RangeSpelled, RangeRefused, range_of}
use Rattle.pgp_message.proofs.RangeLemmas.{range_reader}
use Rattle.for_c.proofs.Compound.{range_inside}
use Rattle.for_c.proofs.Listings.{reader_shorter}
use Rattle.for_c.proofs.row.ValuesListed.read.Goals as goal

pub returns-in_err-more-clause-refused : goal.returns-in_err-more-clause-refused
returns-in_err-more-clause-refused c =
    if_err_at _ _ _ c.from_residual.ensures.1 (range_reader.refused c.args.at c.args.rest.now _ (search rules) c.in_err-more.ensures.read)

pub returns-clause-item : goal.returns-clause-item
returns-clause-item c bytes stands =
    range_reader.found c.args.at c.args.rest.now (range_of c.in_ok-more.column) c.in_ok-more.more.now (search rules) c.in_ok-more.ensures.read

pub returns-clause-shorter : goal.returns-clause-shorter
returns-clause-shorter c =
    reader_shorter RangeSpelled RangeRefused range_at range_reader c.args.at c.args.rest.now (range_of c.in_ok-more.column) c.in_ok-more.more.now (search rules) c.in_ok-more.ensures.read

pub returns-clause-inside : goal.returns-clause-inside
returns-clause-inside c size within =
    let column = c.in_ok-more.column in
    elim (cases_Bool column.is_null) [
      | inl null ↦ let none = c.in_ok-more.ensures.null null in (omega (arith, none.0, none.1), omega (arith, none.1))
      | inr full ↦ range_inside c.args.rest.now c.in_ok-more.more.now column c.args.at size full within (range_reader.found c.args.at c.args.rest.now (range_of column) c.in_ok-more.more.now (search rules) c.in_ok-more.ensures.read)
    ]
