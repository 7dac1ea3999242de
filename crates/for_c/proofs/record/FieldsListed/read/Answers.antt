use Rattle.for_c.proofs.Common.{rules, arith, subst, sym, if_err_at, shown, Field, field_item, IsColumnInside}
use Rattle.for_c.proofs.Compound.{column_inside}
use Rattle.for_c.proofs.RecordWalks.{field_long, field_placed}
use Rattle.for_c.proofs.record.FieldsListed.read.Goals as goal

pub returns-in_err-of_type-clause-refused : goal.returns-in_err-of_type-clause-refused
returns-in_err-of_type-clause-refused c =
    if_err_at _ _ _ c.from_residual.ensures.1 (field_item.part.refused c.args.rest.now _ (search rules) c.in_err-of_type.ensures)

pub overflow_sub-rest : goal.overflow_sub-rest
overflow_sub-rest c =
    omega (arith, field_long c.args.rest.now c.in_ok-of_type.more.now _ (field_item.part.found c.args.rest.now _ c.in_ok-of_type.more.now (search rules) c.in_ok-of_type.ensures))

pub returns-clause-item : goal.returns-clause-item
returns-clause-item c bytes from =
    let x : Field = (c.in_ok-of_type.of_type, shown c.in_ok-of_type.value) in
    let b = field_item.part.found c.args.rest.now x c.in_ok-of_type.more.now (search rules) c.in_ok-of_type.ensures in
    field_placed bytes c.args.rest.now c.in_ok-of_type.more.now x c.args.at _ from b c.column_before-value.ensures

pub returns-clause-shorter : goal.returns-clause-shorter
returns-clause-shorter c =
    omega (arith, field_long c.args.rest.now c.in_ok-of_type.more.now _ (field_item.part.found c.args.rest.now _ c.in_ok-of_type.more.now (search rules) c.in_ok-of_type.ensures))

pub returns-clause-inside : goal.returns-clause-inside
returns-clause-inside c size within =
    subst (λ v. IsColumnInside size v) (sym c.column_before-value.ensures) (column_inside (shown c.in_ok-of_type.value) _ size (omega (arith, within)))
