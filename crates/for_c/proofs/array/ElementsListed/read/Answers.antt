use Rattle.for_c.proofs.Common.{rules, ◌<◌, length, refl, sym, subst, ap, ◌∙◌, arith, if_err_at, InvalidValueLength, shown, element_reader, value_in, IsColumnInside}
use Rattle.pgp_types.specs.ArrayReading.{element_at}
use Rattle.pgp_types.specs.Part.{nullable}
use Rattle.for_c.proofs.Compound.{column_inside, element_in}
use Rattle.for_c.proofs.Listings.{reader_found, reader_shorter}
use Rattle.for_c.proofs.array.ElementsListed.read.Goals as goal

pub returns-in_err-value-clause-refused : goal.returns-in_err-value-clause-refused
returns-in_err-value-clause-refused c =
    if_err_at _ _ _ c.from_residual.ensures.1 (element_reader.refused c.args.at c.args.rest.now _ (search rules) c.in_err-value.ensures)

pub overflow_sub-rest : goal.overflow_sub-rest
overflow_sub-rest c =
    let shorter : length c.in_ok-value.more.now < length c.args.rest.now =
    reader_shorter (λ place. (nullable InvalidValueLength).Spelled) (nullable InvalidValueLength).Refused (λ place. element_at) element_reader c.args.at c.args.rest.now _ c.in_ok-value.more.now (search rules) c.in_ok-value.ensures in
    omega (arith, shorter)

pub returns-clause-item : goal.returns-clause-item
returns-clause-item c bytes from =
    let s = element_reader.found c.args.at c.args.rest.now _ c.in_ok-value.more.now (search rules) c.in_ok-value.ensures in
    let placed = element_in bytes c.args.rest.now s.front c.in_ok-value.more.now (shown c.in_ok-value.value) c.args.at _ from s.spelled s.whole refl in
    reader_found (λ place. (nullable InvalidValueLength).Spelled) (nullable InvalidValueLength).Refused (λ place. element_at) element_reader c.args.at c.args.rest.now (shown c.in_ok-value.value) _ c.in_ok-value.more.now (search rules) c.in_ok-value.ensures
    (ap (λ x. value_in bytes x) c.column_before-column.ensures ∙ placed)

pub returns-clause-shorter : goal.returns-clause-shorter
returns-clause-shorter c =
    reader_shorter (λ place. (nullable InvalidValueLength).Spelled) (nullable InvalidValueLength).Refused (λ place. element_at) element_reader c.args.at c.args.rest.now _ c.in_ok-value.more.now (search rules) c.in_ok-value.ensures

pub returns-clause-inside : goal.returns-clause-inside
returns-clause-inside c size within =
    subst (λ x. IsColumnInside size x) (sym c.column_before-column.ensures) (column_inside (shown c.in_ok-value.value) _ size (omega (arith, within)))
