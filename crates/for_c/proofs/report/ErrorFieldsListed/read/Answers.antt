use Rattle.for_c.proofs.Common.{rules, ap, arith, if_err_at, error_field_at, ErrorPart, ErrorFieldSpelled, ErrorFieldRefused, error_field_reader, error_field_falls}
use Rattle.for_c.proofs.Listings.{reader_found, error_value_fits, error_value_item}
use Rattle.for_c.proofs.report.ErrorFieldsListed.read.Goals as goal

pub returns-in_err-code-clause-refused : goal.returns-in_err-code-clause-refused
returns-in_err-code-clause-refused c =
    if_err_at _ _ _ c.from_residual.ensures.1 (error_field_reader.refused c.args.at c.args.rest.now _ (search rules) c.in_err-code.ensures)

pub overflow_add-value : goal.overflow_add-value
overflow_add-value c = omega (arith, c.requires, error_field_falls c.args.rest.now _ c.in_ok-code.more.now c.in_ok-code.ensures)

pub returns-clause-item : goal.returns-clause-item
returns-clause-item c bytes stands =
    let x : ErrorPart = record { code = c.in_ok-code.code; value = c.in_ok-code.value.now } in
    reader_found ErrorFieldSpelled ErrorFieldRefused (λ place. error_field_at) error_field_reader c.args.at c.args.rest.now x _ c.in_ok-code.more.now (search rules) c.in_ok-code.ensures
    (ap (λ v. record { code = c.in_ok-code.code; value = v }) (error_value_item bytes c.args.rest.now x c.in_ok-code.more.now c.args.at (search rules) c.in_ok-code.ensures stands))

pub returns-clause-shorter : goal.returns-clause-shorter
returns-clause-shorter c = error_field_falls c.args.rest.now _ c.in_ok-code.more.now c.in_ok-code.ensures

pub returns-clause-inside : goal.returns-clause-inside
returns-clause-inside c size within =
    let x : ErrorPart = record { code = c.in_ok-code.code; value = c.in_ok-code.value.now } in
    omega (arith, within, error_value_fits c.args.rest.now x c.in_ok-code.more.now (search rules) c.in_ok-code.ensures)
