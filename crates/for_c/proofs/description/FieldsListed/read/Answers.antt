use Rattle.for_c.proofs.Common.{rules, ◌≡◌, ap, ◌∙◌, arith, subst, sym, if_err_at, field_at, FieldSpelled, FieldRefused, named, IsInside, stands}
use Rattle.pgp_message.proofs.FieldLemmas.{field_reader}
use Rattle.for_c.proofs.Listings.{reader_found, reader_shorter, text_fits, text_item, field_of_parts, field_of_no_text}
use Rattle.for_c.proofs.description.FieldsListed.read.Goals as goal

pub returns-in_err-name-clause-refused : goal.returns-in_err-name-clause-refused
returns-in_err-name-clause-refused c =
    if_err_at _ _ _ c.from_residual.ensures.1 (field_reader.refused c.args.at c.args.rest.now _ (search rules) (field_of_no_text c.args.rest.now _ c.in_err-name.ensures))

pub returns-in_err-field-clause-refused : goal.returns-in_err-field-clause-refused
returns-in_err-field-clause-refused c =
    let whole = field_of_parts c.args.rest.now c.in_ok-name.name.now c.in_ok-name.more.now _ c.in_ok-name.ensures (c.in_err-field.ensures.numbers c.in_ok-name.name.now) in
    if_err_at _ _ _ c.from_residual-in_err-field.ensures.1 (field_reader.refused c.args.at c.args.rest.now _ (search rules) whole)

pub returns-clause-item : goal.returns-clause-item
returns-clause-item c bytes from =
    let whole = field_of_parts c.args.rest.now c.in_ok-name.name.now c.in_ok-name.more.now _ c.in_ok-name.ensures (c.in_ok-field.ensures.numbers c.in_ok-name.name.now) in
    let name = text_item bytes c.args.rest.now c.in_ok-name.name.now c.in_ok-name.more.now c.args.at (search rules) c.in_ok-name.ensures from in
    let place : stands bytes c.in_ok-field.field.name ≡ c.in_ok-name.name.now = ap (λ p. stands bytes p) c.in_ok-field.ensures.name ∙ name in
    reader_found FieldSpelled FieldRefused (λ place. field_at) field_reader c.args.at c.args.rest.now (named c.in_ok-name.name.now c.in_ok-field.field) _ c.in_ok-field.more.now (search rules) whole
    (ap (λ n. named n c.in_ok-field.field) place)

pub returns-clause-shorter : goal.returns-clause-shorter
returns-clause-shorter c =
    let whole = field_of_parts c.args.rest.now c.in_ok-name.name.now c.in_ok-name.more.now _ c.in_ok-name.ensures (c.in_ok-field.ensures.numbers c.in_ok-name.name.now) in
    reader_shorter FieldSpelled FieldRefused (λ place. field_at) field_reader c.args.at c.args.rest.now (named c.in_ok-name.name.now c.in_ok-field.field) c.in_ok-field.more.now (search rules) whole

pub returns-clause-inside : goal.returns-clause-inside
returns-clause-inside c size within =
    let few = text_fits c.args.rest.now c.in_ok-name.name.now c.in_ok-name.more.now (search rules) c.in_ok-name.ensures in
    subst (λ p. IsInside size p) (sym c.in_ok-field.ensures.name) (omega (arith, within, few))
