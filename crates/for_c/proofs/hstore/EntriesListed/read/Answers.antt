use Rattle.for_c.proofs.Common.{rules, arith, subst, sym, if_err_at, Entry, shown, entry_item, IsColumnInside}
use Rattle.for_c.proofs.Compound.{column_inside, entry_long, entry_placed, key_inside}
use Rattle.for_c.proofs.hstore.EntriesListed.read.Goals as goal

pub returns-in_err-key-clause-refused : goal.returns-in_err-key-clause-refused
returns-in_err-key-clause-refused c =
    if_err_at _ _ _ c.from_residual.ensures.1 (entry_item.part.refused c.args.rest.now _ (search rules) c.in_err-key.ensures)

pub overflow_add-key : goal.overflow_add-key
overflow_add-key c =
    omega (arith, c.requires, entry_long c.args.rest.now c.in_ok-key.more.now _ (entry_item.part.found c.args.rest.now _ c.in_ok-key.more.now (search rules) c.in_ok-key.ensures))

pub overflow_sub-rest : goal.overflow_sub-rest
overflow_sub-rest c =
    omega (arith, entry_long c.args.rest.now c.in_ok-key.more.now _ (entry_item.part.found c.args.rest.now _ c.in_ok-key.more.now (search rules) c.in_ok-key.ensures))

pub returns-clause-item : goal.returns-clause-item
returns-clause-item c bytes from =
    let x : Entry = (c.in_ok-key.key.now, shown c.in_ok-key.value) in
    let b = entry_item.part.found c.args.rest.now x c.in_ok-key.more.now (search rules) c.in_ok-key.ensures in
    entry_placed bytes c.args.rest.now c.in_ok-key.more.now x c.args.at _ from b c.column_before-value.ensures

pub returns-clause-shorter : goal.returns-clause-shorter
returns-clause-shorter c =
    omega (arith, entry_long c.args.rest.now c.in_ok-key.more.now _ (entry_item.part.found c.args.rest.now _ c.in_ok-key.more.now (search rules) c.in_ok-key.ensures))

pub returns-clause-inside : goal.returns-clause-inside
returns-clause-inside c size within =
    let x : Entry = (c.in_ok-key.key.now, shown c.in_ok-key.value) in
    let b = entry_item.part.found c.args.rest.now x c.in_ok-key.more.now (search rules) c.in_ok-key.ensures in (
      omega (arith, within, key_inside c.args.rest.now c.in_ok-key.more.now x b),
      subst (λ v. IsColumnInside size v) (sym c.column_before-value.ensures) (column_inside (shown c.in_ok-key.value) _ size (omega (arith, within))),
    )
