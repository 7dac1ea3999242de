use Rattle.for_c.proofs.Common.{rules, arith, subst, sym, StandsAt, query_item, shown_query, IsQueryItemInside, query_item_in}
use Rattle.pgp_values.proofs.QueryLemmas.{query_is_item}
use Rattle.for_c.proofs.TextSearch.{query_inside, query_long, query_placed}
use Rattle.for_c.proofs.tsquery.QueryItemsListed.read.Goals as goal

pub returns-in-Err-clause-refused : goal.returns-in-Err-clause-refused
returns-in-Err-clause-refused c = query_is_item.part.refused c.args.rest.now _ (search rules) c.in-Err.ensures

pub overflow_sub-end : goal.overflow_sub-end
overflow_sub-end c =
    omega (arith, query_long c.args.rest.now c.in-Ok.more.now _ (query_is_item.part.found c.args.rest.now _ c.in-Ok.more.now (search rules) c.in-Ok.ensures))

pub returns-in-Ok-clause-item : goal.returns-in-Ok-clause-item
returns-in-Ok-clause-item c bytes from =
    let x = shown_query c.in-Ok.item in
    let b = query_is_item.part.found c.args.rest.now x c.in-Ok.more.now (search rules) c.in-Ok.ensures in
    subst (λ i. StandsAt (λ place. query_item.part.Spelled) c.args.at c.args.rest.now (query_item_in bytes i) c.in-Ok.more.now) (sym c.item_before.ensures) (query_placed bytes c.args.rest.now c.in-Ok.more.now c.args.at _ from (search rules) x b)

pub returns-in-Ok-clause-shorter : goal.returns-in-Ok-clause-shorter
returns-in-Ok-clause-shorter c =
    omega (arith, query_long c.args.rest.now c.in-Ok.more.now _ (query_is_item.part.found c.args.rest.now _ c.in-Ok.more.now (search rules) c.in-Ok.ensures))

pub returns-in-Ok-clause-inside : goal.returns-in-Ok-clause-inside
returns-in-Ok-clause-inside c size within =
    let x = shown_query c.in-Ok.item in
    let b = query_is_item.part.found c.args.rest.now x c.in-Ok.more.now (search rules) c.in-Ok.ensures in
    subst (λ i. IsQueryItemInside size i) (sym c.item_before.ensures) (query_inside c.args.rest.now c.in-Ok.more.now x c.args.at _ size b (search rules) within)
