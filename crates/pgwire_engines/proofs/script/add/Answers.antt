use Rattle.pgwire_engines.proofs.Common.{rules, arith, ◌≢◌, [], inr, Some, map, ap, ◌∙◌, map_push, split_parts, shown, IsPair}
use Rattle.pgwire_engines.proofs.ScriptLemmas.{free, never_without}
use Rattle.pgwire_engines.proofs.script.add.Goals as goal

pub returns-in_default-clause-added : goal.returns-in_default-clause-added
returns-in_default-clause-added g c =
    let part = c.args.part.now in
    let parts = split_parts 61 part c.split_once.result c.split_once.ensures.cases (omega arith) in
    let some : part ≢ [] = search rules in
    (some, never_without part (free 61 part (rw c.in_default.is at parts)))

pub returns-clause-added : goal.returns-clause-added
returns-clause-added g c =
    let part = c.args.part.now in
    let parts = split_parts 61 part (Some (c.in-Some.name, c.in-Some.value)) c.in-Some.ensures.cases (omega arith) in
    let some : part ≢ [] = search rules in
    let named : c.in-Some.name.now ≢ [] = search rules in
    let pair : IsPair part (c.in-Some.name.now, c.in-Some.value.now) = record { spelled = parts.0; first = free 61 c.in-Some.name.now parts.1; some = named } in
    inr (some, ((c.in-Some.name.now, c.in-Some.value.now), pair, ap (map shown) c.in_ok-push.ensures.items ∙ map_push shown c.args.list.now.items (c.in-Some.name, c.in-Some.value)))
