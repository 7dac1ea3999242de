use Rattle.pgtrace_lines.proofs.Common.{arith, ◌++◌, map, ap, ◌∙◌}
use Rattle.std.proofs.lemmas.Iterator.Consumers.{YieldsList-end, YieldsList-at}
use Rattle.std.proofs.lemmas.Iterator.Splits.{YieldsList-from_str_split}
use Rattle.std.specs.List.{filter_map}
use Rattle.pgtrace_lines.specs.LineNames.{name_meant}
use Rattle.pgtrace_lines.proofs.LineNames.{between_more}
use Rattle.pgtrace_lines.proofs.line_names.add_between.Goals as goal

pub loop-text-preserved : goal.loop-text-preserved
loop-text-preserved g c = (
  tt,
  tt,
  between_more (map (λ name. name.now) c.args.names.now.items) (map (λ name. name.now) c.loop-text.names.items) (map (λ name. name.now) c.add_name.new.names.items) c.loop-text.yielded c.in-Some.text _ c.loop-text.invariant.2 c.in_ok-add_name.ensures.names c.line_name.ensures,
)

pub returns-clause-names : goal.returns-clause-names
returns-clause-names g c =
    let word = c.args.word.now in
    let road = YieldsList-at c.into_iter-text-iterator.ensures.into_iter_gives (YieldsList-from_str_split 44 word (omega arith) c.split-text-items.ensures.text c.split-text-items.ensures.has_more c.split-text-items.ensures.pattern) in
    let end = YieldsList-end road c.loop-text.yielded _ c.loop-text.yielded_by _ _ c.in-None.is c.next.ensures.steps in
    c.loop-text.invariant.2 ∙ ap (λ l. map (λ name. name.now) c.args.names.now.items ++ filter_map name_meant l) end.0
