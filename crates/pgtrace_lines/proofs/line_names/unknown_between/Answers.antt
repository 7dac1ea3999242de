use Rattle.pgtrace_lines.proofs.Common.{arith, ap, ◌∙◌}
use Rattle.std.proofs.lemmas.Iterator.Consumers.{YieldsList-end, YieldsList-at}
use Rattle.std.proofs.lemmas.Iterator.Splits.{YieldsList-from_str_split}
use Rattle.std.specs.List.{find}
use Rattle.pgtrace_lines.specs.LineNames.{is_unknown}
use Rattle.pgtrace_lines.proofs.LineNames.{unknown_more}
use Rattle.pgtrace_lines.proofs.line_names.unknown_between.Goals as goal

pub loop-text-preserved : goal.loop-text-preserved
loop-text-preserved c = (tt, tt, unknown_more _ _ c.loop-text.yielded c.in-Some.text c.loop-text.invariant.2 c.first_unknown-unknown.ensures)

pub returns : goal.returns
returns c =
    let word = c.args.word.now in
    let road = YieldsList-at c.into_iter-text-iterator.ensures.into_iter_gives (YieldsList-from_str_split 44 word (omega arith) c.split-text-items.ensures.text c.split-text-items.ensures.has_more c.split-text-items.ensures.pattern) in
    let end = YieldsList-end road c.loop-text.yielded _ c.loop-text.yielded_by _ _ c.in-None.is c.next.ensures.steps in
    c.loop-text.invariant.2 ∙ ap (find is_unknown) end.0
