use Rattle.pgwire_engines.proofs.Common.{rules, arith, ◌≡◌, ◌+◌, ◌∷◌, ◌++◌, length, take, drop, map, ap, sym, subst, ◌∙◌, take-append-drop, slice_split, map_push, drop_more, shown, ArePairs, is_space}
use Rattle.std.proofs.lemmas.Iterator.Consumers.{YieldsList-so_far, YieldsList-turn, YieldsList-end, YieldsList-at}
use Rattle.std.proofs.lemmas.Iterator.Splits.{YieldsList-from_str_split}
use Rattle.pgwire_engines.proofs.ScriptLemmas.{pairs_more, never_pairs}
use Rattle.pgwire_engines.proofs.script.parameters.Goals as goal

pub returns-then-not-branch-clause-other : goal.returns-then-not-branch-clause-other
returns-then-not-branch-clause-other g c =
    let text = c.args.text.now in
    let all = slice_split is_space text in
    let road = YieldsList-at c.into_iter-part-iterator.ensures.into_iter_gives (YieldsList-from_str_split 32 text (omega arith) c.split-part-items.ensures.text c.split-part-items.ensures.has_more c.split-part-items.ensures.pattern) in
    let xs = c.loop-part.yielded in
    let part = c.in-Some.part in
    let so_far = YieldsList-so_far road xs _ c.loop-part.yielded_by in
    let turn = YieldsList-turn road xs _ c.loop-part.yielded_by _ _ part c.in-Some.is c.next.ensures.steps in
    let n = length xs in
    let after = drop (n + 1) all in
    let whole : all ≡ map (λ p. p.now) xs ++ part.now ∷ after = sym (take-append-drop n all) ∙ ap (λ l. take n all ++ l) (drop_more all n part.now turn.0 ∙ ap (λ p. p ∷ after) (sym turn.1)) ∙ ap (λ l. l ++ part.now ∷ after) (sym so_far) in
    λ ps are. never_pairs (map (λ p. p.now) xs) part.now after ps (search rules) (subst (λ l. ArePairs l ps) whole are)

pub loop-part-preserved : goal.loop-part-preserved
loop-part-preserved g c =
    let xs = c.loop-part.yielded in
    let part = c.in-Some.part in
    let more = pairs_more (map (λ p. p.now) xs) part.now (map shown c.loop-part.list.items) (map shown c.add.new.list.items) c.loop-part.invariant.2 (search rules) in
    (tt, tt, rw (map_push (λ p. p.now) xs part) more)

pub returns-clause-named : goal.returns-clause-named
returns-clause-named g c =
    let text = c.args.text.now in
    let road = YieldsList-at c.into_iter-part-iterator.ensures.into_iter_gives (YieldsList-from_str_split 32 text (omega arith) c.split-part-items.ensures.text c.split-part-items.ensures.has_more c.split-part-items.ensures.pattern) in
    let end = YieldsList-end road c.loop-part.yielded _ c.loop-part.yielded_by _ _ c.in-None.is c.next.ensures.steps in
    rw end.0 at c.loop-part.invariant.2
