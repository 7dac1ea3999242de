use Rattle.for_c.proofs.Common.{rules, arith}
use Rattle.for_c.proofs.Alls.{none_more, none_so_far, one_more}
use Rattle.for_c.proofs.cursor.all_counted.Goals as goal

pub loop-at-init : goal.loop-at-init
loop-at-init g c = none_so_far _ _ _ _ _ _

pub loop-at-preserved : goal.loop-at-preserved
loop-at-preserved g c =
    one_more _ _ _ _ _ _ _ _ c.loop-at.at c.loop-at.items _ (omega (arith, c.loop-at-test.true, c.loop-at.auto.items)) c.loop-at.invariant
    (c.next_counted-code.ensures.item (search rules)) (c.next_counted-code.ensures.inside (search rules))

pub returns-then-code-eq-DONE-clause-items : goal.returns-then-code-eq-DONE-clause-items
returns-then-code-eq-DONE-clause-items g c =
    let left = c.next_counted-code.ensures.left (search rules) in
    rw left.0 (none_more _ _ _ _ _ _ _ c.loop-at.at c.loop-at.items _ _ left.1 c.loop-at.invariant).taken

pub returns-then-code-eq-DONE-clause-inside : goal.returns-then-code-eq-DONE-clause-inside
returns-then-code-eq-DONE-clause-inside g c =
    (none_more _ _ _ _ _ _ _ c.loop-at.at c.loop-at.items _ _ (c.next_counted-code.ensures.left (search rules)).1 c.loop-at.invariant).inside

pub returns-then-code-eq-DONE-clause-behind : goal.returns-then-code-eq-DONE-clause-behind
returns-then-code-eq-DONE-clause-behind g c =
    (none_more _ _ _ _ _ _ _ c.loop-at.at c.loop-at.items _ _ (c.next_counted-code.ensures.left (search rules)).1 c.loop-at.invariant).behind

pub returns-else-code-eq-DONE-clause-items : goal.returns-else-code-eq-DONE-clause-items
returns-else-code-eq-DONE-clause-items g c =
    let left = c.next_counted-code.ensures.left (search rules) in
    rw left.0 (none_more _ _ _ _ _ _ _ c.loop-at.at c.loop-at.items _ _ left.1 c.loop-at.invariant).taken

pub returns-else-code-eq-DONE-clause-inside : goal.returns-else-code-eq-DONE-clause-inside
returns-else-code-eq-DONE-clause-inside g c =
    (none_more _ _ _ _ _ _ _ c.loop-at.at c.loop-at.items _ _ (c.next_counted-code.ensures.left (search rules)).1 c.loop-at.invariant).inside

pub returns-else-code-eq-DONE-clause-behind : goal.returns-else-code-eq-DONE-clause-behind
returns-else-code-eq-DONE-clause-behind g c =
    (none_more _ _ _ _ _ _ _ c.loop-at.at c.loop-at.items _ _ (c.next_counted-code.ensures.left (search rules)).1 c.loop-at.invariant).behind
