use Rattle.pgp_saslprep.proofs.Common.{◌≡◌, true, false, sym, ◌∙◌, IsUtf8-past_char, chars_past_char, chars_of_empty, in_table}
use Rattle.pgp_saslprep.proofs.check.has_any.Goals as goal

pub returns-then-lists : goal.returns-then-lists
returns-then-lists c =
    let held = c.loop-c.invariant in
    let step = chars_past_char _ _ c.in-Some.c held.0 c.in-Some.ensures.steps.0 in
    let listed : in_table c.args.table.now c.in-Some.c ≡ true = sym c.lists.ensures ∙ c.if-lists.true in
    rw (step, listed) at held.1

pub loop-c-preserved : goal.loop-c-preserved
loop-c-preserved c =
    let held = c.loop-c.invariant in
    let parts = c.in-Some.ensures.steps.0 in
    let other : in_table c.args.table.now c.in-Some.c ≡ false = sym c.lists.ensures ∙ c.if-lists.false in
    (IsUtf8-past_char _ _ c.in-Some.c held.0 parts, rw (chars_past_char _ _ c.in-Some.c held.0 parts, other) at held.1)

pub returns : goal.returns
returns c = rw (chars_of_empty _ c.in-None.ensures.steps.0.0) at c.loop-c.invariant.1
