use Rattle.pgp_saslprep.proofs.Common.{sym, ◌∙◌, ap, refl, map-id, YieldsList-from_chars, YieldsList-end, ends}
use Rattle.pgp_saslprep.proofs.Ends.{ends_push}
use Rattle.pgp_saslprep.proofs.check.ends_with.Goals as goal

pub loop-c-init : goal.loop-c-init
unfolding ends
loop-c-init c = refl

pub loop-c-preserved : goal.loop-c-preserved
loop-c-preserved c = c.lists-listed.ensures ∙ sym (ends_push c.args.table.now c.loop-c.yielded c.in-Some.c)

pub returns : goal.returns
returns c =
    let done = YieldsList-end (YieldsList-from_chars c.args.text.now c.utf8.text cc) c.loop-c.yielded _ c.loop-c.yielded_by _ _ c.in-None.is c.next.ensures.steps in
    c.loop-c.invariant ∙ ap (ends c.args.table.now) (sym (map-id c.loop-c.yielded) ∙ done.0)
