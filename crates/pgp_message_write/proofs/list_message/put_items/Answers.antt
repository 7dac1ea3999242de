use Rattle.pgp_message_write.proofs.Common.{rules, if_err_at}
use Rattle.pgp_message_write.proofs.Lists.{items_put, items_refused}
use Rattle.pgp_message_write.proofs.list_message.put_items.Goals as goal

pub returns-in_err-put-clause-cause : goal.returns-in_err-put-clause-cause
returns-in_err-put-clause-cause g c =
    if_err_at c.from_residual.result _ _ c.from_residual.ensures.1
    (items_refused g.I.Item.parts c.args.items.now c.loop-item.item-index c.item-item.result _ (search rules) c.item-item.is (g.B.Buffer.held c.args.buf.now) _ _ c.loop-item.invariant c.in_err-put.ensures.cause)

pub loop-item-preserved : goal.loop-item-preserved
loop-item-preserved g c =
    items_put g.I.Item.parts c.args.items.now c.loop-item.item-index c.item-item.result _ (search rules) c.item-item.is (g.B.Buffer.held c.args.buf.now) _ _ c.loop-item.invariant c.in_ok-put.ensures.ok
