use Rattle.pgp_message_write.proofs.Common.{flat_map, if_err_at, parts_of}
use Rattle.pgp_message_write.proofs.Lists.{puts_then, refused_before, refused_behind}
use Rattle.pgp_message_write.proofs.list_message.put_all.Goals as goal

pub returns-in_err-put_fields-clause-cause : goal.returns-in_err-put_fields-clause-cause
returns-in_err-put_fields-clause-cause g c =
    if_err_at _ _ _ c.from_residual.ensures.1 (refused_before (parts_of c.args.head.now) _ (g.B.Buffer.held c.args.buf.now) _ c.in_err-put_fields.ensures.cause)

pub returns-in_err-put_items-clause-cause : goal.returns-in_err-put_items-clause-cause
returns-in_err-put_items-clause-cause g c =
    if_err_at _ _ _ c.from_residual-in_err-put_items.ensures.1
    (refused_behind (parts_of c.args.head.now) _ (g.B.Buffer.held c.args.buf.now) _ _ c.in_ok-put_fields.ensures.ok
    (refused_before (flat_map g.I.Item.parts c.args.items.now) _ _ _ c.in_err-put_items.ensures.cause))

pub returns-in_err-put_fields-2-clause-cause : goal.returns-in_err-put_fields-2-clause-cause
returns-in_err-put_fields-2-clause-cause g c =
    if_err_at _ _ _ c.from_residual-in_err-put_fields-2.ensures.1
    (refused_behind (parts_of c.args.head.now) _ (g.B.Buffer.held c.args.buf.now) _ _ c.in_ok-put_fields.ensures.ok
    (refused_behind (flat_map g.I.Item.parts c.args.items.now) (parts_of c.args.tail.now) _ _ _ c.in_ok-put_items.ensures.ok c.in_err-put_fields-2.ensures.cause))

pub returns-clause-ok : goal.returns-clause-ok
returns-clause-ok g c =
    puts_then (parts_of c.args.head.now) _ (g.B.Buffer.held c.args.buf.now) _ _ c.in_ok-put_fields.ensures.ok
    (puts_then (flat_map g.I.Item.parts c.args.items.now) (parts_of c.args.tail.now) _ _ _ c.in_ok-put_items.ensures.ok c.in_ok-put_fields-2.ensures.ok)
