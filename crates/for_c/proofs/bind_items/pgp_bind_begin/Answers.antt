use Rattle.for_c.proofs.Common.{rules, [], arith}
use Rattle.for_c.proofs.BindItems.{begin_behind, begin_size, begin_some, begin_within, begun}
use Rattle.for_c.proofs.bind_items.pgp_bind_begin.Goals as goal

pub returns-clause-begun : goal.returns-clause-begun
returns-clause-begun c z =
    begun c.args.portal.now c.args.statement.now c.args.formats.now c.args.count c.args.out.now _ _ _ (c.bind-code.ensures.sent (search rules)) c.announce.ensures.stands (search rules) (omega (arith, c.if-count-gt-MOST.false)) _ c.announce.ensures.at c.announce.ensures.left c.announce.ensures.nulls

pub returns-clause-size : goal.returns-clause-size
returns-clause-size c z =
    begin_size c.args.portal.now c.args.statement.now c.args.formats.now c.args.count c.args.out.now _ _ _ (c.bind-code.ensures.sent (search rules)) c.announce.ensures.stands

pub returns-clause-behind : goal.returns-clause-behind
returns-clause-behind c z =
    begin_behind c.args.portal.now c.args.statement.now c.args.formats.now c.args.count c.args.out.now _ _ _ (c.bind-code.ensures.sent (search rules)) c.announce.ensures.stands _ c.announce.ensures.at

pub announce-requires-clause-some : goal.announce-requires-clause-some
announce-requires-clause-some c = begin_some c.args.portal.now c.args.statement.now c.args.formats.now c.args.count c.args.out.now _ [] _ (c.bind-code.ensures.sent (search rules))

pub announce-requires-clause-within : goal.announce-requires-clause-within
announce-requires-clause-within c = begin_within c.args.portal.now c.args.statement.now c.args.formats.now c.args.count c.args.out.now _ [] _ (c.bind-code.ensures.sent (search rules))
