use Rattle.pgp_frontend_read.proofs.Common.{rules, ◌∙◌}
use Rattle.pgp_frontend_read.proofs.Bodies.{bind_is}
use Rattle.pgp_frontend_read.proofs.body.bind.Goals as goal

pub returns : goal.returns
returns c = c.ended.ensures ∙ bind_is c.args.payload.now c.in_ok-portal.portal.now c.in_ok-portal.rest.now c.in_ok-statement.statement.now c.in_ok-statement.rest.now
    c.in_ok-formats.formats c.in_ok-formats.rest.now c.in_ok-values.values c.in_ok-values.rest.now c.in_ok-result_formats.result_formats c.in_ok-result_formats.rest.now
    (search rules) (search rules) (search rules) (search rules) (search rules)
