use Rattle.pgp_frontend_read.proofs.Common.{rules, ◌∙◌}
use Rattle.pgp_frontend_read.proofs.Bodies.{parse_is}
use Rattle.pgp_frontend_read.proofs.body.parse.Goals as goal

pub returns : goal.returns
returns c = c.ended.ensures ∙ parse_is c.args.payload.now c.in_ok-name.name.now c.in_ok-name.rest.now c.in_ok-query.query.now c.in_ok-query.rest.now c.in_ok-param_types.param_types c.in_ok-param_types.rest.now
    (search rules) (search rules) (search rules)
