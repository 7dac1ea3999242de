use Rattle.pgp_message.proofs.Common.{rules, map, ap, ◌∙◌, map_push, seen}
use Rattle.pgp_message.proofs.dispatch.put.Goals as goal

pub returns-clause-joined : goal.returns-clause-joined
returns-clause-joined g c = ap (map seen) (search rules) ∙ map_push seen c.args.list.now.items c.args.read
