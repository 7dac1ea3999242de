use Rattle.pgp_message.proofs.Common.{rules}
use Rattle.pgp_message.proofs.TextBodies.{setting_is, setting_fits}
use Rattle.pgp_message.proofs.body.status.ParameterStatusBody.read.Goals as goal

pub invariant_of-result : goal.invariant_of-result
invariant_of-result g c = setting_fits (g.S.Storage.bytes c.args.payload) c.in_ok-name.name.now c.in_ok-name.rest.now c.in_ok-value.value.now c.in_ok-value.rest.now (g.S.Storage.bytes c.cut.new.self) (search rules) (search rules) (search rules) (search rules)

pub returns : goal.returns
returns g c = setting_is (g.S.Storage.bytes c.args.payload) c.in_ok-name.name.now c.in_ok-name.rest.now c.in_ok-value.value.now c.in_ok-value.rest.now (g.S.Storage.bytes c.cut.new.self) (search rules) (search rules) (search rules) (search rules)
