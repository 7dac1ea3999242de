use Rattle.pgp_message.proofs.Common.{rules}
use Rattle.pgp_message.proofs.TextBodies.{string_is}
use Rattle.pgp_message.proofs.body.query.CommandCompleteBody.read.Goals as goal

pub returns : goal.returns
returns g c = string_is (g.S.Storage.bytes c.args.payload) c.in_ok-tag.tag.now c.in_ok-tag.rest.now (g.S.Storage.bytes c.cut.new.self) (search rules) (search rules) (search rules)
