use Rattle.pgp_message.proofs.Common.{◌+◌, rules}
use Rattle.pgp_message.proofs.FindLemmas.{begins_long, front_begins}
use Rattle.pgp_message.proofs.frames.whole_front.Goals as goal

pub head-tag-requires : goal.head-tag-requires
head-tag-requires c = begins_long c.args.bytes.now c.requires

pub returns : goal.returns
returns c = front_begins c.args.bytes.now c.head-tag.result.0 (c.head-tag.result.1 + 1) c.head-tag.ensures.each c.requires (search rules) (search rules)
