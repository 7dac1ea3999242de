use Rattle.for_c_auth.proofs.Common.{rules, talk_of}
use Rattle.for_c_auth.proofs.Connections.{misplaced}
use Rattle.for_c_auth.proofs.connection_parts.attributed.Goals as goal

pub returns-in-Err-clause-err : goal.returns-in-Err-clause-err
returns-in-Err-clause-err c = misplaced (talk_of c.args.dialogue.now) (talk_of c.put_back.new.dialogue) c.args.kind c.in-Err.e _ (search rules) c.rejected.ensures.refusal c.rejected.ensures.some
