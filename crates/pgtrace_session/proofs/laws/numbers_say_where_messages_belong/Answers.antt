use Rattle.pgtrace_session.proofs.Turns.{turns_are_true}
use Rattle.pgtrace_session.proofs.laws.numbers_say_where_messages_belong.Goals as goal

pub returns : goal.returns
returns c = turns_are_true
