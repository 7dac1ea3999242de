use Rattle.pgp_message.proofs.TextLemmas.{text_reader, text_takes_bytes}
use Rattle.pgp_message.proofs.walk.name.RefStrName.is_read.Goals as goal

pub returns-clause-grammar : goal.returns-clause-grammar
returns-clause-grammar c = text_reader

pub returns-clause-falls : goal.returns-clause-falls
returns-clause-falls c = text_takes_bytes
