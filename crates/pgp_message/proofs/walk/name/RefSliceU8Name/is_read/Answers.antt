use Rattle.pgp_message.proofs.RawLemmas.{string_reader, raw_string_falls}
use Rattle.pgp_message.proofs.walk.name.RefSliceU8Name.is_read.Goals as goal

pub returns-clause-grammar : goal.returns-clause-grammar
returns-clause-grammar c = string_reader

pub returns-clause-falls : goal.returns-clause-falls
returns-clause-falls c = raw_string_falls
