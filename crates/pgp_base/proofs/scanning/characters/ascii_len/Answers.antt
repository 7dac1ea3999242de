use Rattle.pgp_base.proofs.Common.{arith}
use Rattle.pgp_base.proofs.CharacterLemmas.{ascii_begins, one_begins}
use Rattle.pgp_base.proofs.scanning.characters.ascii_len.Goals as goal

pub returns-then-len-eq0 : goal.returns-then-len-eq0
returns-then-len-eq0 c = one_begins c.args.bytes.now c.requires.some c.requires.ascii

pub returns-else-len-eq0 : goal.returns-else-len-eq0
returns-else-len-eq0 c = ascii_begins c.args.bytes.now c.ascii_front-len.result (omega arith) c.ascii_front-len.ensures.within c.ascii_front-len.ensures.ascii

pub returns-then-bytes-lt-SHORT_LEN : goal.returns-then-bytes-lt-SHORT_LEN
returns-then-bytes-lt-SHORT_LEN c = one_begins c.args.bytes.now c.requires.some c.requires.ascii
