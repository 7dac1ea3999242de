use Rattle.pgp_auth.proofs.Common.{sym, ◌∙◌, parts_of}
use Rattle.pgp_auth.proofs.FirstTexts.{read_first-complete, read_first-sound}
use Rattle.pgp_auth.proofs.scram.rounds.iteration_count.Goals as goal

pub returns-in-Ok-clause-some : goal.returns-in-Ok-clause-some
returns-in-Ok-clause-some c =
    let p = parts_of c.in-Ok.parts in
    (p.nonce, p.salt_text, read_first-sound c.args.message.now p c.in-Ok.ensures)

pub returns-in-Err-clause-none : goal.returns-in-Err-clause-none
returns-in-Err-clause-none c = λ same nonce salt count text. let no = sym c.in-Err.ensures ∙ read_first-complete c.args.message.now nonce salt count text in cc
