use Rattle.pgp_base.proofs.Common.{take_rest}
use Rattle.pgp_base.proofs.AsciiLemmas.{text_joined, text_cut_behind}
use Rattle.pgp_base.proofs.scanning.utf8.is_text_past.Goals as goal

pub returns : goal.returns
returns c =
    let rest = rw take_rest at c.is_mixed_text.ensures in
    (λ yes. text_joined c.args.bytes.now c.args.at c.requires.within c.requires.front (rest.0 yes), λ whole. rest.1 (text_cut_behind c.args.bytes.now c.args.at c.requires.within c.requires.front whole))
