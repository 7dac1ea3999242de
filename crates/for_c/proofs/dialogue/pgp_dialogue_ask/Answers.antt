use Rattle.for_c.proofs.Common.{rules, inr, ap, sym, ◌∙◌, length, Talk}
use Rattle.for_c.proofs.Dialogues.{said_of}
use Rattle.for_c.proofs.dialogue.pgp_dialogue_ask.Goals.{in-Ok, in-Err}
use Rattle.for_c.proofs.dialogue.pgp_dialogue_ask.Goals as goal

pub returns-clause-why : goal.returns-clause-why
returns-clause-why c z known = elim c.match-ask.branch [
  | in-Ok w ↦ search rules
  | in-Err w ↦ (search rules, inr (ap (λ (t : Talk). length t.pending) (sym c.resumed-kept.ensures.same) ∙ said_of c.ask.result _ _ w.in-Err.is c.ask.ensures.full ∙ c.resumed-kept.ensures.size))
]
