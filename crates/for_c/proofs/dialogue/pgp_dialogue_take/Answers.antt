use Rattle.for_c.proofs.Common.{rules}
use Rattle.for_c.proofs.Dialogues.{rejected_of, taken_of}
use Rattle.for_c.proofs.dialogue.pgp_dialogue_take.Goals.{in-Ok, in-Err}
use Rattle.for_c.proofs.dialogue.pgp_dialogue_take.Goals as goal

pub returns-clause-taken : goal.returns-clause-taken
returns-clause-taken c z = elim c.match-take.branch [
  | in-Ok w ↦ taken_of c.args.dialogue.now c.put_back.new.dialogue _ _ c.resumed-kept.ensures.same c.put_back.ensures.same c.args.kind c.in-Some.kind (search rules) c.match-take.event w.in-Ok.taken (search rules) (search rules)
  | in-Err w ↦ search rules
]

pub returns-clause-rejected : goal.returns-clause-rejected
returns-clause-rejected c z one kind = elim c.match-take.branch [
  | in-Ok w ↦ search rules
  | in-Err w ↦ rejected_of c.args.dialogue.now c.put_back.new.dialogue _ _ c.resumed-kept.ensures.same c.put_back.ensures.same c.args.kind c.in-Some.kind (search rules) c.match-take.code w.in-Err.e (search rules) (search rules)
]
