use Rattle.pgp_saslprep.proofs.Common.{sym, ◌∙◌, refl, chars_past_char, chars_of_empty, begins}
use Rattle.pgp_saslprep.proofs.check.begins_with.Goals as goal

pub returns-in-Some : goal.returns-in-Some
unfolding begins
returns-in-Some c =
    let parts = sym c.chars.ensures.rest ∙ c.in-Some.ensures.steps.0 in
    rw (chars_past_char c.args.text.now _ c.in-Some.c c.utf8.text parts) c.lists.ensures

pub returns-in-None : goal.returns-in-None
unfolding begins
returns-in-None c = rw (← c.chars.ensures.rest, chars_of_empty _ c.in-None.ensures.steps.0.0) refl
