use Rattle.pgp_auth.proofs.UserNames.{name_goes_on, name_stops, name_ends}
use Rattle.pgp_auth.proofs.scram.named.is_spelled.Goals as goal

pub characters-preserved : goal.characters-preserved
characters-preserved c =
    name_goes_on c.args.name.now c.characters.rest.now c.in-Some.text.now c.in-Some-behind_character.after.now c.in-Some.first.now c.characters.invariant c.in-Some.ensures.cases.0 c.in-Some-behind_character.ensures.name

pub returns-in_default-behind_character : goal.returns-in_default-behind_character
returns-in_default-behind_character c =
    name_stops c.args.name.now c.characters.rest.now c.in-Some.text.now c.in-Some.first.now c.characters.invariant c.in-Some.ensures.cases.0 c.in_default-behind_character.ensures.name

pub returns : goal.returns
returns c = name_ends c.args.name.now c.characters.rest.now c.characters.invariant c.in_default.ensures.cases
