use Rattle.pgp_message.proofs.Common.{rules, ap, ◌∙◌, Front, IsFront, body_of}
use Rattle.pgp_message.proofs.Steps.{steps, payload_of_front}
use Rattle.pgp_message.proofs.in_place.Messages.next.Goals as goal

pub returns-clause-step : goal.returns-clause-step
returns-clause-step c =
    let f : Front = record { tag = c.front.inside.tag; total = c.front.inside.total } in
    let front : IsFront f c.args.self.now = search rules in
    let payload = payload_of_front c.self.inside.rest.now c.args.self.now c.front.inside.total front.least (search rules) in
    let read = c.body.ensures ∙ ap (body_of c.front.inside.tag) payload in
    steps ⊥ c.args.self.now c.split_at.result.1.now f c.body.result c.map.result front (search rules) read c.map.ensures.cases
