use Rattle.pgp_message.proofs.Common.{rules, refl, sym, ap, subst, ◌∙◌, Front, IsFront, body_of, KeepsBytes}
use Rattle.pgp_message.proofs.Steps.{steps, payload_of_front, begins}
use Rattle.pgp_message.proofs.shared.Message+Bytes+A.parse_shared.Goals as goal

pub returns-then-not-keeps_bytes-clause-step : goal.returns-then-not-keeps_bytes-clause-step
returns-then-not-keeps_bytes-clause-step g c =
    let f : Front = record { tag = c.front.inside.tag; total = c.front.inside.total } in
    let front : IsFront f c.args.bytes.now = search rules in
    let payload = payload_of_front c.as_slice-3.result.now c.args.bytes.now c.front.inside.total front.least (search rules) in
    let read = c.bare-answer.ensures ∙ sym (c.keeps_bytes.ensures.bare c.if-not-keeps_bytes.true) ∙ ap (body_of c.front.inside.tag) payload in
    steps g.A.Memory.Lacks c.args.bytes.now c.advance.new.self f c.bare-answer.result c.map.result front (search rules) read c.map.ensures.cases

pub returns-in_default-slice_shared-clause-step : goal.returns-in_default-slice_shared-clause-step
returns-in_default-slice_shared-clause-step g c =
    let items = c.args.bytes.now in
    let f : Front = record { tag = c.front.inside.tag; total = c.front.inside.total } in
    let front : IsFront f items = search rules in
    let payload = payload_of_front c.as_slice-3.result.now items c.front.inside.total front.least (search rules) in
    let keeps = c.keeps_bytes.ensures.keeps c.if-not-keeps_bytes.false in
    (begins items f front (subst (λ l. KeepsBytes f.tag l) payload keeps), search rules, refl)

pub returns-clause-step : goal.returns-clause-step
returns-clause-step g c =
    let items = c.args.bytes.now in
    let f : Front = record { tag = c.front.inside.tag; total = c.front.inside.total } in
    let front : IsFront f items = search rules in
    let payload = payload_of_front items items c.front.inside.total front.least refl in
    let read = c.body.ensures ∙ ap (body_of c.front.inside.tag) (search rules ∙ payload) in
    steps g.A.Memory.Lacks items c.advance-2.new.self f c.body.result c.map-2.result front (search rules) read c.map-2.ensures.cases
