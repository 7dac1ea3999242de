use Rattle.pgp_message.proofs.Common.{◌≡◌, rules, sym, ap, subst, ◌∙◌, Front, IsFront, body_of, header_of, headers_after, KeepsBytes, parsed}
use Rattle.pgp_message.proofs.Steps.{steps, payload_of_front, begins}
use Rattle.pgp_message.proofs.Headers.{forgets, remembers_none}
use Rattle.pgp_message.proofs.parser.FrameParser.parse.Goals as goal

pub returns-then-not-keeps_bytes-clause-step : goal.returns-then-not-keeps_bytes-clause-step
returns-then-not-keeps_bytes-clause-step g c =
    let f : Front = record { tag = c.front.inside.tag; total = c.front.inside.total } in
    let front : IsFront f c.args.buf.now.items = search rules in
    let payload = payload_of_front c.as_slice-3.result.now c.args.buf.now.items c.front.inside.total front.least (search rules) in
    let read = c.bare-answer.ensures ∙ sym (c.keeps_bytes.ensures.bare c.if-not-keeps_bytes.true) ∙ ap (body_of c.front.inside.tag) payload in
    steps g.A.Memory.Lacks c.args.buf.now.items c.advance.new.self.items f c.bare-answer.result c.map.result front (search rules) read c.map.ensures.cases

pub returns-then-not-keeps_bytes-clause-memory : goal.returns-then-not-keeps_bytes-clause-memory
returns-then-not-keeps_bytes-clause-memory g c =
    let f : Front = record { tag = c.front.inside.tag; total = c.front.inside.total } in
    let here = header_of c.args.buf.now.items in
    let front : IsFront f c.args.buf.now.items = search rules in
    let payload = payload_of_front c.as_slice-3.result.now c.args.buf.now.items c.front.inside.total front.least (search rules) in
    let read = c.bare-answer.ensures ∙ sym (c.keeps_bytes.ensures.bare c.if-not-keeps_bytes.true) ∙ ap (body_of c.front.inside.tag) payload in
    let none = forgets c.args.buf.now.items f c.bare-answer.result c.map.result here front read c.map.ensures.cases in
    let count : c.self.inside.headers ≡ headers_after c.args.self.now.header here c.args.self.now.headers = search rules in
    remembers_none c.args.self.now c.args.buf.now.items (parsed c.map.result) c.self.inside.headers none count

pub returns-clause-step : goal.returns-clause-step
returns-clause-step g c =
    let f : Front = record { tag = c.front.inside.tag; total = c.front.inside.total } in
    let front : IsFront f c.args.buf.now.items = search rules in
    steps g.A.Memory.Lacks c.args.buf.now.items c.freeze_to.new.buf.items f c.body.result c.map-2.result front (search rules) (search rules) c.map-2.ensures.cases

pub returns-clause-memory : goal.returns-clause-memory
returns-clause-memory g c =
    let f : Front = record { tag = c.front.inside.tag; total = c.front.inside.total } in
    let here = header_of c.args.buf.now.items in
    let front : IsFront f c.args.buf.now.items = search rules in
    let none = forgets c.args.buf.now.items f c.body.result c.map-2.result here front (search rules) c.map-2.ensures.cases in
    let count : c.self.inside.headers ≡ headers_after c.args.self.now.header here c.args.self.now.headers = search rules in
    remembers_none c.args.self.now c.args.buf.now.items (parsed c.map-2.result) c.self.inside.headers none count

pub returns-in_default-freeze_to-clause-step : goal.returns-in_default-freeze_to-clause-step
returns-in_default-freeze_to-clause-step g c =
    let items = c.args.buf.now.items in
    let f : Front = record { tag = c.front.inside.tag; total = c.front.inside.total } in
    let front : IsFront f items = search rules in
    let payload = payload_of_front c.as_slice-3.result.now items c.front.inside.total front.least (search rules) in
    let keeps = c.keeps_bytes.ensures.keeps c.if-not-keeps_bytes.false in
    (begins items f front (subst (λ l. KeepsBytes f.tag l) payload keeps), search rules, search rules)
