use Rattle.pgp_message.proofs.Common.{◌≡◌, ◌+◌, ◌-◌, map, take, drop, rules, refl, sym, ap, ◌∙◌, drop-drop, Front, IsFront, seen}
use Rattle.pgp_message.proofs.FindLemmas.{payload_at, takes_onto}
use Rattle.pgp_message.proofs.Steps.{payload_of_front}
use Rattle.pgp_message.proofs.frames.read_onto.Goals as goal

pub returns-then-plain_onto-clause-ok : goal.returns-then-plain_onto-clause-ok
returns-then-plain_onto-clause-ok g c =
    let f : Front = record { tag = c.front.inside.tag; total = c.front.inside.total } in
    let here = drop c.args.at c.args.bytes.now in
    let front : IsFront f here = search rules in
    let payload = payload_of_front c.split_at.result.1.now here f.total front.least (search rules) in
    takes_onto here _ _ f _ _ _ front (sym (drop-drop f.total c.args.at c.args.bytes.now)) payload refl (c.plain_onto.ensures.joined c.if-plain_onto.true)

pub returns-clause-ok : goal.returns-clause-ok
returns-clause-ok g c =
    let f : Front = record { tag = c.front.inside.tag; total = c.front.inside.total } in
    let all = c.args.bytes.now in
    let here = drop c.args.at all in
    let front : IsFront f here = search rules in
    let cut : c.in_ok-payload.payload ≡ take (c.args.at + f.total - (c.args.at + 5)) (drop (c.args.at + 5) all) = search rules in
    let same = c.plain_onto.ensures.same c.if-plain_onto.false in
    takes_onto here _ _ f _ _ _ front (sym (drop-drop f.total c.args.at all)) (cut ∙ payload_at all all c.args.at f.total front.least refl) (ap (map seen) same.0) c.body_onto.ensures.joined
