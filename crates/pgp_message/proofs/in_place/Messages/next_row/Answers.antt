use Rattle.pgp_message.proofs.Common.{rules, ◌∙◌, Ok, Err, refl, sym, ap, false, true, DataRow, Front, IsFront, Finds, body_of, IsPartial}
use Rattle.pgp_message.proofs.Steps.{payload_of_front}
use Rattle.pgp_message.proofs.RowSteps.{one_step, none_taken, takes_front, fault_found}
use Rattle.pgp_message.proofs.in_place.Messages.next_row.Goals as goal

pub returns-in-Ok-None : goal.returns-in-Ok-None
returns-in-Ok-None c = let part : IsPartial c.args.self.now = search rules in ((λ row rest taken. none_taken c.args.self.now rest false (Ok (DataRow row)) part taken), refl)

pub returns-in-Err : goal.returns-in-Err
returns-in-Err c =
    let finds : Finds c.args.self.now (Err c.in-Err.field-0) = search rules in
    let fault = fault_found c.args.self.now c.in-Err.field-0 finds in
    ((λ row rest taken. none_taken c.args.self.now rest true (Ok (DataRow row)) fault taken), refl)

pub returns-in-Some : goal.returns-in-Some
returns-in-Some c =
    let f : Front = record { tag = c.front.inside.tag; total = c.front.inside.total } in
    let front : IsFront f c.args.self.now = search rules in
    let payload = payload_of_front c.self.inside.rest.now c.args.self.now c.front.inside.total front.least (search rules) in
    let row = Ok (DataRow c.in-Some.row) in
    takes_front c.args.self.now c.split_at.result.1.now f row front (search rules) (sym (ap (body_of f.tag) payload) ∙ search rules)

pub returns-in-None : goal.returns-in-None
returns-in-None c =
    let f : Front = record { tag = c.front.inside.tag; total = c.front.inside.total } in
    let front : IsFront f c.args.self.now = search rules in
    let payload = payload_of_front c.self.inside.rest.now c.args.self.now c.front.inside.total front.least (search rules) in
    let no = c.row_of.ensures.none (search rules) in
    ((λ row rest taken. no row (ap (body_of f.tag) payload ∙ one_step c.args.self.now rest f (Ok (DataRow row)) front taken)), refl)
