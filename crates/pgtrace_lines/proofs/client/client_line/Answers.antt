use Rattle.pgtrace_lines.proofs.Common.{◌≡◌, ◌++◌, ◌∷◌, [], length, Some, Ok, Err, rules, refl, codes, string_bytes, Refuses, Step, client_line, client_name, closing, EndsSo, client_front, is_reported}
use Rattle.pgp_frontend_read.specs.Views.{kind_view, view}
use Rattle.pgtrace_lines.proofs.ClientLines.{message_passed, refusal_passed, refusal_rests}
use Rattle.pgtrace_lines.proofs.client.client_line.Goals as goal

pub returns-in_ok-message_line-in-Ok-Some-clause-listed : goal.returns-in_ok-message_line-in-Ok-Some-clause-listed
returns-in_ok-message_line-in-Ok-Some-clause-listed g c =
    let bytes = c.args.bytes.now in
    let rest = c.rest-behind.result.now in
    let frame = c.front_of-frame.result.now in
    let line = string_bytes c.message_line.new.line in
    let x = view c.in-Ok-Some.message in
    let step : Step (kind_view c.expected.result) c.resume-messages.result (Ok (Some x)) c.next.new.self = search rules in
    let has : EndsSo c.args.style (is_reported c.args.kinds.now) c.args.replicating (Ok x) (client_front c.args.style c.args.place c.args.opened frame) line = search rules in
    let named : c.client_name-name.result.now ≡ client_name (is_reported c.args.kinds.now) x = search rules in
    message_passed c.args.style c.args.place c.args.opened c.is_open.result c.args.kinds.now c.kinds_behind-left.result.now c.args.replicating bytes frame rest line c.client_name-name.result.now (kind_view c.expected.result) x c.resume-messages.result c.next.new.self
    c.resume-messages.ensures c.rest-behind.ensures c.is_open.ensures c.expected.ensures step c.front_of-frame.ensures has c.kinds_behind-left.ensures named

pub returns-in_ok-refusal_line-in-Err-clause-listed : goal.returns-in_ok-refusal_line-in-Err-clause-listed
returns-in_ok-refusal_line-in-Err-clause-listed g c =
    let bytes = c.args.bytes.now in
    let rest = c.rest-behind-in-Err.result.now in
    let frame = c.front_of-frame-in-Err.result.now in
    let line = string_bytes c.refusal_line.new.line in
    let e = c.in-Err.refusal in
    let step : Refuses (kind_view c.expected.result) c.resume-messages.result e c.next.new.self = search rules in
    let differ : length rest ≡ length bytes → ⊥ = λ h. search rules in
    let has : line ≡ client_line c.args.style (is_reported c.args.kinds.now) (Err e) (client_front c.args.style c.args.place c.args.opened frame) ++ closing c.args.style ++ 10 ∷ [] = search rules in
    refusal_passed c.args.style c.args.place c.args.opened c.is_open-in-Err.result c.args.kinds.now c.kinds_behind-left-in-Err.result.now c.args.replicating bytes frame rest line (codes "fault") (kind_view c.expected.result) e c.resume-messages.result c.next.new.self
    c.resume-messages.ensures c.rest-behind-in-Err.ensures c.is_open-in-Err.ensures c.expected.ensures step differ c.front_of-frame-in-Err.ensures has c.kinds_behind-left-in-Err.ensures refl

pub returns-then-behind-bytes-clause-listed : goal.returns-then-behind-bytes-clause-listed
returns-then-behind-bytes-clause-listed g c =
    let bytes = c.args.bytes.now in
    let rest = c.rest-behind-in-Err.result.now in
    let step : Refuses (kind_view c.expected.result) c.resume-messages.result c.in-Err.refusal c.next.new.self = search rules in
    let same : length rest ≡ length bytes = search rules in
    record {
      same = refl;
      ending = refusal_rests c.args.opened c.args.kinds.now c.args.replicating bytes rest (kind_view c.expected.result) c.in-Err.refusal c.resume-messages.result c.next.new.self c.resume-messages.ensures c.rest-behind-in-Err.ensures step same;
      side = refl;
    }
