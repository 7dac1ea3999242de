use Rattle.pgtrace_lines.proofs.Common.{Ok, Err, rules, string_bytes, TakesFrame, view}
use Rattle.pgp_message.proofs.Steps.{taken_by}
use Rattle.pgtrace_lines.proofs.FrameLines.{fault_reported, frame_long, line_here, taken_here}
use Rattle.pgtrace_lines.proofs.frame.server_line.Goals as goal

pub message_line-reported-requires : goal.message_line-reported-requires
message_line-reported-requires g c =
    let step : TakesFrame c.new-messages.result (Ok (view c.in-Ok-Some.message)) c.next.new.self = search rules in
    (taken_here c.new-messages.result c.args.bytes.now c.next.new.self c.rest-behind.result.now c.front_of-frame.result.now (Ok (view c.in-Ok-Some.message)) c.new-messages.ensures step c.rest-behind.ensures c.front_of-frame.ensures).framed

pub fault_line-requires : goal.fault_line-requires
fault_line-requires g c =
    let step = taken_by c.new-messages.result c.next.new.self c.in-Err.refusal (λ h. search rules) c.in-Err.ensures.step in
    let t = taken_here c.new-messages.result c.args.bytes.now c.next.new.self c.rest-behind-in-Err.result.now c.front_of-frame-in-Err.result.now (Err c.in-Err.refusal) c.new-messages.ensures step c.rest-behind-in-Err.ensures c.front_of-frame-in-Err.ensures in
    frame_long t.framed.first c.front_of-frame-in-Err.result.now t.framed.whole

pub returns-in_ok-name-in-Err-clause-listed : goal.returns-in_ok-name-in-Err-clause-listed
returns-in_ok-name-in-Err-clause-listed g c =
    let frame = c.front_of-frame-in-Err.result.now in
    let line = string_bytes c.fault_line.new.line in
    let name = c.in_ok-name-in-Err.name.now in
    let step = taken_by c.new-messages.result c.next.new.self c.in-Err.refusal (λ h. search rules) c.in-Err.ensures.step in
    let t = taken_here c.new-messages.result c.args.bytes.now c.next.new.self c.rest-behind-in-Err.result.now frame (Err c.in-Err.refusal) c.new-messages.ensures step c.rest-behind-in-Err.ensures c.front_of-frame-in-Err.ensures in
    line_here c.args.style c.args.place c.args.replicating c.replicates_behind-now-in-Err.result c.args.bytes.now c.rest-behind-in-Err.result.now frame line name (Err c.in-Err.refusal) t.takes c.front_of-frame-in-Err.ensures c.replicates_behind-now-in-Err.ensures
    (fault_reported c.args.style c.args.place c.args.replicating frame c.in-Err.refusal t.framed line name c.in_ok-name-in-Err.ensures.line c.in_ok-name-in-Err.ensures.named)

pub returns-in_ok-name-in-Ok-Some-clause-listed : goal.returns-in_ok-name-in-Ok-Some-clause-listed
returns-in_ok-name-in-Ok-Some-clause-listed g c =
    let step : TakesFrame c.new-messages.result (Ok (view c.in-Ok-Some.message)) c.next.new.self = search rules in
    let t = taken_here c.new-messages.result c.args.bytes.now c.next.new.self c.rest-behind.result.now c.front_of-frame.result.now (Ok (view c.in-Ok-Some.message)) c.new-messages.ensures step c.rest-behind.ensures c.front_of-frame.ensures in
    line_here c.args.style c.args.place c.args.replicating c.replicates_behind-now.result c.args.bytes.now c.rest-behind.result.now c.front_of-frame.result.now (string_bytes c.message_line-reported.new.line) c.in_ok-name-in-Ok-Some.name.now (Ok (view c.in-Ok-Some.message))
    t.takes c.front_of-frame.ensures c.replicates_behind-now.ensures c.in_ok-name-in-Ok-Some.ensures.line
