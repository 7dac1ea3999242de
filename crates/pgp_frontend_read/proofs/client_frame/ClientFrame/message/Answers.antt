use Rattle.pgp_frontend_read.proofs.Common.{rules, Ok, Err, Some, None, Step, kind_view, view}
use Rattle.pgp_frontend_read.proofs.Handing.{frame_steps, frame_there}
use Rattle.pgp_frontend_read.proofs.Steps.{left}
use Rattle.pgp_frontend_read.proofs.client_frame.ClientFrame.message.Goals as goal

pub unreachable-requires : goal.unreachable-requires
unreachable-requires c =
    let frame = c.args.self.now in
    let step : Step (kind_view c.args.kind) (left frame.bytes.now frame.opened) (Ok None) c.next.new.self = search rules in
    frame_there (kind_view c.args.kind) frame.opened frame.bytes.now c.next.new.self c.requires step

pub returns-in-Ok-Some : goal.returns-in-Ok-Some
returns-in-Ok-Some c =
    let frame = c.args.self.now in
    let step : Step (kind_view c.args.kind) (left frame.bytes.now frame.opened) (Ok (Some (view c.in-Ok-Some.message))) c.next.new.self = search rules in
    frame_steps (kind_view c.args.kind) frame.opened frame.bytes.now (Ok (view c.in-Ok-Some.message)) c.next.new.self c.requires step

pub returns-in-Err : goal.returns-in-Err
returns-in-Err c =
    let frame = c.args.self.now in
    let step : Step (kind_view c.args.kind) (left frame.bytes.now frame.opened) (Err c.in-Err.e) c.next.new.self = search rules in
    frame_steps (kind_view c.args.kind) frame.opened frame.bytes.now (Err c.in-Err.e) c.next.new.self c.requires step
