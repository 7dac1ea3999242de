use Rattle.pgp_frontend_read.proofs.Common.{rules, Bool, true, false, List, ℕ, length, Ok, refl, subst, Password, Step, Refuses, read, HasSize}
use Rattle.pgp_frontend_read.proofs.Handing.{frame_read, packet_opened, packet_refused}
use Rattle.pgp_frontend_read.proofs.Steps.{left}
use Rattle.pgp_frontend_read.proofs.client_parser.phase_behind.Goals as goal

pub returns-then-opened : goal.returns-then-opened
returns-then-opened c =
    let h : HasSize true c.args.bytes.now (length c.args.bytes.now) = subst (λ (o : Bool). HasSize o c.args.bytes.now (length c.args.bytes.now)) c.if-opened.true c.requires in
    rw c.if-opened.true (frame_read c.args.bytes.now h)

pub returns-in-Ok : goal.returns-in-Ok
returns-in-Ok c =
    let bytes : List ℕ = c.args.bytes.now in
    let h : HasSize false bytes (length bytes) = subst (λ (o : Bool). HasSize o bytes (length bytes)) c.if-opened.false c.requires in
    let step : Step Password (left bytes false) (read (Ok c.in-Ok.field-0)) c.next.new.self = search rules in
    rw (c.if-opened.false, c.is_open.ensures) (packet_opened bytes h c.in-Ok.field-0 c.next.new.self step)

pub returns-in-Err : goal.returns-in-Err
returns-in-Err c =
    let bytes : List ℕ = c.args.bytes.now in
    let refused : Refuses Password (left bytes false) c.in-Err.e c.next.new.self = search rules in
    record { cause = c.in-Err.e; name = refl; steps = λ kind. rw c.if-opened.false (packet_refused bytes c.in-Err.e c.next.new.self refused kind) }
