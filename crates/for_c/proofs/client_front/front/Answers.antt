use Rattle.for_c.proofs.Common.{rules, Ok, Err, Some, None, UnknownPacket, Reading}
use Rattle.pgp_frontend_read.specs.Views.{kind_view, view}
use Rattle.for_c.proofs.ClientFronts.{reports}
use Rattle.for_c.proofs.client_front.front.Goals as goal

pub returns-in-Ok-Some : goal.returns-in-Ok-Some
returns-in-Ok-Some c = reports (kind_view c.args.kind) c.args.bytes.now c.args.is_open (Ok (Some (view c.in-Ok-Some.kept))) c.next-answer.new.self _ _ (search rules) (search rules) (search rules) (search rules) (search rules) (search rules) (search rules) (search rules) (search rules) (search rules)

pub returns-in-Ok-None : goal.returns-in-Ok-None
returns-in-Ok-None c = reports (kind_view c.args.kind) c.args.bytes.now c.args.is_open (Ok None) c.next-answer.new.self _ _ (search rules) (search rules) (search rules) (search rules) (search rules) (search rules) (search rules) (search rules) (search rules) (search rules)

pub returns-in-Err-Reading : goal.returns-in-Err-Reading
returns-in-Err-Reading c = reports (kind_view c.args.kind) c.args.bytes.now c.args.is_open (Err (Reading c.in-Err-Reading.e)) c.next-answer.new.self _ _ (search rules) (search rules) (search rules) (search rules) (search rules) (search rules) (search rules) (search rules) (search rules) (search rules)

pub returns-in-Err-UnknownPacket : goal.returns-in-Err-UnknownPacket
returns-in-Err-UnknownPacket c = reports (kind_view c.args.kind) c.args.bytes.now c.args.is_open (Err (UnknownPacket c.in-Err-UnknownPacket.code)) c.next-answer.new.self _ _ (search rules) (search rules) (search rules) (search rules) (search rules) (search rules) (search rules) (search rules) (search rules) (search rules)
