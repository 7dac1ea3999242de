use Rattle.pgp_session.proofs.Common.{rules, Ok, Err, Step, TakesFrame, view}
use Rattle.pgp_session.proofs.MonitorFronts.{front_is, none_there, unread_front}
use Rattle.pgp_session.proofs.monitor.front_of.Goals as goal

pub returns-in-Ok-Some-clause-some : goal.returns-in-Ok-Some-clause-some
returns-in-Ok-Some-clause-some c =
    let t : TakesFrame c.args.bytes.now (Ok (view c.in-Ok-Some.message)) c.next.new.self = search rules in
    front_is c.args.bytes.now c.next.new.self c.rest.result.now (view c.in-Ok-Some.message) c.of-kind.result (search rules) c.rest.ensures t

pub returns-in-Some-clause-some : goal.returns-in-Some-clause-some
returns-in-Some-clause-some c =
    let s : Step ⊥ c.args.bytes.now (Err c.in-Err.why) c.next.new.self = search rules in
    unread_front c.args.bytes.now c.next.new.self c.rest-in-Some.result.now c.in-Err.why c.in-Some.kind (search rules) c.rest-in-Some.ensures s

pub returns-in-None-clause-none : goal.returns-in-None-clause-none
returns-in-None-clause-none c = none_there c.args.bytes.now c.next.new.self c.in-Err.why (search rules) (search rules)
