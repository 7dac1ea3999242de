use Rattle.pgtrace_session.proofs.Common.{Ok, None, Some, rules, subst, kind_view, view, Nothing, numbers_in, Tells, types_in, Uncounted}
use Rattle.pgp_frontend_read.specs.Step.{Step}
use Rattle.pgtrace_session.proofs.Readings.{if_ok, sent_all, silent_all}
use Rattle.pgtrace_session.proofs.client_types.ask_frame.Goals as goal

pub returns-in-Ok-Some-clause-tells : goal.returns-in-Ok-Some-clause-tells
returns-in-Ok-Some-clause-tells g c =
    let frame = c.args.frame.now in
    let kind = kind_view c.args.kind in
    let m = view c.in-Ok-Some.message in
    let new = c.next.new.self in
    let step : Step kind c.resume-messages.result (Ok (Some m)) new = search rules in
    let stands = subst (λ u. Step kind u (Ok (Some m)) new) c.resume-messages.ensures step in
    if_ok c.ask_message.result (λ x tells. sent_all (λ said. Tells frame said (numbers_in c.args.numbers.now) (numbers_in c.ask_message.new.numbers) (types_in c.args.types.now) (types_in c.ask_message.new.types) x.0 x.1) c.args.opened kind frame new m stands tells)
    c.ask_message.ensures.tells

pub returns-in-Ok-None-clause-tells : goal.returns-in-Ok-None-clause-tells
returns-in-Ok-None-clause-tells g c said =
    let kind = kind_view c.args.kind in
    let new = c.next.new.self in
    let step : Step kind c.resume-messages.result (Ok None) new = search rules in
    silent_all (λ said. Tells c.args.frame.now said (numbers_in c.args.numbers.now) (numbers_in c.args.numbers.now) (types_in c.args.types.now) (types_in c.args.types.now) Uncounted Nothing) c.args.opened kind c.args.frame.now new (subst (λ u. Step kind u (Ok None) new) c.resume-messages.ensures step) said
