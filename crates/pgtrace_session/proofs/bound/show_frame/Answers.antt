use Rattle.pgtrace_session.proofs.Common.{length, Ok, Err, None, Some, refl, rules, subst, string_bytes, kind_view, view, ShowsRequest, types_of, ok_then}
use Rattle.pgp_frontend_read.specs.Step.{Step}
use Rattle.pgtrace_session.proofs.Readings.{refused_all, sent_all, silent_all}
use Rattle.pgtrace_session.proofs.bound.show_frame.Goals as goal

pub returns-in-Ok-Some-clause-shows : goal.returns-in-Ok-Some-clause-shows
returns-in-Ok-Some-clause-shows g c =
    let frame = c.args.frame.now in
    let kind = kind_view c.args.kind in
    let m = view c.in-Ok-Some.message in
    let new = c.next.new.self in
    let step : Step kind c.resume-messages.result (Ok (Some m)) new = search rules in
    let stands = subst (λ u. Step kind u (Ok (Some m)) new) c.resume-messages.ensures step in
    ok_then c.show_message.result (λ shown. sent_all (λ said. ShowsRequest c.args.style c.args.place (length frame) said (types_of c.args.types.now) (string_bytes c.args.line.now) (string_bytes c.show_message.new.line)) c.args.opened kind frame new m stands shown)
    c.show_message.ensures.shown

pub returns-in-Ok-None-clause-shows : goal.returns-in-Ok-None-clause-shows
returns-in-Ok-None-clause-shows g c said =
    let kind = kind_view c.args.kind in
    let new = c.next.new.self in
    let step : Step kind c.resume-messages.result (Ok None) new = search rules in
    silent_all (λ said. ShowsRequest c.args.style c.args.place (length c.args.frame.now) said (types_of c.args.types.now) (string_bytes c.args.line.now) (string_bytes c.args.line.now)) c.args.opened kind c.args.frame.now new (subst (λ u. Step kind u (Ok None) new) c.resume-messages.ensures step) said

pub returns-in-Err-clause-shows : goal.returns-in-Err-clause-shows
returns-in-Err-clause-shows g c said =
    let frame = c.args.frame.now in
    let kind = kind_view c.args.kind in
    let new = c.next.new.self in
    let e = c.in-Err.field-0 in
    let step : Step kind c.resume-messages.result (Err e) new = search rules in
    refused_all (λ said. ShowsRequest c.args.style c.args.place (length frame) said (types_of c.args.types.now) (string_bytes c.args.line.now) (string_bytes c.args.line.now)) c.args.opened kind frame new e (subst (λ u. Step kind u (Err e) new) c.resume-messages.ensures step) (λ d. refl) said
