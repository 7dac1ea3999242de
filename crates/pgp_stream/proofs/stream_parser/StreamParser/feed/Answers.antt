use Rattle.pgp_stream.proofs.Common.{◌≡◌, ◌++◌, true, false, map, refl, rules, ap, subst, ◌∙◌, seen, Reading, GoesOn, TakesAll, TakesSome}
use Rattle.pgp_stream.proofs.Pieces.{goes_on, stays_stopped, fails_at_once, fails_behind, stopped_long}
use Rattle.pgp_stream.proofs.stream_parser.StreamParser.feed.Goals as goal

pub returns-then-is_err : goal.returns-then-is_err
returns-then-is_err g c =
    ((refl, search rules), fails_at_once c.args.piece.now c.args.self.now _ (search rules) (search rules) (search rules) (search rules) (search rules) (search rules) c.runs_grow.ensures)

pub returns-then-self : goal.returns-then-self
returns-then-self g c =
    let inside = c.self.inside in
    let old : Reading = record { results = map seen inside.results.items; stopped = inside.stopped; rest = inside.rest.items; headers = inside.frames.headers; failed = inside.failed } in
    let new : Reading = record { results = map seen inside.results.items; stopped = inside.stopped; rest = c.extend.new.list.items; headers = inside.frames.headers; failed = inside.failed } in
    let sound : inside.failed ≡ false = ap (λ (r : Reading). r.failed) c.self.view_is ∙ c.requires in
    let rest : c.extend.new.list.items ≡ inside.rest.items ++ c.args.piece.now = search rules in
    let stays : GoesOn c.args.piece.now old new = stays_stopped c.args.piece.now c.extend.new.list.items old sound c.if-self.true (c.self.invariant.fault sound c.if-self.true) rest c.stops_stay.ensures in
    subst (λ (r : Reading). GoesOn c.args.piece.now r new) c.self.view_is stays

pub returns-in-Ok : goal.returns-in-Ok
returns-in-Ok g c =
    let inside = c.self.inside in
    let after = c.take_frames.new in
    let old : Reading = record { results = map seen inside.results.items; stopped = inside.stopped; rest = inside.rest.items; headers = inside.frames.headers; failed = inside.failed } in
    let new : Reading = record { results = map seen after.results.items; stopped = c.in-Ok.stopped; rest = after.rest.items; headers = after.frames.headers; failed = inside.failed } in
    let sound : inside.failed ≡ false = ap (λ (r : Reading). r.failed) c.self.view_is ∙ c.requires in
    let all : TakesAll (inside.rest.items ++ c.args.piece.now) after.rest.items (map seen inside.results.items) (map seen after.results.items) inside.frames after.frames c.in-Ok.stopped = c.in-Ok.ensures.ok in
    let on : GoesOn c.args.piece.now old new = goes_on c.args.piece.now after.rest.items old (map seen after.results.items) inside.frames after.frames c.in-Ok.stopped sound c.if-self.false refl (c.self.invariant.header sound) all c.waits_go_on.ensures in
    subst (λ (r : Reading). GoesOn c.args.piece.now r new) c.self.view_is on

pub returns-in-Err : goal.returns-in-Err
returns-in-Err g c =
    let some = subst (λ (r : Reading). TakesSome (r.rest ++ c.args.piece.now) r.results (map seen c.take_frames.new.results.items)) c.self.view_is c.in-Err.ensures.some in
    (search rules, fails_behind c.args.piece.now c.args.self.now _ (search rules) (search rules) (search rules) (search rules) (search rules) some c.frames_go_on.ensures c.frames_stand.ensures)

pub invariant_of-self-in-Ok : goal.invariant_of-self-in-Ok
invariant_of-self-in-Ok g c =
    let all = c.in-Ok.ensures.ok in
    record {
      header = λ sound. all.header;
      fault = λ sound stops. stopped_long c.in-Ok.stopped c.take_frames.new.rest.items all.ending stops;
      cause = c.self.invariant.cause;
    }
