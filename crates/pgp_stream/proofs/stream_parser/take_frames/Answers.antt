use Rattle.pgp_stream.proofs.Common.{◌≡◌, ◌<◌, ◌++◌, length, map, rules, refl, nil_from_length, seen, Moves, TakesPart, TakesSome}
use Rattle.pgp_stream.proofs.Pieces.{Completing, completing_none, completing_by, completing_fails, part_read, part_ends, part_stops, part_fails, part_shorter}
use Rattle.pgp_stream.proofs.stream_parser.take_frames.Goals as goal

pub parts-init : goal.parts-init
parts-init g c = completing_none c.args.rest.now.items c.args.piece.now (map seen c.args.results.now.items) c.args.frames.now (c.no_frame.ensures c.args.rest.now.items) c.requires

pub returns-in_err-moved-clause-some : goal.returns-in_err-moved-clause-some
returns-in_err-moved-clause-some g c =
    let before = map seen c.args.results.now.items in
    let mid = map seen c.parts.results.items in
    let some : TakesSome (c.args.rest.now.items ++ c.args.piece.now) before mid = completing_fails c.args.rest.now.items c.args.piece.now c.parts.left.now c.parts.rest.items before mid mid c.args.frames.now c.parts.frames c.parts.invariant refl in
    search rules

pub returns-in_err-used-clause-some : goal.returns-in_err-used-clause-some
returns-in_err-used-clause-some g c =
    let old = c.args.rest.now.items in
    let piece = c.args.piece.now in
    let left = c.parts.left.now in
    let behind = c.split_at.result.1.now in
    let now = c.parts.rest.items in
    let grown = c.complete_frame.new.rest.items in
    let before = map seen c.args.results.now.items in
    let mid = map seen c.parts.results.items in
    let moves : Moves now grown left c.in_ok-moved.moved = search rules in
    let moved : Completing old piece behind grown before mid c.args.frames.now c.parts.frames = completing_by old piece left behind now grown before mid c.args.frames.now c.parts.frames c.in_ok-moved.moved c.parts.invariant moves.grown c.split_at.ensures.back in
    let read = map seen c.take_whole.new.results.items in
    let some : TakesSome (grown ++ behind) mid read = search rules in
    let all : TakesSome (old ++ piece) before read = part_fails old piece behind grown before mid read c.args.frames.now c.parts.frames moved some in
    search rules

pub returns-in_err-extend-clause-some : goal.returns-in_err-extend-clause-some
returns-in_err-extend-clause-some g c =
    let old = c.args.rest.now.items in
    let piece = c.args.piece.now in
    let left = c.parts.left.now in
    let behind = c.split_at.result.1.now in
    let now = c.parts.rest.items in
    let grown = c.complete_frame.new.rest.items in
    let before = map seen c.args.results.now.items in
    let mid = map seen c.parts.results.items in
    let moves : Moves now grown left c.in_ok-moved.moved = search rules in
    let moved : Completing old piece behind grown before mid c.args.frames.now c.parts.frames = completing_by old piece left behind now grown before mid c.args.frames.now c.parts.frames c.in_ok-moved.moved c.parts.invariant moves.grown c.split_at.ensures.back in
    let read = map seen c.take_whole.new.results.items in
    let new = c.take_whole.new.rest.items in
    let after = c.split_at-in-parts.result.1.now in
    let part : TakesPart grown new behind mid read c.parts.frames c.take_whole.new.frames c.in_ok-used.field-0.used c.in_ok-used.field-0.stopped = search rules in
    let some : TakesSome (old ++ piece) before read = completing_fails old piece after new before read read c.args.frames.now c.take_whole.new.frames
    (part_read old piece behind after grown new before mid read c.args.frames.now c.parts.frames c.take_whole.new.frames _ _ moved part c.split_at-in-parts.ensures.back) refl in
    search rules

pub returns-then-stopped-clause-ok : goal.returns-then-stopped-clause-ok
returns-then-stopped-clause-ok g c =
    let old = c.args.rest.now.items in
    let piece = c.args.piece.now in
    let left = c.parts.left.now in
    let behind = c.split_at.result.1.now in
    let now = c.parts.rest.items in
    let grown = c.complete_frame.new.rest.items in
    let before = map seen c.args.results.now.items in
    let mid = map seen c.parts.results.items in
    let moves : Moves now grown left c.in_ok-moved.moved = search rules in
    let moved : Completing old piece behind grown before mid c.args.frames.now c.parts.frames = completing_by old piece left behind now grown before mid c.args.frames.now c.parts.frames c.in_ok-moved.moved c.parts.invariant moves.grown c.split_at.ensures.back in
    let read = map seen c.take_whole.new.results.items in
    let new = c.take_whole.new.rest.items in
    let after = c.split_at-in-parts.result.1.now in
    let part : TakesPart grown new behind mid read c.parts.frames c.take_whole.new.frames c.in_ok-used.field-0.used c.in_ok-used.field-0.stopped = search rules in
    let kept : c.extend.new.list.items ≡ new ++ after = search rules in
    part_stops old piece behind after grown new c.extend.new.list.items before mid read c.args.frames.now c.parts.frames c.take_whole.new.frames c.in_ok-used.field-0.used c.in_ok-used.field-0.stopped moved part c.split_at-in-parts.ensures.back c.if-stopped.true kept

pub returns-then-is_empty-clause-ok : goal.returns-then-is_empty-clause-ok
returns-then-is_empty-clause-ok g c =
    let old = c.args.rest.now.items in
    let piece = c.args.piece.now in
    let left = c.parts.left.now in
    let behind = c.split_at.result.1.now in
    let now = c.parts.rest.items in
    let grown = c.complete_frame.new.rest.items in
    let before = map seen c.args.results.now.items in
    let mid = map seen c.parts.results.items in
    let moves : Moves now grown left c.in_ok-moved.moved = search rules in
    let moved : Completing old piece behind grown before mid c.args.frames.now c.parts.frames = completing_by old piece left behind now grown before mid c.args.frames.now c.parts.frames c.in_ok-moved.moved c.parts.invariant moves.grown c.split_at.ensures.back in
    let read = map seen c.take_whole.new.results.items in
    let new = c.take_whole.new.rest.items in
    let after = c.split_at-in-parts.result.1.now in
    let part : TakesPart grown new behind mid read c.parts.frames c.take_whole.new.frames c.in_ok-used.field-0.used c.in_ok-used.field-0.stopped = search rules in
    let empty : length after ≡ 0 = search rules in
    part_ends old piece behind after grown new before mid read c.args.frames.now c.parts.frames c.take_whole.new.frames c.in_ok-used.field-0.used c.in_ok-used.field-0.stopped moved part c.split_at-in-parts.ensures.back (nil_from_length after empty) c.if-stopped.false

pub parts-preserved : goal.parts-preserved
parts-preserved g c =
    let old = c.args.rest.now.items in
    let piece = c.args.piece.now in
    let left = c.parts.left.now in
    let behind = c.split_at.result.1.now in
    let now = c.parts.rest.items in
    let grown = c.complete_frame.new.rest.items in
    let before = map seen c.args.results.now.items in
    let mid = map seen c.parts.results.items in
    let moves : Moves now grown left c.in_ok-moved.moved = search rules in
    let moved : Completing old piece behind grown before mid c.args.frames.now c.parts.frames = completing_by old piece left behind now grown before mid c.args.frames.now c.parts.frames c.in_ok-moved.moved c.parts.invariant moves.grown c.split_at.ensures.back in
    let read = map seen c.take_whole.new.results.items in
    let new = c.take_whole.new.rest.items in
    let after = c.split_at-in-parts.result.1.now in
    let part : TakesPart grown new behind mid read c.parts.frames c.take_whole.new.frames c.in_ok-used.field-0.used c.in_ok-used.field-0.stopped = search rules in
    part_read old piece behind after grown new before mid read c.args.frames.now c.parts.frames c.take_whole.new.frames c.in_ok-used.field-0.used c.in_ok-used.field-0.stopped moved part c.split_at-in-parts.ensures.back

pub parts-smaller : goal.parts-smaller
parts-smaller g c =
    let left = c.parts.left.now in
    let behind = c.split_at.result.1.now in
    let now = c.parts.rest.items in
    let grown = c.complete_frame.new.rest.items in
    let mid = map seen c.parts.results.items in
    let moves : Moves now grown left c.in_ok-moved.moved = search rules in
    let read = map seen c.take_whole.new.results.items in
    let new = c.take_whole.new.rest.items in
    let after = c.split_at-in-parts.result.1.now in
    let part : TakesPart grown new behind mid read c.parts.frames c.take_whole.new.frames c.in_ok-used.field-0.used c.in_ok-used.field-0.stopped = search rules in
    let more : 0 < length after = search rules in
    part_shorter now grown left behind after new mid read c.parts.frames c.take_whole.new.frames c.in_ok-moved.moved c.in_ok-used.field-0.used c.in_ok-used.field-0.stopped moves c.split_at.ensures.back part c.split_at-in-parts.ensures.back more
