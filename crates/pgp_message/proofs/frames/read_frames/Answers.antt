use Rattle.pgp_message.proofs.Common.{◌≡◌, ◌+◌, ◌-◌, ◌<◌, ◌∷◌, [], drop, length, map, rules, arith, ap, length-drop, length-map, TakesSome, TakesOnto, seen}
use Rattle.std.proofs.lemmas.List.{length-append}
use Rattle.pgp_message.proofs.FindLemmas.{frames_some, frames_begin, taking_none, taking_more, taking_some, taking_all, takes_none}
use Rattle.pgp_message.proofs.frames.read_frames.Goals as goal

pub returns-in_err-reserve-clause-some : goal.returns-in_err-reserve-clause-some
returns-in_err-reserve-clause-some g c =
    let before = map seen c.args.results.now.items in
    let some : TakesSome c.args.frames.now before (map seen c.reserve.new.list.items) = takes_none c.args.frames.now before _ (ap (map seen) (search rules)) in
    search rules

pub frames-init : goal.frames-init
frames-init g c = record {
  left = c.args.count;
  taking = taking_none c.args.frames.now c.args.count (map seen c.args.results.now.items) (map seen c.reserve.new.list.items) c.requires (ap (map seen) (search rules));
  within = omega arith;
  room = search rules;
}

pub read_onto-requires-clause-frame : goal.read_onto-requires-clause-frame
read_onto-requires-clause-frame g c =
    let now = drop c.frames.at c.args.frames.now in
    let left = c.frames.invariant.left in
    let some : 0 < length now = search (rules, length-drop c.frames.at c.args.frames.now) in
    frames_begin now left c.frames.invariant.taking.behind (frames_some now left c.frames.invariant.taking.behind some)

pub read_onto-requires-clause-room : goal.read_onto-requires-clause-room
read_onto-requires-clause-room g c =
    let now = drop c.frames.at c.args.frames.now in
    let some : 0 < length now = search (rules, length-drop c.frames.at c.args.frames.now) in
    omega (arith, c.frames.invariant.room, frames_some now c.frames.invariant.left c.frames.invariant.taking.behind some)

pub returns-in_err-at-clause-some : goal.returns-in_err-at-clause-some
returns-in_err-at-clause-some g c =
    let before = map seen c.args.results.now.items in
    let after = map seen c.read_onto.new.results.items in
    let some : TakesSome c.args.frames.now before after = taking_some c.args.frames.now (drop c.frames.at c.args.frames.now) c.args.count c.frames.invariant.left before (map seen c.frames.results.items) after c.frames.invariant.taking (search rules) in
    search rules

pub frames-preserved : goal.frames-preserved
frames-preserved g c =
    let mid = map seen c.frames.results.items in
    let after = map seen c.read_onto.new.results.items in
    let all = c.args.frames.now in
    let now = drop c.frames.at all in
    let left = c.frames.invariant.left in
    let bytes : 0 < length now = search (rules, length-drop c.frames.at all) in
    let some = frames_some now left c.frames.invariant.taking.behind bytes in
    let one : TakesOnto now (drop c.in_ok-at.at all) mid after = search rules in
    let joined : length c.read_onto.new.results.items ≡ length c.frames.results.items + 1 =
    omega (arith, ap length one.grown, length-append mid (one.result ∷ []), length-map c.frames.results.items seen, length-map c.read_onto.new.results.items seen) in
    record {
      left = left - 1;
      taking = taking_more all now (drop c.in_ok-at.at all) c.args.count left (map seen c.args.results.now.items) mid after c.frames.invariant.taking some one;
      within = search rules;
      room = omega (arith, joined, c.frames.invariant.room, c.read_onto.ensures.room, some);
    }

pub returns-clause-ok : goal.returns-clause-ok
returns-clause-ok g c =
    let empty : length (drop c.frames.at c.args.frames.now) ≡ 0 = search (rules, length-drop c.frames.at c.args.frames.now) in
    taking_all c.args.frames.now (drop c.frames.at c.args.frames.now) c.args.count c.frames.invariant.left (map seen c.args.results.now.items) (map seen c.frames.results.items) c.frames.invariant.taking empty
