use Rattle.pgp_uses.proofs.Common.{◌≡◌, ◌-◌, length, Ok, rules, false, true, ap, TakesFrame, view}
use Rattle.pgp_message.proofs.Steps.{taken_by}
use Rattle.pgp_uses.proofs.Places.{cut_none, cut_next, cut_end}
use Rattle.pgp_uses.proofs.recorder.record.Goals as goal
use Rattle.pgp_uses.proofs.recorder.record.Goals.{in-Ok-Some, in-Err}

pub frames-init : goal.frames-init
frames-init g c = rw (c.new-places.ensures.items, c.new-messages.ensures) (cut_none c.args.bytes.now)

pub returns-in-Ok-None-clause-all : goal.returns-in-Ok-None-clause-all
returns-in-Ok-None-clause-all g c = cut_end c.args.bytes.now c.frames.messages c.frames.places.items c.frames.rest false c.frames.invariant (search rules)

pub returns-in-Err-InvalidLength-clause-all : goal.returns-in-Err-InvalidLength-clause-all
returns-in-Err-InvalidLength-clause-all g c = cut_end c.args.bytes.now c.frames.messages c.frames.places.items c.frames.rest true c.frames.invariant (search rules)

pub frames-preserved : goal.frames-preserved
frames-preserved g c =
    let old = c.frames.messages in
    let new = c.next.new.self in
    let end = length c.args.bytes.now - length c.rest.result.now in
    let ends : end ≡ length c.args.bytes.now - length new = ap (λ (l : _). length c.args.bytes.now - length l) c.rest.ensures in
    elim c.match-next.branch [
      | in-Ok-Some w ↦ let t : TakesFrame old (Ok (view w.in-Ok-Some.message)) new = search rules in cut_next c.args.bytes.now old new c.frames.places.items c.push.new.list.items c.frames.rest end _ c.frames.invariant t ends (search rules)
      | in-Err w ↦ cut_next c.args.bytes.now old new c.frames.places.items c.push.new.list.items c.frames.rest end _ c.frames.invariant (taken_by old new w.in-Err.field-0 (λ h. search rules) w.in-Err.ensures.step) ends (search rules)
    ]
