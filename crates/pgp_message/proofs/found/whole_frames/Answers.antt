use Rattle.pgp_message.proofs.Common.{rules, Front, IsFront}
use Rattle.pgp_message.proofs.FindLemmas.{finding_none, finding_more, finding_within, finds_frames}
use Rattle.pgp_message.proofs.found.whole_frames.Goals as goal

pub frames-init : goal.frames-init
frames-init c = record { so_far = finding_none c.args.bytes.now; here = c.requires }

pub overflow_add-count : goal.overflow_add-count
overflow_add-count c = search (rules, finding_within c.args.bytes.now c.frames.rest.now c.frames.count c.frames.invariant.so_far)

pub frames-preserved : goal.frames-preserved
frames-preserved c =
    let f : Front = record { tag = c.front.inside.tag; total = c.front.inside.total } in
    let front : IsFront f c.frames.rest.now = search rules in
    record {
      so_far = finding_more c.args.bytes.now c.frames.rest.now _ c.frames.count f c.frames.invariant.so_far front (search rules);
      here = search rules;
    }

pub overflow_sub-result : goal.overflow_sub-result
overflow_sub-result c = search (rules, finding_within c.args.bytes.now c.frames.rest.now c.frames.count c.frames.invariant.so_far)

pub returns-in_default : goal.returns-in_default
returns-in_default c = finds_frames c.args.bytes.now c.frames.rest.now _ c.frames.invariant.so_far (search rules) (search rules)
