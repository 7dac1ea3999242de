use Rattle.pgp_values.proofs.Common.{◌*◌, ◌++◌, [], map, length, arith, flat_map, uint16, wants_more, only_memory, laid_out, sign_of, run, digit_value, group_down}
use Rattle.pgp_values.proofs.GroupLemmas.{laid_length, laid_more}
use Rattle.pgp_values.proofs.PlaceLemmas.{pairs_size}
use Rattle.pgp_values.proofs.Rows.{ok_behind, why_behind}
use Rattle.pgp_values.proofs.TextLemmas.{run_length}
use Rattle.pgp_values.proofs.groups.put_number.Goals as goal

pub returns-in-Err-clause-cause : goal.returns-in-Err-clause-cause
returns-in-Err-clause-cause g c =
    let n = c.args.g.now in
    let ds = run (group_down (map digit_value (c.args.w.now.whole.now ++ c.args.w.now.fraction.now)) n.point n.top) 0 n.count in
    let memory = only_memory _ c.in-Err.ensures.0 in
    (memory.0, wants_more _ _ _ (omega (arith, laid_length n.count n.weight (sign_of n.negative) n.scale [], laid_length (length ds) n.weight (sign_of n.negative) n.scale (flat_map uint16 ds))) memory.1)

pub returns-in-Ok-clause-cause : goal.returns-in-Ok-clause-cause
returns-in-Ok-clause-cause g c =
    let n = c.args.g.now in
    let f = group_down (map digit_value (c.args.w.now.whole.now ++ c.args.w.now.fraction.now)) n.point n.top in
    let ds = run f 0 n.count in
    why_behind g.B.Buffer.Lacks c.put_groups.result (g.B.Buffer.held c.args.buf.now) _ (laid_out n.count n.weight (sign_of n.negative) n.scale []) (2 * n.count) _ c.in-Ok.ensures.1
    (omega (arith, laid_length n.count n.weight (sign_of n.negative) n.scale [], laid_length (length ds) n.weight (sign_of n.negative) n.scale (flat_map uint16 ds), pairs_size ds, run_length f 0 n.count)) c.put_groups.ensures.cause

pub returns-in-Ok-clause-ok : goal.returns-in-Ok-clause-ok
returns-in-Ok-clause-ok g c =
    let n = c.args.g.now in
    let f = group_down (map digit_value (c.args.w.now.whole.now ++ c.args.w.now.fraction.now)) n.point n.top in
    let ds = run f 0 n.count in
    let bytes = flat_map uint16 ds in
    ok_behind c.put_groups.result (g.B.Buffer.held c.args.buf.now) _ _ (laid_out n.count n.weight (sign_of n.negative) n.scale []) bytes _ c.in-Ok.ensures.1 (laid_more n.count n.weight (sign_of n.negative) n.scale bytes (length ds) (run_length f 0 n.count)) c.put_groups.ensures.ok
