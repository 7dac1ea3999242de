use Rattle.for_c.proofs.Common.{rules, sym, subst, copies, fronts, YieldsList, YieldsList-from_slice, YieldsList-from_copied, Yielded, all_same, some_same, snapshot, snapshot_of, FromItself}
use Rattle.for_c.proofs.ListWriting.{writes_value, fails_value}
use Rattle.for_c.proofs.SnapshotLists.{wrote_all, why_none}
use Rattle.for_c.proofs.snapshot.pgp_put_snapshot.Goals as goal

pub returns-clause-wrote : goal.returns-clause-wrote
returns-clause-wrote c z =
    let all = c.args.running.now in
    let source = c.copied.result in
    let road : YieldsList (copies fronts) (λ x. x) source all = YieldsList-from_copied (YieldsList-from_slice all cc) in
    let each : (it : _) → FromItself source it → YieldsList (copies fronts) (λ x. x) it all = λ it from. subst (λ s. YieldsList (copies fronts) (λ x. x) s all) (sym from) road in
    let ok = wrote_all c.args.xmin c.args.xmax all (Yielded FromItself (copies fronts) source) (λ xs k. all_same FromItself (copies fronts) source all each xs k) (λ xs x k. some_same FromItself (copies fronts) source all each xs x k)
    _ _ _ c.snapshot_to_sql-answer.result c.snapshot_to_sql-answer.ensures in
    writes_value snapshot (snapshot_of c.args.xmin c.args.xmax all) c.new-window.result c.snapshot_to_sql-answer.new.buf c.args.out.now _ c.new-window.ensures c.snapshot_to_sql-answer.result ok _ (search rules) _ (c.ended.ensures.sent z)

pub returns-clause-refused : goal.returns-clause-refused
returns-clause-refused c z =
    let all = c.args.running.now in
    let source = c.copied.result in
    let road : YieldsList (copies fronts) (λ x. x) source all = YieldsList-from_copied (YieldsList-from_slice all cc) in
    let each : (it : _) → FromItself source it → YieldsList (copies fronts) (λ x. x) it all = λ it from. subst (λ s. YieldsList (copies fronts) (λ x. x) s all) (sym from) road in
    let why = why_none c.args.xmin c.args.xmax all (Yielded FromItself (copies fronts) source) (λ xs k. all_same FromItself (copies fronts) source all each xs k) (λ xs x k. some_same FromItself (copies fronts) source all each xs x k)
    _ _ _ c.snapshot_to_sql-answer.result c.snapshot_to_sql-answer.ensures in
    fails_value snapshot (snapshot_of c.args.xmin c.args.xmax all) c.new-window.result c.args.out.now _ c.new-window.ensures c.snapshot_to_sql-answer.result why _ _ (c.ended.ensures.refused z)
