use Rattle.pgp_values.proofs.Common.{◌≢◌, ◌+◌, length, arith, if_err_at}
use Rattle.pgp_values.proofs.ScanLemmas.{some_of, none_of, nothing_written, written_refused}
use Rattle.pgp_values.proofs.written.written_of.Goals as goal
use Rattle.pgp_values.proofs.written.written_of.Goals.{else-is_empty-via-then-is_empty+else-is_empty-2, else-is_empty-via-else-is_empty}

pub returns-then-is_empty-2-clause-refused : goal.returns-then-is_empty-2-clause-refused
returns-then-is_empty-2-clause-refused c =
    let whole = c.digits_at.result.0.now in
    let fraction = c.fraction_at.result.0.now in
    nothing_written c.args.bytes.now c.sign_at-negative.result.1.now whole c.digits_at.result.1.now fraction c.fraction_at.result.1.now c.sign_at-negative.result.0 c.sign_at-negative.ensures c.digits_at.ensures c.fraction_at.ensures
    (none_of (length whole) c.if-is_empty.ensures) (none_of (length fraction) c.if-is_empty-2.ensures)

pub returns-in_err-divided-clause-refused : goal.returns-in_err-divided-clause-refused
returns-in_err-divided-clause-refused c =
    let whole = c.digits_at.result.0.now in
    let fraction = c.fraction_at.result.0.now in
    let some : length whole + length fraction ≢ 0 = elim c.else-is_empty.branch [
      | else-is_empty-via-then-is_empty+else-is_empty-2 w ↦ (λ z. some_of (length fraction) w.if-is_empty-2.ensures (omega (arith, z)))
      | else-is_empty-via-else-is_empty w ↦ (λ z. some_of (length whole) w.if-is_empty.ensures (omega (arith, z)))
    ] in
    if_err_at _ _ _ c.from_residual.ensures.1
    (written_refused c.args.bytes.now c.sign_at-negative.result.1.now whole c.digits_at.result.1.now fraction c.fraction_at.result.1.now c.sign_at-negative.result.0 c.sign_at-negative.ensures c.digits_at.ensures c.fraction_at.ensures some _ c.in_err-divided.ensures.refused)
