use Rattle.pgp_values.proofs.Common.{length, if_err_at}
use Rattle.pgp_values.proofs.ScanLemmas.{some_of, none_of, more_left, marked_is, refused_past}
use Rattle.pgp_values.proofs.scan.marked_at.Goals as goal

pub returns-then-not-is_empty-clause-refused : goal.returns-then-not-is_empty-clause-refused
returns-then-not-is_empty-clause-refused c =
    more_left c.args.bytes.now c.sign_at-negative.result.1.now c.digits_at.result.0.now c.digits_at.result.1.now c.sign_at-negative.result.0 c.sign_at-negative.ensures c.digits_at.ensures
    (some_of (length c.digits_at.result.1.now) c.if-not-is_empty.ensures)

pub returns-in_err-value-clause-refused : goal.returns-in_err-value-clause-refused
returns-in_err-value-clause-refused c =
    let ds = c.digits_at.result.0.now in
    let left = c.digits_at.result.1.now in
    let is = marked_is c.args.bytes.now c.sign_at-negative.result.1.now ds left c.sign_at-negative.result.0 c.sign_at-negative.ensures c.digits_at.ensures
    (some_of (length ds) c.if-is_empty.ensures) (none_of (length left) c.if-not-is_empty.ensures) in
    if_err_at _ _ _ c.from_residual.ensures.1 (refused_past c.args.bytes.now c.sign_at-negative.result.0 ds _ c.in_err-value.ensures.past.0 c.in_err-value.ensures.past.1 is)
