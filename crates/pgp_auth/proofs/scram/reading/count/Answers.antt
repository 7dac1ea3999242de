use Rattle.pgp_auth.proofs.Common.{◌≡◌, ◌+◌, ◌*◌, ◌-◌, ◌^◌, ◌≤◌, drop, sym, get_or, arith, number, number_from}
use Rattle.pgp_auth.proofs.Runs.{digits_step, too_large, all_taken}
use Rattle.pgp_auth.proofs.scram.reading.count.Goals as goal

pub returns-in_default : goal.returns-in_default
returns-in_default c =
    let big : 2 ^ 32 ≤ c.loop-d.n * 10 + (get_or c.args.digits.now c.loop-d.d-index 0 - 48) = grind arith in
    sym (too_large c.loop-d.n c.loop-d.d-index c.args.digits.now c.loop-d.invariant.value c.loop-d-test.true big)

pub returns-in_default-checked_add : goal.returns-in_default-checked_add
returns-in_default-checked_add c =
    let big : 2 ^ 32 ≤ c.loop-d.n * 10 + (get_or c.args.digits.now c.loop-d.d-index 0 - 48) = grind arith in
    sym (too_large c.loop-d.n c.loop-d.d-index c.args.digits.now c.loop-d.invariant.value c.loop-d-test.true big)

pub loop-d-preserved : goal.loop-d-preserved
loop-d-preserved c =
    let sum : c.in-Some-checked_add.sum ≡ c.loop-d.n * 10 + (get_or c.args.digits.now c.loop-d.d-index 0 - 48) = grind arith in
    let step = digits_step c.loop-d.n c.loop-d.d-index c.args.digits.now c.loop-d-test.true in
    let inv : number_from c.loop-d.n (drop c.loop-d.d-index c.args.digits.now) ≡ number c.args.digits.now = c.loop-d.invariant.value in
    let goal_ : number_from c.in-Some-checked_add.sum (drop (c.loop-d.d-index + 1) c.args.digits.now) ≡ number c.args.digits.now = rw (sum, ← step) inv in
    record { value = goal_; fits = grind arith }

pub returns : goal.returns
returns c =
    all_taken c.loop-d.n c.loop-d.d-index c.args.digits.now c.loop-d.invariant.value (omega arith) (grind arith) c.loop-d.invariant.fits
