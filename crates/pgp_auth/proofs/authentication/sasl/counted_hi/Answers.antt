use Rattle.pgp_auth.proofs.Common.{◌≡◌, ◌+◌, ◌-◌, suc, arith, refl, append-nil, uint32, nth_code, xor_of_codes}
use Rattle.pgp_auth.proofs.Codes.{code_is}
use Rattle.pgp_auth.proofs.authentication.sasl.counted_hi.Goals as goal

pub rounds-init : goal.rounds-init
unfolding nth_code xor_of_codes uint32
rounds-init c =
    let code = rw (c.to_be_bytes.ensures, c.new-maker.ensures, code_is) at c.counted_code-code.ensures.value in
    record { last = code; all = code; count = c.counted_code-code.ensures.count; upper = omega arith }

pub rounds-preserved : goal.rounds-preserved
unfolding nth_code xor_of_codes
rounds-preserved c =
    let next : c.rounds._round + 1 - 1 ≡ suc (c.rounds._round - 1) = omega arith in
    let code = rw (append-nil, c.new-maker.ensures, code_is, c.rounds.invariant.last) at c.counted_code-code-in-rounds.ensures.value in
    record {
      last = rw next code;
      all = rw (next, c.xor_into.ensures, c.rounds.invariant.all, code) refl;
      count = omega arith;
      upper = omega arith;
    }

pub returns-clause-value : goal.returns-clause-value
returns-clause-value c =
    let m : c.rounds._round - 1 ≡ c.args.i - 1 = omega arith in
    rw m at c.rounds.invariant.all

pub returns-clause-count : goal.returns-clause-count
returns-clause-count c = omega arith
