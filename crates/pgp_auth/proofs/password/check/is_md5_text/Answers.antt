use Rattle.pgp_auth.proofs.Common.{arith}
use Rattle.pgp_auth.proofs.Md5Checks.{other_front, other_length, digits_compared}
use Rattle.pgp_auth.proofs.password.check.is_md5_text.Goals as goal

pub returns-in_default : goal.returns-in_default
returns-in_default c = other_front c.args.text.now c.args.digits.now c.in_default.ensures

pub returns-then-rest-ne-DIGITS_LEN : goal.returns-then-rest-ne-DIGITS_LEN
returns-then-rest-ne-DIGITS_LEN c =
    other_length c.args.text.now c.args.digits.now c.in-Some.rest.now c.in-Some.ensures (omega arith) c.if-rest-ne-DIGITS_LEN.true

pub returns : goal.returns
returns c = digits_compared c.args.text.now c.args.digits.now c.in-Some.rest.now c.difference.result c.in-Some.ensures c.difference.ensures
