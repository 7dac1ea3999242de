use Rattle.pgp_auth.proofs.Md5Checks.{not_stored, not_digits, answer_compared}
use Rattle.pgp_auth.proofs.password.check.md5_answer.Goals as goal

pub returns-in_default : goal.returns-in_default
returns-in_default c = not_stored c.args.stored.now c.args.salt c.args.answer.now c.in_default.ensures

pub returns-then-digits-ne-DIGITS_LEN : goal.returns-then-digits-ne-DIGITS_LEN
returns-then-digits-ne-DIGITS_LEN c =
    not_digits c.args.stored.now c.args.salt c.args.answer.now c.in-Some.digits.now c.in-Some.ensures c.if-digits-ne-DIGITS_LEN.true

pub returns : goal.returns
returns c =
    answer_compared c.args.stored.now c.args.salt c.args.answer.now c.in-Some.digits.now c.digest_hex.result c.is_md5_text.result c.in-Some.ensures c.if-digits-ne-DIGITS_LEN.false
    c.digest_hex.ensures c.is_md5_text.ensures
