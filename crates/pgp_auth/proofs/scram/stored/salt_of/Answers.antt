use Rattle.pgp_auth.proofs.Common.{refl, arith, inr}
use Rattle.pgp_auth.proofs.ServerTexts.{no_salt, shown_alone}
use Rattle.pgp_auth.proofs.scram.stored.salt_of.Goals as goal

pub returns-in-Ok-clause-ok : goal.returns-in-Ok-clause-ok
returns-in-Ok-clause-ok g c = (rw c.deref.ensures.value at c.are_bytes.ensures, shown_alone c.args.shown.now c.in-Ok.salt.items (λ i. omega (arith, c.type_inv.shown i)) c.in-Ok.ensures.ok)

pub returns-in-Err-DecodeError-clause-err : goal.returns-in-Err-DecodeError-clause-err
returns-in-Err-DecodeError-clause-err g c = inr (refl, λ salt. no_salt c.args.shown.now _ salt (rw c.in-Err-DecodeError.field-0-is at c.in-Err-DecodeError.ensures.err))
