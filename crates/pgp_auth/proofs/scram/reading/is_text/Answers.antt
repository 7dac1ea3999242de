use Rattle.pgp_auth.proofs.Common.{sym, is_utf8-from_IsUtf8, IsUtf8-from_is_utf8, cases_Bool, is_utf8, inl, inr}
use Rattle.pgp_auth.proofs.scram.reading.is_text.Goals as goal

pub returns-in-Ok : goal.returns-in-Ok
returns-in-Ok c = sym (is_utf8-from_IsUtf8 c.args.message.now c.in-Ok.ensures.cases.1)

pub returns-in-Err : goal.returns-in-Err
returns-in-Err c = elim (cases_Bool (is_utf8 c.args.message.now)) [
  | inl text ↦ absurd (c.in-Err.ensures.cases.0 (IsUtf8-from_is_utf8 c.args.message.now text))
  | inr other ↦ sym other
]
