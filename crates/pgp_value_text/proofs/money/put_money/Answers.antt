use Rattle.pgp_value_text.proofs.Common.{refl, fixed_sound, int64_spelling, As, money, money_text}
use Rattle.pgp_value_text.proofs.Texts.{refused}
use Rattle.pgp_value_text.proofs.money.put_money.Goals as goal

pub returns-in-Err : goal.returns-in-Err
returns-in-Err g c = (refused money (fixed_sound int64_spelling) (As money_text) _ _ c.in-Err.ensures, refl)
