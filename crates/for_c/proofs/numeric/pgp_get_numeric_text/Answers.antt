use Rattle.for_c.proofs.Common.{rules, refl}
use Rattle.for_c.proofs.Sending.{wrote}
use Rattle.for_c.proofs.numeric.pgp_get_numeric_text.Goals as goal

pub returns-in-Ok-numeric_to_text-clause-wrote : goal.returns-in-Ok-numeric_to_text-clause-wrote
returns-in-Ok-numeric_to_text-clause-wrote c z =
    (_, c.in-Ok.ensures, wrote _ _ refl c.new-window.result c.numeric_to_text.new.out c.args.out.now _ c.new-window.ensures c.in-Ok-numeric_to_text.ensures.1 _ (search rules) _ c.sent.ensures.reported)
