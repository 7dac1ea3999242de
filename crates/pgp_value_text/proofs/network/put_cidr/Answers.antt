use Rattle.pgp_value_text.proofs.Common.{true, refl, As, network_text, inet, inet_sound}
use Rattle.pgp_value_text.proofs.Texts.{refused}
use Rattle.pgp_value_text.proofs.network.put_cidr.Goals as goal

pub returns-in-Err : goal.returns-in-Err
returns-in-Err g c = (refused inet inet_sound (As (network_text true)) _ _ c.in-Err.ensures, refl)
