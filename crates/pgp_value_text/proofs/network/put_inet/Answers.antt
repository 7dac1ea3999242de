use Rattle.pgp_value_text.proofs.Common.{refl, As, has_netmask, network_text, inet, inet_sound}
use Rattle.pgp_value_text.proofs.Texts.{refused}
use Rattle.pgp_value_text.proofs.network.put_inet.Goals as goal

pub returns-in-Err : goal.returns-in-Err
returns-in-Err g c = (refused inet inet_sound (As (λ v. network_text (has_netmask v) v)) _ _ c.in-Err.ensures, refl)
