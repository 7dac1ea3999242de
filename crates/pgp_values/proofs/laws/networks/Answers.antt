use Rattle.pgp_values.proofs.Common.{refl}
use Rattle.pgp_types.proofs.InetLemmas.{inet_sound}
use Rattle.pgp_values.proofs.laws.networks.Goals as goal

pub returns : goal.returns
returns c = record {
  some = inet_sound.some;
  one = inet_sound.one;
  back = λ v is fits. (is, (1, refl));
}
