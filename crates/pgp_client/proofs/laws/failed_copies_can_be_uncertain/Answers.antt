use Rattle.pgp_client.proofs.TwoTruths.{of_first, of_second}
use Rattle.pgp_client.proofs.laws.failed_copies_can_be_uncertain.Goals as goal

pub returns : goal.returns
returns c = record { first = of_first; second = of_second }
