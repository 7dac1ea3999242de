use Rattle.pgp_message_write.proofs.ReadBack.{places_from, values_back, values_stand}
use Rattle.pgp_message_write.proofs.laws.values_are_read.Goals as goal

pub returns : goal.returns
returns c = λ vs h. (places_from 0 vs, values_back vs h, values_stand vs)
