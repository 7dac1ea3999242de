use Rattle.pgp_value_text.proofs.Uniqueness.{one_date, one_instant, one_time}
use Rattle.pgp_value_text.proofs.laws.texts_are_unique.Goals as goal

pub returns : goal.returns
returns c = record { of_date = one_date; of_timestamp = one_instant; of_time = one_time }
