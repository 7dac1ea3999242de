use Rattle.for_c_auth.proofs.Kept.{last_value}
use Rattle.for_c_auth.proofs.connection_laws.settings_have_their_last_values.Goals as goal

pub returns : goal.returns
returns c = λ given s kept name some. last_value given s kept name some
