use Rattle.pgp_values.proofs.Common.{numeric_text}
use Rattle.pgp_values.proofs.KeptLemmas.{meant_is_kept}
use Rattle.pgp_values.proofs.RoundLemmas.{one_meaning, kept_means, settled}
use Rattle.pgp_values.proofs.laws.number_texts.Goals as goal

pub returns-clause-one : goal.returns-clause-one
returns-clause-one c = one_meaning

pub returns-clause-back : goal.returns-clause-back
returns-clause-back c = kept_means

pub returns-clause-kept : goal.returns-clause-kept
returns-clause-kept c = meant_is_kept

pub returns-clause-round : goal.returns-clause-round
returns-clause-round c v w kept means = one_meaning (numeric_text v) v w (kept_means v kept) means

pub returns-clause-settled : goal.returns-clause-settled
returns-clause-settled c = settled
