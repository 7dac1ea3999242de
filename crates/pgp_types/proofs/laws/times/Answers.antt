use Rattle.pgp_types.proofs.Spelling.{fixed_sound}
use Rattle.pgp_types.proofs.Numbers.{int32_spelling, int64_spelling}
use Rattle.pgp_types.proofs.laws.times.Goals as goal

pub returns-clause-of_timestamp : goal.returns-clause-of_timestamp
returns-clause-of_timestamp c = fixed_sound int64_spelling

pub returns-clause-of_time : goal.returns-clause-of_time
returns-clause-of_time c = fixed_sound int64_spelling

pub returns-clause-of_date : goal.returns-clause-of_date
returns-clause-of_date c = fixed_sound int32_spelling
