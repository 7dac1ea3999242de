use Rattle.pgp_types.proofs.Spelling.{fixed_sound}
use Rattle.pgp_types.proofs.Numbers.{int8_spelling, int16_spelling, int32_spelling, int64_spelling, uint32_spelling, uint64_spelling}
use Rattle.pgp_types.proofs.Readings.{bool_sound, all_sound}
use Rattle.pgp_types.proofs.laws.scalars.Goals as goal

pub returns-clause-of_bool : goal.returns-clause-of_bool
returns-clause-of_bool c = bool_sound

pub returns-clause-of_bytea : goal.returns-clause-of_bytea
returns-clause-of_bytea c = all_sound

pub returns-clause-of_char : goal.returns-clause-of_char
returns-clause-of_char c = fixed_sound int8_spelling

pub returns-clause-of_int2 : goal.returns-clause-of_int2
returns-clause-of_int2 c = fixed_sound int16_spelling

pub returns-clause-of_int4 : goal.returns-clause-of_int4
returns-clause-of_int4 c = fixed_sound int32_spelling

pub returns-clause-of_int8 : goal.returns-clause-of_int8
returns-clause-of_int8 c = fixed_sound int64_spelling

pub returns-clause-of_oid : goal.returns-clause-of_oid
returns-clause-of_oid c = fixed_sound uint32_spelling

pub returns-clause-of_lsn : goal.returns-clause-of_lsn
returns-clause-of_lsn c = fixed_sound uint64_spelling

pub returns-clause-of_float4 : goal.returns-clause-of_float4
returns-clause-of_float4 c = fixed_sound uint32_spelling

pub returns-clause-of_float8 : goal.returns-clause-of_float8
returns-clause-of_float8 c = fixed_sound uint64_spelling
