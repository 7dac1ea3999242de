use Rattle.pgp_types.proofs.Readings.{whole_sound}
use Rattle.pgp_types.proofs.InetLemmas.{inet_sound, wide_refused}
use Rattle.pgp_types.proofs.laws.addresses.Goals as goal

pub returns-clause-of_macaddr : goal.returns-clause-of_macaddr
returns-clause-of_macaddr c = whole_sound 6

pub returns-clause-of_uuid : goal.returns-clause-of_uuid
returns-clause-of_uuid c = whole_sound 16

pub returns-clause-of_inet : goal.returns-clause-of_inet
returns-clause-of_inet c = inet_sound

pub returns-clause-wide : goal.returns-clause-wide
returns-clause-wide c = wide_refused
