use Rattle.pgp_session.proofs.Common.{◌≡◌, take}
use Rattle.pgp_login.specs.Timely.{is_among}
use Rattle.pgp_session.proofs.protocol_options.is_among.Given as goal

abbrev pub invariant-each : goal.invariant-each
invariant-each g l = l.found ≡ is_among (take l.option-index l.sent) l.name
