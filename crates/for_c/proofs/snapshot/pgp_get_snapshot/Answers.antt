use Rattle.for_c.proofs.Common.{rules, refl}
use Rattle.for_c.proofs.SnapshotWalks.{begins_snapshot}
use Rattle.for_c.proofs.snapshot.pgp_get_snapshot.Goals as goal

pub returns-in-Ok-clause-read : goal.returns-in-Ok-clause-read
returns-in-Ok-clause-read c z = begins_snapshot c.args.bytes.now _ _ _ _ _ c.in-Ok.ensures.value (search rules) (search rules) (search rules) refl
