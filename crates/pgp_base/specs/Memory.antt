-- Why a call lacks memory.
use Rattle.std.specs.Prelude.{◌≡◌}
use Rattle.pgp_base.specs.declared.error.Error.{Error}
use Rattle.pgp_base.specs.declared.error.Error.TheVariants.{OutOfMemory}

-- the error for lack of memory, which comes only where an allocation failed: `lacks` says which
abbrev pub WantsMemory : Type 0 → Error → Type 0
WantsMemory lacks e = (e ≡ OutOfMemory) × lacks
