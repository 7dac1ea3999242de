-- Calls that are interrupted, and those that fail.
use Rattle.std.specs.Prelude.{◌≡◌, ◌≢◌, ◌⊎◌, ℕ, ◌+◌}
use Rattle.std.specs.IoError.{error_kind}
use Rattle.std.specs.declared.io.Error.{Error}
use Rattle.std.specs.declared.io.ErrorKind.{ErrorKind}
use Rattle.std.specs.declared.io.ErrorKind.TheVariants.{Interrupted, OutOfMemory}
use Rattle.pgtool_line.specs.Words.{greatest}
use Rattle.pgtool_line.specs.declared.fault.Fault.{Fault}
use Rattle.pgtool_line.specs.declared.fault.Fault.TheVariants.{Memory, Read, Write}

-- A call that is rejected so was interrupted, one call in a row more than before it; or it failed.
pub record Refuses {S : Type 0} (fails : Type 0) (interrupted : S → ℕ → Type 0) (old new : S) (e : Error) : Type 0 where
  pub failed : error_kind e ≢ Interrupted → fails
  pub once : error_kind e ≡ Interrupted → interrupted new 1
  pub again : error_kind e ≡ Interrupted → (n : ℕ) → interrupted old n → interrupted new (n + 1)

-- Why no more is tried: a call failed, or as many in a row were interrupted as can be counted.
abbrev pub GivesUp : {S : Type 0} → Type 0 → (S → ℕ → Type 0) → Type 0
GivesUp {S} fails interrupted = fails ⊎ ((now : S) × interrupted now greatest)

-- A read failed, for lack of memory or otherwise, where a reader fails with errors of such kinds.
abbrev pub ReadFails : (ErrorKind → Type 0) → Fault → Type 0
ReadFails fails Memory = fails OutOfMemory
ReadFails fails Read = (kind : ErrorKind) × (kind ≢ OutOfMemory) × fails kind
ReadFails fails Write = ⊥

-- Why no more is read: a read failed, or as many calls came in a row as can be counted.
abbrev pub StopsReading : {S : Type 0} → (ErrorKind → Type 0) → (S → ℕ → Type 0) → Fault → Type 0
StopsReading fails called Memory = ReadFails fails Memory
StopsReading {S} fails called Read = ReadFails fails Read ⊎ ((now : S) × called now greatest)
StopsReading fails called Write = ReadFails fails Write

-- Nothing is read, so that no read fails.
abbrev pub NoRead : Fault → Type 0
NoRead fault = ⊥
