-- Private: how many bytes are missing, as the code computes it from the length on.
use Rattle.std.specs.Prelude.{ℕ, ◌-◌, List, length, Option, Some, None}
use Rattle.pgp_base.specs.PartReading.{oid_at}

abbrev pub less : Option (ℕ × List ℕ) → ℕ → ℕ
less None size = 0
less (Some x) size = x.0 - size

abbrev pub missing_from : List ℕ → ℕ
missing_from bytes = less (oid_at bytes) (length bytes)
