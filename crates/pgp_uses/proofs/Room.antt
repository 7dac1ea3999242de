-- Which growth a writer of a message wants, in a buffer of its own and in memory of the caller's.
use Rattle.pgp_uses.proofs.Common.{◌≡◌, ℕ, ◌<◌, Some, Result, Ok, Err, IfErr, WantsMemory, Held, Error, memory_lacks, ClientMessage, cause, WritesMessage}
use Rattle.std.proofs.Common.{◌⊎◌}

pub for_memory : {K : Type 0} (L : Type 0) (m : ClientMessage) (old new : Held K) (r : Result (Unit {0}) Error) → WritesMessage m (λ (h : Held K) (n : ℕ). L × (0 < n)) old new r → IfErr r (λ e. WantsMemory L e ⊎ (cause m ≡ Some e))
for_memory L m old new (Ok done) w = tt
for_memory L m old new (Err e) w = memory_lacks old _ e w.1.0
