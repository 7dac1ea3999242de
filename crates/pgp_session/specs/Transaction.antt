-- The state of a session's transaction, after the manual's "Message Flow" and its format of ReadyForQuery.
use Rattle.std.specs.Prelude.{ℕ, Bool, true, false, not}
use Rattle.pgp_session.specs.declared.transaction.Status.{Status}
use Rattle.pgp_session.specs.declared.transaction.Status.TheVariants.{Idle, Open, Failed}

-- `I`, `T` or `E`
abbrev pub letter : Status → ℕ
letter Idle = 73
letter Open = 84
letter Failed = 69

-- a transaction that is open fails
abbrev pub after_error : Status → Status
after_error Idle = Idle
after_error Open = Failed
after_error Failed = Failed

-- in a failed one no statement is taken but those that end it, or go back to a savepoint
abbrev pub rejects : Status → (ends : Bool) → Bool
rejects Idle ends = false
rejects Open ends = false
rejects Failed ends = not ends

-- a portal lives as long as its transaction, which is that of one query where none was begun
abbrev pub ends_portals : Status → Bool
ends_portals Idle = true
ends_portals Open = false
ends_portals Failed = false

-- the COMMIT of a failed one rolls it back
abbrev pub commits : Status → Bool
commits Idle = true
commits Open = true
commits Failed = false
