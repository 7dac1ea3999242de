-- What a window on memory of the caller's holds.
use Rattle.std.specs.Prelude.{ℕ, ◌+◌, ◌<◌, List, length, take, drop}
use Rattle.std.specs.Borrow.{MutBor, GName}
use Rattle.pgp_base.specs.Held.{Held}
use Rattle.pgp_base.specs.declared.window.Window.{Window}

-- which memory it is: the caller's, of so many bytes
abbrev pub place : MutBor (List ℕ) → GName × ℕ
place room = (room.ghost_name, length room.now)

-- the bytes are the first of the caller's, and the others stand after them
abbrev pub window_held : Window → Held (GName × ℕ)
window_held w = record { bytes = take w.len w.room.now; behind = drop w.len w.room.now; kept = place w.room }

-- n bytes more don't fit: the caller's memory is shorter than what stands there and they
abbrev pub window_lacks : Held (GName × ℕ) → ℕ → Type 0
window_lacks h n = h.kept.1 < length h.bytes + n
