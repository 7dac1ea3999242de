use Rattle.pgp_values.proofs.Common.{◌≡◌, ◌-◌, ◌<◌, ◌≤◌, length, drop, get_or, Entry, format_in}
use Rattle.pgp_values.proofs.formats.format_in.Given as goal

-- the number doesn't stand before `low`, nor from `high` on
abbrev pub invariant-loop-low : goal.invariant-loop-low
invariant-loop-low l =
    (l.low ≤ l.high)
    × (l.high ≤ length l.table)
    × (format_in l.table l.oid ≡ format_in (drop l.low l.table) l.oid)
    × (l.high < length l.table → (d : Entry) → l.oid < (get_or l.table l.high d).0)

abbrev pub decreases-loop-low : goal.decreases-loop-low
decreases-loop-low l = l.high - l.low
