use Rattle.pgp_saslprep.proofs.Common.{◌≡◌, ◌-◌, ◌<◌, ◌≤◌, length, drop, get_or, Range, in_table}
use Rattle.pgp_saslprep.proofs.mapping.lists.Given as goal

-- the ranges before `low` don't have the code, nor do those from `high` on
abbrev pub invariant-loop-low : goal.invariant-loop-low
invariant-loop-low l =
    (l.low ≤ l.high)
    × (l.high ≤ length l.table)
    × (in_table l.table l.code ≡ in_table (drop l.low l.table) l.code)
    × (l.high < length l.table → (d : Range) → l.code < (get_or l.table l.high d).0)

abbrev pub decreases-loop-low : goal.decreases-loop-low
decreases-loop-low l = l.high - l.low
