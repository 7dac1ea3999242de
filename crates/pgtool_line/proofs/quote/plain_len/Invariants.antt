-- What came so far stands as it is.
use Rattle.pgtool_line.proofs.Common.{◌≡◌, ◌≤◌, ◌+◌, ◌-◌, true, length, take, drop, list_all, prefix_len, is_plain}
use Rattle.pgtool_line.proofs.quote.plain_len.Given as goal

abbrev pub invariant-bytes : goal.invariant-bytes
invariant-bytes l = (l.len ≤ length l.bytes) × (list_all is_plain (take l.len l.bytes) ≡ true)
    × (prefix_len is_plain l.bytes ≡ l.len + prefix_len is_plain (drop l.len l.bytes))

abbrev pub decreases-bytes : goal.decreases-bytes
decreases-bytes l = length l.bytes - l.len
