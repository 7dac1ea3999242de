-- The chunks so far were listed, whatever came before.
use Rattle.pgtrace_session.proofs.Common.{◌≡◌, ◌≤◌, ◌-◌, drop, length, string_bytes, view_of, kept_of}
use Rattle.pgtrace_session.proofs.Sessions.{Lists}
use Rattle.pgtrace_session.proofs.session.list_chunks.Given as goal

abbrev pub invariant-chunks : goal.invariant-chunks
invariant-chunks g l = Lists (view_of l.view) l.begun l.opened (kept_of l.fn.talk) (kept_of l.talk) l.bytes l.rest (string_bytes l.fn.texts.lines) (string_bytes l.texts.lines)
    × (l.rest ≡ drop (length l.bytes - length l.rest) l.bytes)
    × (length l.rest ≤ length l.bytes)

abbrev pub decreases-chunks : goal.decreases-chunks
decreases-chunks g l = length l.rest
