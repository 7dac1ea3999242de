-- Those so far have their lines.
use Rattle.pgtrace_session.proofs.Common.{◌≡◌, ◌++◌, take, string_bytes, flat_map, row_in, view_of}
use Rattle.pgtrace_session.proofs.table.put_rows.Given as goal

abbrev pub invariant-loop-entry : goal.invariant-loop-entry
invariant-loop-entry g l = string_bytes l.text ≡ string_bytes l.fn.text ++ flat_map (row_in (view_of l.view) l.whole) (take l.entry-index l.entries)
