-- The recordings so far were added, and nothing was written.
use Rattle.pgtrace_session.proofs.Common.{map, take, view_of, AddsFiles}
use Rattle.std.specs.Io.KnownBytes.{Keeps}
use Rattle.pgtrace_session.proofs.files.add_files.Given as goal

abbrev pub invariant-loop-name : goal.invariant-loop-name
invariant-loop-name g l = AddsFiles g.R.Recordings.Gives (view_of l.view) l.marking (map (λ name. name.now) (take l.name-index l.names)) l.table.tallies l.end
    × Keeps (g.W.Write.contents l.fn.output) (g.W.Write.contents l.output)
