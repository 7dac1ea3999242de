use Rattle.pgwire_engines.proofs.Common.{◌≡◌, ◌++◌, take, map, string_bytes, flat_map, seen, line_of}
use Rattle.pgwire_engines.proofs.backend.list.Given as goal

abbrev pub invariant-loop-read : goal.invariant-loop-read
invariant-loop-read g l = string_bytes l.text ≡ string_bytes l.fn.text ++ flat_map line_of (map seen (take l.read-index l.results))
