use Rattle.pgwire_engines.proofs.Common.{string_bytes}
use Rattle.pgwire_engines.proofs.Lists.{Lists}
use Rattle.pgwire_engines.proofs.backend.lines_of.Given as goal

abbrev pub invariant-loop : goal.invariant-loop
invariant-loop g l = Lists (g.R.Read.remaining l.fn.input) (g.R.Read.remaining l.input) l.parser (string_bytes l.text)
