use Rattle.pgwire_engines.proofs.Common.{arith}
use Rattle.pgwire_engines.proofs.ScriptLemmas.{line_at, last_line_of}
use Rattle.pgwire_engines.proofs.client.cut_line.Goals as goal

pub returns-in-Some-clause-cut : goal.returns-in-Some-clause-cut
returns-in-Some-clause-cut c =
    let first = c.in-Some.ensures in
    line_at c.args.bytes.now c.in-Some.end first.0.high first.1 (λ k lt. first.0.before k (omega arith) lt)

pub returns-in-None-clause-cut : goal.returns-in-None-clause-cut
returns-in-None-clause-cut c = last_line_of c.args.bytes.now (λ k lt. c.in-None.ensures k (omega arith) lt)
