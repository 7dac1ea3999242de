use Rattle.pgwire_engines.proofs.Common.{arith, Some, None, split_parts}
use Rattle.pgwire_engines.proofs.ScriptLemmas.{free}
use Rattle.pgwire_engines.proofs.script.words.Goals as goal

pub returns-in-Some-clause-first : goal.returns-in-Some-clause-first
returns-in-Some-clause-first c = free 32 c.in-Some.word.now (split_parts 32 c.args.line.now (Some (c.in-Some.word, c.in-Some.rest)) c.in-Some.ensures.cases (omega arith)).1

pub returns-in-None-clause-first : goal.returns-in-None-clause-first
returns-in-None-clause-first c = free 32 c.args.line.now (split_parts 32 c.args.line.now None c.in-None.ensures.cases (omega arith))
