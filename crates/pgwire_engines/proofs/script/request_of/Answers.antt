use Rattle.pgwire_engines.proofs.Common.{rules}
use Rattle.pgwire_engines.proofs.ScriptLemmas.{never_said}
use Rattle.pgwire_engines.proofs.script.request_of.Goals as goal

pub returns-in_default-word-clause-other : goal.returns-in_default-word-clause-other
returns-in_default-word-clause-other g c = never_said c.args.line.now c.words.result.0.now c.words.result.1.now c.words.ensures.parts c.words.ensures.first (search rules) (search rules) (search rules) (search rules) (search rules) (search rules) (search rules)
