use Rattle.pgtool_line.proofs.JsonQuotes.{short_parts, never_added_null}
use Rattle.pgtool_line.proofs.laws.values_differ.Goals as goal

pub returns-clause-some : goal.returns-clause-some
returns-clause-some c = short_parts

pub returns-clause-null : goal.returns-clause-null
returns-clause-null c = never_added_null
