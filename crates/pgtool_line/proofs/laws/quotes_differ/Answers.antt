use Rattle.pgtool_line.proofs.JsonQuotes.{string_one}
use Rattle.pgtool_line.proofs.Quotes.{quoted_one}
use Rattle.pgtool_line.proofs.laws.quotes_differ.Goals as goal

pub returns-clause-columns : goal.returns-clause-columns
returns-clause-columns c = quoted_one

pub returns-clause-json : goal.returns-clause-json
returns-clause-json c = string_one
