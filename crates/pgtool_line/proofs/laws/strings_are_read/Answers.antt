use Rattle.pgtool_line.proofs.JsonReads.{string_stands}
use Rattle.pgtool_line.proofs.laws.strings_are_read.Goals as goal

pub returns : goal.returns
returns c = string_stands
