use Rattle.for_c.proofs.Common.{rules}
use Rattle.for_c.proofs.Compound.{dimension_reader}
use Rattle.for_c.proofs.array.DimensionsListed.read.Goals as goal

pub returns-in-Err-clause-refused : goal.returns-in-Err-clause-refused
returns-in-Err-clause-refused c = dimension_reader.refused c.args._at c.args.rest.now _ (search rules) c.in-Err.ensures

pub returns-in-Ok-clause-item : goal.returns-in-Ok-clause-item
returns-in-Ok-clause-item c bytes stands = dimension_reader.found c.args._at c.args.rest.now _ c.in-Ok.more.now (search rules) c.in-Ok.ensures
