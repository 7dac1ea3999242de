use Rattle.pgp_message.proofs.Common.{one_counted_list, TypeSpelled, TypeRefused, type_at}
use Rattle.pgp_message.proofs.NumberLemmas.{type_reader}
use Rattle.pgp_message.proofs.laws.one_list_of_types.Goals as goal

pub returns : goal.returns
returns c = one_counted_list TypeSpelled TypeRefused (λ place. type_at) type_reader
