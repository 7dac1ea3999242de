use Rattle.pgp_message.proofs.Common.{one_counted_list, RangeSpelled, RangeRefused, range_at}
use Rattle.pgp_message.proofs.RangeLemmas.{range_reader}
use Rattle.pgp_message.proofs.laws.one_list_of_ranges.Goals as goal

pub returns : goal.returns
returns c = one_counted_list RangeSpelled RangeRefused range_at range_reader
