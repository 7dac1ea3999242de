use Rattle.pgp_message.proofs.Common.{one_counted_list, FormatSpelled, FormatRefused, format_at}
use Rattle.pgp_message.proofs.NumberLemmas.{format_reader}
use Rattle.pgp_message.proofs.laws.one_list_of_formats.Goals as goal

pub returns : goal.returns
returns c = one_counted_list FormatSpelled FormatRefused (λ place. format_at) format_reader
