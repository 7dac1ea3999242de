use Rattle.pgp_message.proofs.Common.{one_marked_list, TextSpelled, TextRefused, StringSpelled, StringRefused, text_at, raw_string_at}
use Rattle.pgp_message.proofs.TextLemmas.{text_reader}
use Rattle.pgp_message.proofs.RawLemmas.{string_reader}
use Rattle.pgp_message.proofs.laws.one_list_of_mechanisms.Goals as goal

pub returns-clause-texts : goal.returns-clause-texts
returns-clause-texts c = one_marked_list TextSpelled TextRefused (λ place. text_at) text_reader

pub returns-clause-bytes : goal.returns-clause-bytes
returns-clause-bytes c = one_marked_list StringSpelled StringRefused (λ place. raw_string_at) string_reader
