use Rattle.pgp_message.proofs.Common.{one_counted_list, FieldSpelled, FieldRefused, RawFieldSpelled, RawFieldRefused, field_at, raw_field_at}
use Rattle.pgp_message.proofs.FieldLemmas.{field_reader, raw_field_reader}
use Rattle.pgp_message.proofs.laws.one_list_of_columns.Goals as goal

pub returns-clause-texts : goal.returns-clause-texts
returns-clause-texts c = one_counted_list FieldSpelled FieldRefused (λ place. field_at) field_reader

pub returns-clause-bytes : goal.returns-clause-bytes
returns-clause-bytes c = one_counted_list RawFieldSpelled RawFieldRefused (λ place. raw_field_at) raw_field_reader
