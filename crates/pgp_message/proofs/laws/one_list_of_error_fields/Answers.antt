use Rattle.pgp_message.proofs.Common.{one_marked_list, ErrorFieldSpelled, ErrorFieldRefused, error_field_at}
use Rattle.pgp_message.proofs.ErrorFieldLemmas.{error_field_reader}
use Rattle.pgp_message.proofs.laws.one_list_of_error_fields.Goals as goal

pub returns : goal.returns
returns c = one_marked_list ErrorFieldSpelled ErrorFieldRefused (λ place. error_field_at) error_field_reader
