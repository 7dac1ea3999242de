use Rattle.pgp_message.proofs.Common.{arith, IsBytes, marked_whole, marked_few, ErrorFieldSpelled, ErrorFieldRefused, error_field_at}
use Rattle.pgp_message.proofs.ErrorFieldLemmas.{error_field_reader}
use Rattle.pgp_message.proofs.walk.error_fields.ErrorFields.over.Goals as goal

pub returns-clause-items : goal.returns-clause-items
returns-clause-items c =
    let each : IsBytes c.args.buf.now = λ i. omega (arith, c.type_inv.buf i) in
    marked_whole ErrorFieldSpelled ErrorFieldRefused (λ place. error_field_at) error_field_reader c.args.buf.now each

pub returns-clause-few : goal.returns-clause-few
returns-clause-few c =
    let each : IsBytes c.args.buf.now = λ i. omega (arith, c.type_inv.buf i) in
    marked_few ErrorFieldSpelled ErrorFieldRefused (λ place. error_field_at) error_field_reader c.args.buf.now each
