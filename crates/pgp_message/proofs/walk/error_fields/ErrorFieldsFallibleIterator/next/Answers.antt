use Rattle.pgp_message.proofs.Common.{rules, ◌≡◌, Ok, false, is_marked, marked_item, error_field_at}
use Rattle.pgp_message.proofs.ErrorFieldLemmas.{error_field_falls}
use Rattle.pgp_message.proofs.walk.error_fields.ErrorFieldsFallibleIterator.next.Goals as goal

pub returns : goal.returns
returns c =
    let buf = c.self.inside.buf.now in
    let unmarked : is_marked buf ≡ false = search rules in
    let read : error_field_at buf ≡ Ok (c.in_ok-field.field, c.in_ok-field.rest.now) = search rules in
    rw (← c.self.view_is) (marked_item error_field_at buf c.in_ok-field.field c.in_ok-field.rest.now error_field_falls unmarked read)
