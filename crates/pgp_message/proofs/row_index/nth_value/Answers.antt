use Rattle.pgp_message.proofs.Common.{Some, None, Ok, sym, ap, ◌∙◌, CountedBytes}
use Rattle.pgp_message.proofs.ColumnLemmas.{column_in, column_is}
use Rattle.pgp_message.proofs.row_index.nth_value.Goals as goal

pub bytes_at-requires : goal.bytes_at-requires
bytes_at-requires c =
    let row : CountedBytes = record { count = c.args.count; storage = c.args.buffer.now } in
    column_in row c.over.result.items c.over.result.end c.args.i c.in-Some-place.place c.over.ensures.items (ap (λ o. Ok o) (sym (c.in-Some.is ∙ ap (λ p. Some p) c.in-Some-place.is)) ∙ c.in_ok-place.ensures)

pub returns-in_default-place : goal.returns-in_default-place
returns-in_default-place c =
    let row : CountedBytes = record { count = c.args.count; storage = c.args.buffer.now } in
    column_is row c.over.result.items c.over.result.end c.args.i (Ok (Some None)) c.over.ensures.items (ap (λ o. Ok o) (sym (c.in-Some.is ∙ ap (λ p. Some p) c.in_default-place.is)) ∙ c.in_ok-place.ensures)
