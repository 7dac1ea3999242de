-- The places of a row lie in its bytes.
use Rattle.pgtrace_session.proofs.Common.{◌≡◌, List, map, rules, subst, string_bytes, AddsValues, Column, row_front, value_at, ok_then}
use Rattle.pgp_message.proofs.TableLemmas.{places_in}
use Rattle.pgtrace_session.proofs.RowLemmas.{row_line}
use Rattle.pgtrace_session.proofs.row.put_row.Goals as goal

pub put_values-requires : goal.put_values-requires
put_values-requires g c = record { within = rw c.buffer.ensures (places_in c.args.row.now c.ranges-places.result.items c.ranges-places.result.end c.ranges-places.ensures.items) }

pub returns-clause-line : goal.returns-clause-line
returns-clause-line g c =
    let row = c.args.row.now in
    let places = c.ranges-places.result in
    let front = string_bytes c.put_count.new.line in
    let text = string_bytes c.put_values.new.line in
    let adds = subst (λ (l : List Column). AddsValues c.args.style l (map (value_at c.buffer.result.now) places.items) places.end front text) c.list.ensures c.in_ok-put_values.ensures.adds in
    let begins : front ≡ row_front c.args.style c.args.place c.args.len row.count = search rules in
    ok_then c.put_end.result
    (λ ended. row_line c.args.style c.args.place c.args.len c.args.named c.args.columns.now row places.items places.end c.buffer.result.now front text (string_bytes c.put_names.new.line) (string_bytes c.put_end.new.line) c.ranges-places.ensures.items c.buffer.ensures begins adds c.in_ok-put_names.ensures.adds ended) c.put_end.ensures.text
