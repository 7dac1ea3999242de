-- The places of a row lie in its bytes.
use Rattle.pgp_message.proofs.TableLemmas.{places_in}
use Rattle.pgtrace_lines.proofs.body.put_row.Goals as goal

pub put_values-requires : goal.put_values-requires
put_values-requires g c = record { within = rw c.buffer.ensures (places_in c.args.row.now c.ranges-places.result.items c.ranges-places.result.end c.ranges-places.ensures.items) }
