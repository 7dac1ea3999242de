use Rattle.pgp_message.proofs.Common.{None, CountedBytes}
use Rattle.pgp_message.proofs.TableLemmas.{places_in, collected_places}
use Rattle.pgp_message.proofs.row_index.RowIndex.over.Goals as goal

pub invariant_of-result : goal.invariant_of-result
invariant_of-result g c =
    let row : CountedBytes = record { count = c.args.count; storage = c.args.buffer.now } in
    places_in row c.in_ok-places.places.items None (collected_places row c.over.result c.in_ok-places.places.items c.over.ensures.items c.in_ok-places.ensures.ok)
