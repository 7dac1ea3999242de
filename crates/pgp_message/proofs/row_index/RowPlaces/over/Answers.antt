use Rattle.pgp_message.proofs.Common.{None, CountedBytes}
use Rattle.pgp_message.proofs.TableLemmas.{places_in, collected_places}
use Rattle.pgp_message.proofs.row_index.RowPlaces.over.Goals as goal

pub invariant_of-result : goal.invariant_of-result
invariant_of-result g c =
    let row : CountedBytes = record { count = c.args.count; storage = c.args.buffer.now } in
    rw c.deref.ensures.value (places_in row c.fill.new.places.items None (collected_places row c.over.result c.fill.new.places.items c.over.ensures.items c.in_ok-fill.ensures.ok))
