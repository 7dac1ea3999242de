use Rattle.pgp_frontend_read.proofs.Common.{rules, ◌≡◌, false, is_marked, pair_at}
use Rattle.pgp_base.proofs.Steps.{marked_item}
use Rattle.pgp_frontend_read.proofs.PairLemmas.{pair_falls}
use Rattle.pgp_frontend_read.proofs.pairs.PairWalkFallibleIterator.next.Goals as goal

pub returns : goal.returns
returns c =
    let buf = c.self.inside.0.now in
    let unmarked : is_marked buf ≡ false = search rules in
    rw (← c.self.view_is) (marked_item pair_at buf (c.in_ok-name.name.now, c.in_ok-name.value.now) c.in_ok-name.rest.now pair_falls unmarked c.in_ok-name.ensures)
