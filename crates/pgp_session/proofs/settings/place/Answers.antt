use Rattle.pgp_session.proofs.Common.{Setting, slice_cmp, nat_cmp}
use Rattle.std.proofs.lemmas.Fn.{always_returns_same}
use Rattle.pgp_session.proofs.Placed.{searched}
use Rattle.pgp_session.proofs.settings.place.Goals as goal

pub returns : goal.returns
returns g c =
    let facts = c.binary_search_by.ensures in
    let ranked = facts.position (λ (s : Setting). slice_cmp nat_cmp s.name c.args.name.now) (always_returns_same _ _ _ (λ a r f k. (k.met.1, λ j. record { 0 = k.met.0 j }))) in
    searched c.args.name.now c.args.entries.now c.binary_search_by.result c.requires facts.bound ranked
