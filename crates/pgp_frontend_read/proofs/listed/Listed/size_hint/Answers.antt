use Rattle.pgp_frontend_read.proofs.Common.{◌≡◌, ℕ, Some, ap, length, items_of}
use Rattle.pgp_frontend_read.proofs.Spelled.{left_count}
use Rattle.pgp_frontend_read.proofs.listed.Listed.size_hint.Goals as goal

pub returns : goal.returns
returns g c =
    let count : c.self.inside.count ≡ length (items_of g.T.Item.read c.args.self.now) = left_count g.T.Item.read c.self.inside.count c.self.inside.bytes.now c.args.self.now c.self.view_is c.requires in
    ap (λ (n : ℕ). (n, Some n)) count
