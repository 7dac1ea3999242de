use Rattle.pgp_frontend_read.proofs.Common.{◌≡◌, rules, length, Fills, wanted, is_whole}
use Rattle.pgp_frontend_read.proofs.Holdings.{hold_done}
use Rattle.pgp_frontend_read.proofs.client_parser.hold.Goals as goal

pub returns : goal.returns
returns g c =
    let fills : Fills (wanted c.args.opened c.args.size) c.args.held.now.items c.args.piece.now.now c.fill.new.held.items c.fill.new.piece.now = search rules in
    let whole : c.is_whole.result ≡ is_whole (length c.fill.new.held.items) c.args.size = search rules in
    rw whole (hold_done g.A.Memory.Lacks c.args.opened c.args.size c.args.held.now.items c.args.piece.now.now c.fill.new.held.items c.fill.new.piece.now c.requires.fits c.requires.wanted fills)
