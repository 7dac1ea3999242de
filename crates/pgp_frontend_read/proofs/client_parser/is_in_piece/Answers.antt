use Rattle.pgp_frontend_read.proofs.Common.{◌≡◌, [], ◌++◌, rules, arith, length, subst, IsWanted, is_whole, nat_tests}
use Rattle.pgp_frontend_read.proofs.Handing.{none_left}
use Rattle.pgp_frontend_read.proofs.Holdings.{piece_done}
use Rattle.pgp_frontend_read.proofs.client_parser.is_in_piece.Goals as goal

pub returns : goal.returns
returns c =
    let empty : c.args.held.now ≡ [] = none_left c.args.held.now (grind (arith, nat_tests, c.is_empty.ensures, c.if-not-is_empty.false)) in
    let whole : c.is_whole.result ≡ is_whole (length c.args.piece.now) c.args.size = search rules in
    let h : IsWanted c.args.opened c.args.piece.now c.args.size = subst (λ l. IsWanted c.args.opened (l ++ c.args.piece.now) c.args.size) empty c.requires in
    rw (whole, empty) (piece_done c.args.opened c.args.piece.now c.args.size h)
