use Rattle.pgp_stream.proofs.Common.{◌≡◌, take, [], false, flat_map, HasRead}
use Rattle.pgp_stream.proofs.whole_stream.parse_stream.Given as goal

abbrev pub invariant-loop-piece : goal.invariant-loop-piece
invariant-loop-piece g l = record {
  sound : l.parser.failed ≡ false;
  read : HasRead (flat_map (λ piece. piece.now) (take l.piece-index l.pieces)) [] l.parser;
}
