use Rattle.pgp_stream.proofs.Common.{ℕ, List, [], sym, subst, take, get_or, Bor, flat_map, HasRead, GoesOn}
use Rattle.pgp_stream.proofs.Pieces.{piece_more}
use Rattle.pgp_stream.proofs.Readings.{has_read_more}
use Rattle.pgp_stream.proofs.whole_stream.parse_stream.Goals as goal

pub loop-piece-preserved : goal.loop-piece-preserved
loop-piece-preserved g c =
    let none : Bor (List ℕ) = record { ref_ptr = (0, 0); now = [] } in
    let i = c.loop-piece.piece-index in
    let joined = piece_more (λ piece. piece.now) c.args.pieces.now i none c.loop-piece-test.true in
    let on : GoesOn (get_or c.args.pieces.now i none).now c.loop-piece.parser c.feed.new.self = c.in_ok-feed.ensures in
    record {
      sound = on.sound;
      read = subst (λ l. HasRead l [] c.feed.new.self) (sym joined) (has_read_more _ _ _ on (flat_map (λ piece. piece.now) (take i c.args.pieces.now)) [] c.loop-piece.invariant.read);
    }
