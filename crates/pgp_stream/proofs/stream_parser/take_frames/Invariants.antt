use Rattle.pgp_stream.proofs.Common.{length, map, seen}
use Rattle.pgp_stream.proofs.Pieces.{Completing}
use Rattle.pgp_stream.proofs.stream_parser.take_frames.Given as goal

abbrev pub invariant-parts : goal.invariant-parts
invariant-parts g l = Completing l.fn.rest.items l.fn.piece l.left l.rest.items (map seen l.fn.results.items) (map seen l.results.items) l.fn.frames l.frames

abbrev pub decreases-parts : goal.decreases-parts
decreases-parts g l = length l.left
