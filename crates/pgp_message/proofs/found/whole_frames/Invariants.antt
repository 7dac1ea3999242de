use Rattle.pgp_message.proofs.Common.{◌≡◌, length, header_of}
use Rattle.pgp_message.proofs.FindLemmas.{Finding}
use Rattle.pgp_message.proofs.found.whole_frames.Given as goal

abbrev pub invariant-frames : goal.invariant-frames
invariant-frames l = record {
  so_far : Finding l.bytes l.rest l.count;
  here : l.here ≡ header_of l.rest;
}

abbrev pub decreases-frames : goal.decreases-frames
decreases-frames l = length l.rest
