use Rattle.pgp_message.proofs.Common.{ℕ, ◌+◌, ◌-◌, ◌≤◌, drop, length, map, vec_len, vec_capacity, seen}
use Rattle.pgp_message.proofs.FindLemmas.{Taking}
use Rattle.pgp_message.proofs.frames.read_frames.Given as goal

abbrev pub invariant-frames : goal.invariant-frames
invariant-frames g l = record {
  left : ℕ;
  taking : Taking l.frames (drop l.at l.frames) l.count left (map seen l.fn.results.items) (map seen l.results.items);
  within : l.at ≤ length l.frames;
  room : vec_len l.results + left ≤ vec_capacity l.results;
}

abbrev pub decreases-frames : goal.decreases-frames
decreases-frames g l = length l.frames - l.at
