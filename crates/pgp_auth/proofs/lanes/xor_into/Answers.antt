use Rattle.pgp_auth.proofs.Common.{◌≡◌, ◌+◌, ◌≤◌, length, arith, inl, inr, ◌∙◌, bit_xor, cases_lt, get_or-put_chunk_below, get_or-put_chunk_above, length-zip2, length-chunk, chunk, xor_bytes}
use Rattle.pgp_auth.proofs.Blocks.{block_at, xor_from_places}
use Rattle.pgp_auth.proofs.lanes.xor_into.Goals as goal

pub lanes-preserved : goal.lanes-preserved
lanes-preserved c =
    let at = c.lanes.at in
    let xs = c.lanes.into in
    let ys = c.args.other.now in
    let same : length xs ≡ length ys = omega arith in
    let room : at + 32 ≤ length xs = omega arith in
    let cx = length-chunk at 32 xs room in
    let cy = length-chunk at 32 ys (omega arith) in
    let len : length (xor_bytes (chunk at 32 xs) (chunk at 32 ys)) ≡ 32 = length-zip2 bit_xor (chunk at 32 xs) (chunk at 32 ys) (omega arith) ∙ cx in
    let e = c.xor_lanes.ensures in
    record {
      within = omega arith;
      len_is = omega arith;
      done = λ k lt. elim (cases_lt k at) [
        | inl below ↦ rw e (get_or-put_chunk_below at xs (xor_bytes (chunk at 32 xs) (chunk at 32 ys)) k 0 below ∙ c.lanes.invariant.done k below)
        | inr above ↦ rw (e, ← c.lanes.invariant.ahead k above) (block_at xs ys at k same room above lt)
      ];
      ahead = λ k le. rw e (get_or-put_chunk_above at xs (xor_bytes (chunk at 32 xs) (chunk at 32 ys)) k 0 (omega arith) ∙ c.lanes.invariant.ahead k (omega arith));
    }

pub returns : goal.returns
returns c =
    xor_from_places c.args.into.now c.args.other.now c.rest.into (omega arith) (omega arith)
    (λ k lt. c.rest.invariant.done k (omega arith))
