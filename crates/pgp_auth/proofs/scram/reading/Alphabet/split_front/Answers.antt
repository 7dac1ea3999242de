use Rattle.pgp_auth.proofs.Common.{◌≡◌, ◌<◌, false, length, get_or, arith, prefix_len_is, prefix_len, admits}
use Rattle.pgp_auth.proofs.scram.reading.Alphabet.split_front.Goals as goal
use Rattle.pgp_auth.proofs.scram.reading.Alphabet.split_front.Goals.{else-loop-b-test, then-loop-b-test+then-not-admits}

counted : (c : goal.After-split_at) → prefix_len (admits c.args.self) c.args.text.now ≡ c.loop-b.len
counted c =
    let stops : c.loop-b.len < length c.args.text.now → admits c.args.self (get_or c.args.text.now c.loop-b.len 0) ≡ false =
    elim c.loop-b-test.branch [ else-loop-b-test w ↦ λ lt. grind arith | then-loop-b-test+then-not-admits w ↦ λ lt. grind arith ] in
    prefix_len_is (admits c.args.self) c.args.text.now c.loop-b.len 0 (omega arith) c.loop-b.invariant.pass stops

pub returns-clause-front : goal.returns-clause-front
returns-clause-front c = rw (counted c) c.split_at.ensures.front

pub returns-clause-rest : goal.returns-clause-rest
returns-clause-rest c = rw (counted c) c.split_at.ensures.back
