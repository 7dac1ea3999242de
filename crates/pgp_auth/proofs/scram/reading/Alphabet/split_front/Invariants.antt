use Rattle.pgp_auth.proofs.Common.{◌≡◌, ℕ, ◌<◌, get_or, true, admits}
use Rattle.pgp_auth.proofs.scram.reading.Alphabet.split_front.Given as goal

abbrev pub invariant-loop-b : goal.invariant-loop-b
invariant-loop-b l = record {
  counted : l.len ≡ l.b-index;
  pass : (k : ℕ) → k < l.len → admits l.self (get_or l.text k 0) ≡ true;
}
