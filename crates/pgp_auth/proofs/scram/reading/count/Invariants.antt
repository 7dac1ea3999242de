use Rattle.pgp_auth.proofs.Common.{◌≡◌, ◌<◌, ◌^◌, drop, number, number_from}
use Rattle.pgp_auth.proofs.scram.reading.count.Given as goal

abbrev pub invariant-loop-d : goal.invariant-loop-d
invariant-loop-d l = record {
  value : number_from l.n (drop l.d-index l.digits) ≡ number l.digits;
  fits : l.n < 2 ^ 32;
}
