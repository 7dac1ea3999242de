use Rattle.pgp_auth.proofs.Common.{◌≡◌, ◌+◌, ◌-◌, ◌≤◌, max, nth_code, xor_of_codes}
use Rattle.pgp_auth.proofs.authentication.sasl.counted_hi.Given as goal

abbrev pub invariant-rounds : goal.invariant-rounds
invariant-rounds l = record {
  last : l.code ≡ nth_code l.password l.salt (l._round - 1);
  all : l.key ≡ xor_of_codes l.password l.salt (l._round - 1);
  count : l.made ≡ l.fn.made + l._round;
  upper : l._round ≤ max l.i 1;
}
