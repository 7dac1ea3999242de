use Rattle.pgp_auth.proofs.Common.{◌≡◌, ◌-◌, ◌++◌, take, map, replicate, bit_xor}
use Rattle.pgp_auth.proofs.hmac.short_key_block.Given as goal

abbrev pub invariant-loop-i : goal.invariant-loop-i
invariant-loop-i l = l.block ≡ map (λ x. bit_xor x l.pad) (take l.i l.key) ++ replicate (64 - l.i) l.pad
