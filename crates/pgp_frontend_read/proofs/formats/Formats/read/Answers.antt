use Rattle.pgp_frontend_read.proofs.Common.{rules, arith, List, ℕ, w16, cast_signed, from_be_bytes}
use Rattle.pgp_frontend_read.proofs.Items.{counted_short, fixed_left, counted_fixed}
use Rattle.pgp_frontend_read.proofs.formats.Formats.read.Goals as goal

pub returns-then-rest-len : goal.returns-then-rest-len
returns-then-rest-len c = counted_short 2 (λ (l : List ℕ). cast_signed w16 (from_be_bytes w16 l)) c.args.bytes.now c.in_ok-count.count c.in_ok-count.rest.now (search rules) (omega (arith, c.if-rest-len.true))

pub invariant_of-result : goal.invariant_of-result
invariant_of-result c = fixed_left 2 (λ (l : List ℕ). cast_signed w16 (from_be_bytes w16 l)) c.in_ok-count.count c.split_at.result.0.now c.new.result (search rules) (search rules)

pub returns : goal.returns
returns c = counted_fixed 2 (λ (l : List ℕ). cast_signed w16 (from_be_bytes w16 l)) c.args.bytes.now c.in_ok-count.count c.in_ok-count.rest.now c.split_at.result.0.now c.split_at.result.1.now c.new.result (search rules) (search rules) (search rules) (search rules)
