use Rattle.pgp_auth.proofs.Common.{◌≡◌, ◌∙◌, length, bit_xor, arith}
use Rattle.pgp_auth.proofs.Blocks.{block_step, block_whole}
use Rattle.pgp_auth.proofs.hmac.short_key_block.Goals as goal

pub loop-i-preserved : goal.loop-i-preserved
loop-i-preserved c =
    let inv = c.loop-i.invariant in
    rw inv (block_step (λ x. bit_xor x c.args.pad) c.args.key.now c.loop-i.i c.loop-i-test.true c.requires)

pub returns : goal.returns
returns c =
    let whole : c.loop-i.i ≡ length c.args.key.now = omega arith in
    let inv = c.loop-i.invariant in
    rw whole at inv ∙ block_whole (λ x. bit_xor x c.args.pad) c.args.key.now
