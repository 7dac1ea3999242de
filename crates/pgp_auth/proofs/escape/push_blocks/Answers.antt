use Rattle.pgp_auth.proofs.Doubles.{blocks_step}
use Rattle.pgp_auth.proofs.escape.push_blocks.Goals as goal

pub pieces-preserved : goal.pieces-preserved
pieces-preserved g c =
    blocks_step c.args.form.quote c.args.form.slashes 192 c.pieces.rest.now c.pieces.out.items c.push_block.new.out.items _ c.split_at.result.0.now c.split_at.result.1.now
    c.split_at.ensures.front c.split_at.ensures.back c.in_ok-push_block.ensures.ok c.pieces.invariant
