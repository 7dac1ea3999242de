use Rattle.pgp_auth.proofs.Common.{◌≡◌, refl, arith, rules, set, get_or, cond, ◌+◌, ◌∙◌, length-set, is_doubled}
use Rattle.pgp_auth.proofs.Doubles.{doubled_nil, at_most_one, block_more}
use Rattle.pgp_auth.proofs.escape.push_block.Goals as goal

pub bytes-init : goal.bytes-init
bytes-init g c = (refl, omega arith, doubled_nil c.args.form.quote c.args.form.slashes)

pub bytes-preserved : goal.bytes-preserved
bytes-preserved g c =
    let inv = c.bytes.invariant in
    let b = get_or c.args.block.now c.bytes.i 0 in
    let twice : c.from-len.result ≡ cond (is_doubled c.args.form.quote c.args.form.slashes b) 1 0 = search rules in
    let low = at_most_one (is_doubled c.args.form.quote c.args.form.slashes b) in
    rw twice (
      length-set (set c.bytes.room c.bytes.len b) (c.bytes.len + cond (is_doubled c.args.form.quote c.args.form.slashes b) 1 0) b ∙ (length-set c.bytes.room c.bytes.len b ∙ inv.0),
      omega (arith, low, inv.1),
      block_more c.args.form.quote c.args.form.slashes c.args.block.now c.bytes.room c.bytes.i c.bytes.len c.bytes-test.true (omega (arith, inv.0, inv.1, c.requires, c.bytes-test.true)) inv.2,
    )
