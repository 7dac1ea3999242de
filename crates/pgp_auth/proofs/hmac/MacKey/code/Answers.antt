use Rattle.pgp_auth.proofs.Common.{◌≡◌, ◌++◌, rules, code_of}
use Rattle.std.proofs.Common.{append_assoc}
use Rattle.pgp_auth.proofs.hmac.MacKey.code.Goals as goal

pub returns : goal.returns
unfolding code_of
returns c =
    let i = c.self.inside.inner_block in
    let o = c.self.inside.outer_block in
    let f = c.args.first.now in
    let s = c.args.second.now in
    let same_inner : c.self.inside.inner ≡ c.unwrap-inner.result = search rules in
    let same_outer : c.self.inside.outer ≡ c.unwrap-outer.result = search rules in
    let inner = c.finalize.ensures (i ++ f ++ s) (c.update-2.ensures (i ++ f) (c.update.ensures i (rw same_inner at c.self.invariant.0))) in
    let outer = c.finalize-2.ensures (o ++ c.finalize.result) (c.update-3.ensures o (rw same_outer at c.self.invariant.1)) in
    rw (← c.self.view_is) (rw (inner, append_assoc) at outer)
