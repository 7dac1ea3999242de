use Rattle.pgp_uses.proofs.Common.{rules}
use Rattle.pgp_uses.proofs.Lists.{binds_int4s, keeps_int4s}
use Rattle.pgp_uses.proofs.arrays.bind_int4s.Goals as goal

pub bind_one-requires-clause-owes : goal.bind_one-requires-clause-owes
bind_one-requires-clause-owes g c = λ f f' x b b' r p s. keeps_int4s f.0.now g.B.Buffer.Lacks (g.B.Buffer.held b.now) (g.B.Buffer.held b'.now) r (search rules)

pub returns : goal.returns
returns g c =
    let held = g.B.Buffer.held in
    binds_int4s held _ g.B.Buffer.Lacks _ (held c.args.buf.now) (held c.bind_one.new.buf) c.bind_one.result c.bind_one.ensures c.args.values.now
    (λ u x b b' r s. search rules)
