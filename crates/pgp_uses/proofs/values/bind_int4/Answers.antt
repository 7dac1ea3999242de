use Rattle.pgp_uses.proofs.Common.{rules, int4}
use Rattle.pgp_uses.proofs.Bound.{binds_value, keeps_value}
use Rattle.pgp_uses.proofs.values.bind_int4.Goals as goal

pub bind_one-requires-clause-owes : goal.bind_one-requires-clause-owes
bind_one-requires-clause-owes g c = λ f f' x b b' r p s. keeps_value int4 g.B.Buffer.Lacks f.0.now (g.B.Buffer.held b.now) (g.B.Buffer.held b'.now) r (search rules)

pub returns : goal.returns
returns g c =
    let held = g.B.Buffer.held in
    binds_value held _ g.B.Buffer.Lacks _ (held c.args.buf.now) (held c.bind_one.new.buf) c.bind_one.result c.bind_one.ensures int4 c.args.value
    (λ u x b b' r s. search rules)
