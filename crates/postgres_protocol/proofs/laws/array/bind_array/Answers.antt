use Rattle.postgres_protocol.proofs.Common.{rules}
use Rattle.postgres_protocol.proofs.StepLemmas.{keeps_steps}
use Rattle.postgres_protocol.proofs.BindLemmas.{binds_array}
use Rattle.postgres_protocol.proofs.laws.array.bind_array.Goals as goal

pub bind_one-requires-clause-owes : goal.bind_one-requires-clause-owes
bind_one-requires-clause-owes g c = λ f f' x b b' r p s.
    keeps_steps f.0.now f.1.now f.2.now g.B.Buffer.Lacks (g.B.Buffer.held b.now) (g.B.Buffer.held b'.now) r (search rules)

pub returns : goal.returns
returns g c =
    let held = g.B.Buffer.held in
    binds_array held _ g.B.Buffer.Lacks _ (held c.args.buf.now) (held c.bind_one.new.buf) c.bind_one.result c.bind_one.ensures c.args.dimensions.now c.args.element_type c.args.steps.now
    (λ u x b b' r s. search rules)
