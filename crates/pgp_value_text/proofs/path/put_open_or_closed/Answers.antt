use Rattle.pgp_value_text.proofs.Common.{sym, subst, ◌∙◌, Tells}
use Rattle.pgp_value_text.proofs.Figures.{closed_path, open_path}
use Rattle.pgp_value_text.proofs.path.put_open_or_closed.Goals as goal

pub returns-then-closed : goal.returns-then-closed
returns-then-closed g c =
    subst (λ shows. Tells shows g.A.Memory.Lacks c.args.text.now.items c.put_points.new.text.items c.put_points.result)
    (closed_path c.args.p.now c.points.result (sym c.if-closed.true ∙ c.closed.ensures) c.points.ensures) c.put_points.ensures

pub returns-else-closed : goal.returns-else-closed
returns-else-closed g c =
    subst (λ shows. Tells shows g.A.Memory.Lacks c.args.text.now.items c.put_points-else-closed.new.text.items c.put_points-else-closed.result)
    (open_path c.args.p.now c.points-else-closed.result (sym c.if-closed.false ∙ c.closed.ensures) c.points-else-closed.ensures) c.put_points-else-closed.ensures
