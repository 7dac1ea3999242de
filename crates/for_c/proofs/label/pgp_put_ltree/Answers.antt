use Rattle.for_c.proofs.Common.{rules, ap, inl, ◌∷◌, List, ℕ}
use Rattle.for_c.proofs.Sending.{wrote}
use Rattle.for_c.proofs.label.pgp_put_ltree.Goals as goal

pub returns-in_default-clause-refused : goal.returns-in_default-clause-refused
returns-in_default-clause-refused c z = (c.refused.ensures.reported, inl (c.refused.ensures.code, c.in_default.ensures.cases.0))

pub returns-in-Ok-ltree_to_sql-clause-wrote : goal.returns-in-Ok-ltree_to_sql-clause-wrote
returns-in-Ok-ltree_to_sql-clause-wrote c z =
    wrote (1 ∷ c.args.text.now) (1 ∷ c.in-Ok.text.now) (ap (λ (t : List ℕ). 1 ∷ t) c.in-Ok.ensures.cases.0) c.new-window.result c.ltree_to_sql.new.buf c.args.out.now _ c.new-window.ensures c.in-Ok-ltree_to_sql.ensures.1 _ (search rules) _ c.sent.ensures.reported
