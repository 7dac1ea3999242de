use Rattle.for_c_auth.proofs.Common.{rules, inl, inr, subst, List, ℕ, IsLiteral}
use Rattle.for_c_auth.proofs.Texts.{delivers, literal_is, longer}
use Rattle.for_c_auth.proofs.escaping.literal.Goals as goal

pub returns-in-Ok-escape_literal-clause-sent : goal.returns-in-Ok-escape_literal-clause-sent
returns-in-Ok-escape_literal-clause-sent g c z =
    let e = c.in-Ok-escape_literal.ensures in
    let is : IsLiteral c.in-Ok.text.now c.as_bytes.result.now = rw c.as_bytes.ensures.value (literal_is _ _ e.standard e.not_standard e.form) in
    delivers (IsLiteral c.args.text.now) _ _ _ _ (subst (λ (l : List ℕ). IsLiteral l c.as_bytes.result.now) (search rules) is) (c.deliver.ensures.sent z)

pub returns-in-Ok-escape_literal-clause-why : goal.returns-in-Ok-escape_literal-clause-why
returns-in-Ok-escape_literal-clause-why g c z =
    let e = c.in-Ok-escape_literal.ensures in
    let is : IsLiteral c.in-Ok.text.now c.as_bytes.result.now = rw c.as_bytes.ensures.value (literal_is _ _ e.standard e.not_standard e.form) in
    inl ((c.deliver.ensures.why z).0, inr (longer (IsLiteral c.args.text.now) _ _ (subst (λ (l : List ℕ). IsLiteral l c.as_bytes.result.now) (search rules) is) (c.deliver.ensures.why z).1))
