use Rattle.pgp_values.proofs.Common.{◌∙◌, ap, inr, subst, Held, ◌⊕◌, oid, nullable, ValueRefused, more_twice}
use Rattle.pgp_base.specs.Calls.{Gives}
use Rattle.pgp_values.proofs.made.put_made.Goals as goal

pub returns-in-Ok-put_value-clause-ok : goal.returns-in-Ok-put_value-clause-ok
returns-in-Ok-put_value-clause-ok g c =
    let k = c.in-Ok-put_value.ensures.ok in
    let here = c.in-Ok.ensures.ok in (
      k.0,
      subst (λ (h : Held g.B.Buffer.Kept). Gives g.B.Buffer.held (goal.F-step g) h c.args.serializer.now c.args.x k.0 c.put_value.new.f) here k.1,
      k.2 ∙ (ap (λ h. h ⊕ nullable k.0) here ∙ more_twice (g.B.Buffer.held c.args.buf.now) (oid c.args.of_type) (nullable k.0)),
    )

pub returns-in-Err-put_value-clause-cause : goal.returns-in-Err-put_value-clause-cause
returns-in-Err-put_value-clause-cause g c =
    inr (subst (λ (h : Held g.B.Buffer.Kept). ValueRefused g.B.Buffer.held (goal.F-step g) g.B.Buffer.Lacks h c.args.serializer.now c.args.x c.in-Err-put_value.e c.put_value.new.f) c.in-Ok.ensures.ok c.in-Err-put_value.ensures.cause)
