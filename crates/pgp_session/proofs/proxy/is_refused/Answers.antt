use Rattle.pgp_session.proofs.Common.{◌≡◌, Some, rules, refl, Decides-eqb, slice_eq-Decides, statement_of}
use Rattle.pgp_frontend_read.specs.Views.{view}
use Rattle.pgp_session.proofs.Listed.{listed}
use Rattle.pgp_session.proofs.proxy.is_refused.Goals as goal

pub returns-in-Some : goal.returns-in-Some
returns-in-Some c =
    let brings : statement_of (view c.args.message.now) ≡ Some c.in-Some.text.now = search rules in
    rw (brings, c.contains.ensures.value) (listed _ c.in-Some.text.now (λ y. slice_eq-Decides Decides-eqb y.now c.in-Some.text.now _ refl) c.args.refused.now)
