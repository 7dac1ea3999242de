use Rattle.pgp_values.proofs.Common.{inl, inr, refl}
use Rattle.pgp_values.proofs.ScanLemmas.{raised_at_err}
use Rattle.pgp_values.proofs.scan.raised_at.Goals as goal

pub returns-in-Some-clause-refused : goal.returns-in-Some-clause-refused
returns-in-Some-clause-refused c =
    raised_at_err c.marked_at.result 101 c.args.bytes.now c.in-Some.rest.now c.trimmed_front.ensures.0 c.trimmed_front.result.now (inl refl) c.in-Some.ensures c.trimmed_front.ensures.1 c.marked_at.ensures.refused

pub returns-in-Some-behind-clause-refused : goal.returns-in-Some-behind-clause-refused
returns-in-Some-behind-clause-refused c =
    raised_at_err c.marked_at-in-Some-behind.result 69 c.args.bytes.now c.in-Some-behind.rest.now c.trimmed_front-in-Some-behind.ensures.0 c.trimmed_front-in-Some-behind.result.now (inr refl) c.in-Some-behind.ensures c.trimmed_front-in-Some-behind.ensures.1 c.marked_at-in-Some-behind.ensures.refused
