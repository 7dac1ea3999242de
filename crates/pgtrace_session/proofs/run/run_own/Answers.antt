use Rattle.pgtrace_session.proofs.Common.{◌∙◌, inr, Keeps-refl}
use Rattle.pgtrace_session.proofs.run.run_own.Goals as goal

-- There is no memory for the words.
pub returns-in-Err : goal.returns-in-Err
returns-in-Err g c = record {
  complaint = _;
  obeyed = inr (inr (c.in-Err.ensures.lacks, record { reported = c.stopped.ensures.complaint; failed = c.tell-in-Err.ensures.status ∙ c.stopped.ensures.status; input = Keeps-refl _; output = Keeps-refl _ }));
  said = c.tell-in-Err.ensures.reported;
}
