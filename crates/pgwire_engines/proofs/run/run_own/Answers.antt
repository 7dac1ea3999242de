use Rattle.pgwire_engines.proofs.run.run_own.Goals as goal

-- The status that is answered is the outcome's.
pub returns : goal.returns
returns g c = record {
  complaint = c.obey_own.result.complaint.now;
  obeyed = rw c.tell.ensures.status c.obey_own.ensures;
  said = c.tell.ensures.reported;
}
