use Rattle.pgtrace_session.proofs.run.run.Goals as goal

-- The status that is answered is the outcome's.
pub returns : goal.returns
returns g c = record {
  complaint = _;
  obeyed = rw c.tell.ensures.status c.obey.ensures;
  said = c.tell.ensures.reported;
}
