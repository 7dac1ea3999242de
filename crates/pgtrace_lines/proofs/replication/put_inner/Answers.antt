use Rattle.pgtrace_lines.proofs.replication.put_inner.Goals as goal

pub returns-in-XLogData-clause-parts : goal.returns-in-XLogData-clause-parts
returns-in-XLogData-clause-parts g c = rw c.in-XLogData.is c.put_log.ensures.parts

pub returns-in-StatusUpdate-clause-parts : goal.returns-in-StatusUpdate-clause-parts
returns-in-StatusUpdate-clause-parts g c = rw c.in-StatusUpdate.is c.put_status_update.ensures.parts

pub returns-in-Feedback-clause-parts : goal.returns-in-Feedback-clause-parts
returns-in-Feedback-clause-parts g c = rw c.in-Feedback.is c.put_feedback.ensures.parts
