use Rattle.pgtrace_lines.proofs.Streams.{beginnings_hidden, streams_hidden}
use Rattle.pgtrace_lines.proofs.laws.streams_hide_their_secrets.Goals as goal

pub returns-clause-beginning : goal.returns-clause-beginning
returns-clause-beginning c = beginnings_hidden

pub returns-clause-messages : goal.returns-clause-messages
returns-clause-messages c = streams_hidden
