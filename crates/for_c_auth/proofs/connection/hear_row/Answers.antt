use Rattle.for_c_auth.proofs.Common.{ap, refl, link_of, noted, talk_of, with_talk, DataRow, kind_of}
use Rattle.for_c_auth.proofs.Connections.{misplaced_so, took_row}
use Rattle.for_c_auth.proofs.connection.hear_row.Goals as goal

pub returns-in-Ok-clause-took : goal.returns-in-Ok-clause-took
returns-in-Ok-clause-took c z = λ w given out. took_row w given c.args.row.now (link_of c.args.connection.now) _ (talk_of c.attributed.new.dialogue) c.in-Ok.event out _ c.args.frame c.in-Ok.ensures.ok
    (ap (λ b. record (noted given (DataRow c.args.row.now) c.in-Ok.event (with_talk (talk_of c.attributed.new.dialogue) (link_of c.args.connection.now))) { is_over = b }) c.is_end-connection.ensures) c.reported_as.ensures

pub returns-in-Err-clause-none : goal.returns-in-Err-clause-none
returns-in-Err-clause-none c z = misplaced_so (DataRow c.args.row.now) (link_of c.args.connection.now) (talk_of c.attributed.new.dialogue) (kind_of (DataRow c.args.row.now)) c.in-Err.misplaced refl c.in-Err.ensures.err
