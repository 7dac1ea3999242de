use Rattle.pgtrace_session.proofs.Common.{ap, ◌∙◌, view_of, kept_of, tallies_in, tally_after}
use Rattle.pgtrace_session.proofs.Wholes.{part_kept, sum_added, sum_kept}
use Rattle.pgtrace_session.proofs.session.sum_held.Goals as goal

pub list_pieces-requires-clause-live : goal.list_pieces-requires-clause-live
list_pieces-requires-clause-live g c = rw c.summarized-quiet.ensures c.requires.live

pub returns-in_err-stopped-clause-kept : goal.returns-in_err-stopped-clause-kept
returns-in_err-stopped-clause-kept g c =
    part_kept (view_of c.summarized-quiet.result) (view_of c.args.view) c.summarized-quiet.ensures c.args.marking (record { input = g.R.Read.remaining c.args.input.now; output = g.W.Write.contents c.args.output.now })
    (record { input = g.R.Read.remaining c.list_pieces.new.input; output = g.W.Write.contents c.list_pieces.new.output }) c.in_err-stopped.ensures.cut

pub returns-in_err-add_table-clause-kept : goal.returns-in_err-add_table-clause-kept
returns-in_err-add_table-clause-kept g c =
    let held = c.list_pieces.new.held in
    sum_kept (view_of c.summarized-quiet.result) (view_of c.args.view) c.summarized-quiet.ensures c.args.marking (record { input = g.R.Read.remaining c.args.input.now; output = g.W.Write.contents c.args.output.now })
    (record { input = g.R.Read.remaining c.list_pieces.new.input; output = g.W.Write.contents c.list_pieces.new.output }) held.begun c.in_ok-stopped.stopped (kept_of held.talk) held.bytes.items c.in_ok-stopped.ensures.listed

pub returns-clause-added : goal.returns-clause-added
returns-clause-added g c =
    let held = c.list_pieces.new.held in
    let added = c.in_ok-add_table.ensures.added ∙ ap (λ o. tally_after c.args.table.now.tallies (tallies_in o)) c.summary_of.ensures in
    sum_added (view_of c.summarized-quiet.result) (view_of c.args.view) c.summarized-quiet.ensures c.args.marking (record { input = g.R.Read.remaining c.args.input.now; output = g.W.Write.contents c.args.output.now })
    (record { input = g.R.Read.remaining c.list_pieces.new.input; output = g.W.Write.contents c.list_pieces.new.output }) held.begun c.in_ok-stopped.stopped (kept_of held.talk) held.bytes.items
    c.end_of.result c.args.table.now.tallies c.add_table.new.table.tallies c.in_ok-stopped.ensures.listed c.in_ok-stopped.ensures.all (rw c.as_slice.ensures at c.end_of.ensures) added

pub returns-clause-kept : goal.returns-clause-kept
returns-clause-kept g c =
    let held = c.list_pieces.new.held in
    sum_kept (view_of c.summarized-quiet.result) (view_of c.args.view) c.summarized-quiet.ensures c.args.marking (record { input = g.R.Read.remaining c.args.input.now; output = g.W.Write.contents c.args.output.now })
    (record { input = g.R.Read.remaining c.list_pieces.new.input; output = g.W.Write.contents c.list_pieces.new.output }) held.begun c.in_ok-stopped.stopped (kept_of held.talk) held.bytes.items c.in_ok-stopped.ensures.listed
