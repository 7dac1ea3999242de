use Rattle.pgp_uses.proofs.Common.{rules, ◌++◌, drop, sym, ap, ◌∙◌, Query, bytes_of}
use Rattle.pgp_base.proofs.Windows.{window_size, window_written}
use Rattle.pgp_uses.proofs.writing.ask_in_place.Goals as goal

pub returns-clause-size : goal.returns-clause-size
returns-clause-size c =
    c.len.ensures.value ∙ window_size c.new-window.result c.query.new.buf _ _ _ _ c.new-window.ensures c.in_ok-query.ensures.1.1

pub returns-clause-sent : goal.returns-clause-sent
returns-clause-sent c =
    let n = c.len.ensures.value ∙ window_size c.new-window.result c.query.new.buf _ _ _ _ c.new-window.ensures c.in_ok-query.ensures.1.1 in
    window_written c.new-window.result c.query.new.buf _ _ _ _ c.new-window.ensures c.in_ok-query.ensures.1.1 _ (search rules)
    ∙ ap (λ n. bytes_of (Query c.args.text.now) ++ drop n c.args.room.now) (sym n)
