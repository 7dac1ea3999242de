use Rattle.pgtrace_session.proofs.Common.{string_bytes, sym, ap, ◌∙◌}
use Rattle.pgtrace_session.proofs.Instants.{date_added, seconds_added}
use Rattle.pgtrace_session.proofs.line_mark.put_time.Goals as goal

pub returns-then-is_date-clause-adds : goal.returns-then-is_date-clause-adds
returns-then-is_date-clause-adds g c =
    date_added c.put_instant.result c.args.form c.args.start c.args.micros (string_bytes c.args.text.now) (string_bytes c.put_instant.new.text) (sym c.is_date.ensures ∙ c.if-is_date.true) c.put_instant.ensures.adds

pub returns-else-is_date-clause-adds : goal.returns-else-is_date-clause-adds
returns-else-is_date-clause-adds g c =
    seconds_added c.put_since.result c.args.form c.args.start c.args.micros (string_bytes c.args.text.now) (string_bytes c.put_since.new.text) (sym c.is_date.ensures ∙ c.if-is_date.false) (rw c.origin.ensures at c.put_since.ensures.text)
