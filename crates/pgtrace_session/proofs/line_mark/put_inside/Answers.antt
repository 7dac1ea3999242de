use Rattle.std.proofs.Common.{string_bytes}
use Rattle.pgtrace_session.proofs.Marked.{put_before}
use Rattle.pgtrace_session.proofs.line_mark.put_inside.Goals as goal

pub returns-in_default-clause-text : goal.returns-in_default-clause-text
unfolding lib.Utf8.encode
returns-in_default-clause-text g c =
    put_before c.put_both.result c.args.mark.now c.args.line.now (string_bytes c.args.text.now) (string_bytes c.put_both.new.text) c.in_default.ensures.cases c.put_both.ensures.text
