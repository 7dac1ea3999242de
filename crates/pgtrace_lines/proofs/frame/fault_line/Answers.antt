use Rattle.pgtrace_lines.proofs.Common.{string_bytes}
use Rattle.pgtrace_lines.proofs.FrameLines.{fault_ended}
use Rattle.pgtrace_lines.proofs.frame.fault_line.Goals as goal

pub returns-clause-line : goal.returns-clause-line
returns-clause-line g c =
    fault_ended c.args.style c.args.place c.args.frame.now c.split_at.result.1.now c.args.refusal.now
    (string_bytes c.begin.new.line) (string_bytes c.put_unread.new.line) (string_bytes c.put_end.new.line)
    c.in_ok-begin.ensures.parts c.split_at.ensures.back c.in_ok-put_unread.ensures.says c.in_ok-put_end.ensures.text
