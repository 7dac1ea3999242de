use Rattle.pgtrace_lines.proofs.Common.{◌∙◌, ap, [], ◌∷◌, string_bytes, view, Name, followed, says_nothing}
use Rattle.pgtrace_lines.proofs.FrameLines.{frame_long, body_is, message_reported}
use Rattle.pgtrace_lines.proofs.frame.message_line.Goals as goal

pub split_at-requires : goal.split_at-requires
split_at-requires g c = frame_long c.requires.first c.args.frame.now c.requires.whole

pub put_said-requires : goal.put_said-requires
put_said-requires g c = c.split_at.ensures.back ∙ body_is c.args.frame.now (view c.args.message.now) c.requires

pub returns-clause-line : goal.returns-clause-line
returns-clause-line g c =
    message_reported c.args.style c.args.place c.args.replicating c.args.frame.now (view c.args.message.now) c.requires
    (string_bytes c.begin.new.line) (string_bytes c.put_called.new.line) (string_bytes c.put_said.new.line) (string_bytes c.put_end.new.line) c.name_of-name.result.now
    c.in_ok-begin.ensures.parts
    (c.in_ok-put_called.ensures.part
    ∙ ap (λ b. followed c.args.style (string_bytes c.begin.new.line) (Name b c.name_of-name.result.now ∷ [])) c.says_nothing.ensures
    ∙ ap (λ w. followed c.args.style (string_bytes c.begin.new.line) (Name (says_nothing (view c.args.message.now)) w ∷ [])) c.name_of-name.ensures)
    c.in_ok-put_said.ensures.says
    c.in_ok-put_end.ensures.text
    c.name_of-name.ensures
