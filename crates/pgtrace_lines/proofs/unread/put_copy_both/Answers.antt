use Rattle.pgtrace_lines.proofs.Common.{[], ◌∷◌, false, rules, codes, string_bytes, Name, followed, numbers_of}
use Rattle.pgtrace_lines.proofs.UnreadLines.{copy_shown, no_copy_shown}
use Rattle.pgtrace_lines.proofs.unread.put_copy_both.Goals as goal

pub returns-in-Some-clause-says : goal.returns-in-Some-clause-says
returns-in-Some-clause-says g c =
    copy_shown c.put_formats.result c.args.style c.args.body.now (followed c.args.style (string_bytes c.args.line.now) (Name false (codes "CopyBothResponse") ∷ [])) (string_bytes c.put_called.new.line) (string_bytes c.put_formats.new.line)
    c.in-Some.format (numbers_of c.in-Some.formats.now) (search rules) c.in_ok-put_called.ensures.part c.put_formats.ensures.parts

pub returns-in-None-clause-says : goal.returns-in-None-clause-says
returns-in-None-clause-says g c =
    no_copy_shown c.put_bare.result c.args.style c.args.body.now (followed c.args.style (string_bytes c.args.line.now) (Name false (codes "CopyBothResponse") ∷ [])) (string_bytes c.put_called.new.line) (string_bytes c.put_bare.new.line)
    (search rules) c.in_ok-put_called.ensures.part c.put_bare.ensures.parts
