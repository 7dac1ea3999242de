use Rattle.pgtrace_lines.proofs.Common.{[], ◌∷◌, false, rules, codes, string_bytes, Name, followed}
use Rattle.std.specs.Option.{option_map}
use Rattle.pgtrace_lines.proofs.UnreadLines.{no_result_shown, result_shown}
use Rattle.pgtrace_lines.proofs.unread.put_call_result.Goals as goal

pub returns-in-Some-clause-says : goal.returns-in-Some-clause-says
returns-in-Some-clause-says g c =
    result_shown c.put_result.result c.args.style c.args.body.now (followed c.args.style (string_bytes c.args.line.now) (Name false (codes "FunctionCallResponse") ∷ [])) (string_bytes c.put_called.new.line) (string_bytes c.put_result.new.line)
    (option_map (λ b. b.now) c.in-Some.value) (search rules) c.in_ok-put_called.ensures.part c.put_result.ensures.parts

pub returns-in-None-clause-says : goal.returns-in-None-clause-says
returns-in-None-clause-says g c =
    no_result_shown c.put_bare.result c.args.style c.args.body.now (followed c.args.style (string_bytes c.args.line.now) (Name false (codes "FunctionCallResponse") ∷ [])) (string_bytes c.put_called.new.line) (string_bytes c.put_bare.new.line)
    (search rules) c.in_ok-put_called.ensures.part c.put_bare.ensures.parts
