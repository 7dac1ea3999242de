use Rattle.pgtrace_lines.proofs.Common.{◌≡◌, [], ◌∷◌, subst, codes, string_bytes, OnOk, Key, Number, followed}
use Rattle.std.proofs.Math.Facts.{to_z-of_z}
use Rattle.pgtrace_lines.proofs.body.put_process.Goals as goal

pub returns-clause-parts : goal.returns-clause-parts
returns-clause-parts g c =
    subst (λ n. OnOk c.put_integer.result (string_bytes c.put_integer.new.line ≡ followed c.args.style (string_bytes c.args.line.now) (Key (codes "process") (codes "process_id") ∷ Number n ∷ [])))
    (to_z-of_z c.ranges.process_id) c.put_integer.ensures.parts
