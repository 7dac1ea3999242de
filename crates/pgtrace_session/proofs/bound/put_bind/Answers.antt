use Rattle.pgtrace_session.proofs.Common.{◌≡◌, rules, string_bytes, bind_front, ok_then}
use Rattle.std.specs.Prelude.{length}
use Rattle.pgtrace_session.proofs.RowLemmas.{bind_line}
use Rattle.pgtrace_session.proofs.bound.put_bind.Goals as goal

pub returns-clause-line : goal.returns-clause-line
returns-clause-line g c =
    let front = string_bytes c.put_front.new.line in
    let text = string_bytes c.put_each.new.line in
    let begins : front ≡ bind_front c.args.style c.args.place c.args.len c.args.portal.now c.args.statement.now c.args.formats (length c.args.values) = search rules in
    ok_then c.put_end.result
    (λ ended. bind_line c.args.style c.args.place c.args.len c.args.parameters.now c.args.portal.now c.args.statement.now c.args.formats c.args.values c.args.results front text (string_bytes c.put_formats.new.line) (string_bytes c.put_end.new.line)
    begins c.in_ok-put_each.ensures.adds c.in_ok-put_formats.ensures.parts ended) c.put_end.ensures.text
