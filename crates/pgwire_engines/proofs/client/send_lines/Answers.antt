use Rattle.pgwire_engines.proofs.Common.{rules, arith, ◌∷◌, [], ◌++◌, length-append, None, sym, ap, ◌∙◌, append_assoc, SendsLine, lines_left, size_left}
use Rattle.pgwire_engines.proofs.SendingLemmas.{sent_more}
use Rattle.pgwire_engines.proofs.client.send_lines.Goals as goal

pub lines-preserved : goal.lines-preserved
lines-preserved g c =
    let (before, split, count, size, sent) = c.lines.invariant in
    let line = c.cut_line.result.0.now in
    let more = c.cut_line.result.1 in
    let one : SendsLine g.B.Buffer.held line c.lines.stream c.send_line.new.stream None = search rules in (
      before ++ line ∷ [],
      split ∙ ap (λ r. before ++ lines_left r) c.in-Some.is ∙ ap (λ l. before ++ l) c.cut_line.ensures.cut ∙ sym (append_assoc before (line ∷ []) (lines_left more)),
      omega (arith, length-append before (line ∷ []), count),
      omega (arith, size, c.cut_line.ensures.shorter, ap size_left c.in-Some.is),
      sent_more g.B.Buffer.held before line c.lines.stream c.send_line.new.stream sent one,
    )
