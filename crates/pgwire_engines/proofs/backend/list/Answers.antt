use Rattle.pgwire_engines.proofs.Common.{◌≡◌, ◌++◌, get_or, take, map, arith, rules, append_assoc, sym, ap, ◌∙◌, string_bytes, flat_map, take_all, seen, line_of}
use Rattle.pgwire_engines.proofs.Lists.{one_line}
use Rattle.pgwire_engines.proofs.backend.list.Goals as goal
use Rattle.pgwire_engines.proofs.backend.list.Goals.{in-Ok+in_ok-put_line-in-Ok, in-Err+in_ok-put_fault-in-Err}

pub loop-read-preserved : goal.loop-read-preserved
loop-read-preserved g c =
    let xs = c.args.results.now in
    let i = c.loop-read.read-index in
    let item = c.read-item.result in
    let before = string_bytes c.args.text.now in
    let lines = flat_map line_of (map seen (take i xs)) in
    let here : get_or xs i item ≡ item = search rules in
    let more : string_bytes c.match-read.text ≡ string_bytes c.loop-read.text ++ line_of (seen item) = elim c.match-read.branch [
      | in-Ok+in_ok-put_line-in-Ok w ↦ rw w.text-is (search rules)
      | in-Err+in_ok-put_fault-in-Err w ↦ rw w.text-is (search rules)
    ] in
    more ∙ ap (λ l. l ++ line_of (seen item)) c.loop-read.invariant ∙ append_assoc before lines (line_of (seen item))
    ∙ ap (λ l. before ++ l) (sym (one_line seen xs i item c.loop-read-test.true ∙ ap (λ r. lines ++ line_of (seen r)) here))

pub returns-clause-lines : goal.returns-clause-lines
returns-clause-lines g c =
    c.loop-read.invariant ∙ ap (λ l. string_bytes c.args.text.now ++ flat_map line_of (map seen l)) (take_all c.loop-read.read-index c.args.results.now (omega (arith, c.loop-read-test.false)))
