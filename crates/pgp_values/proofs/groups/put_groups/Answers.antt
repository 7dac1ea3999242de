use Rattle.pgp_values.proofs.Common.{◌≡◌, ◌+◌, ◌++◌, map, ap, ◌∙◌, sym, arith, add-one, flat_map, ◌⊕◌, uint16, more_parts, wants_then, run, digit_value, group_down}
use Rattle.pgp_values.proofs.PlaceLemmas.{pairs_size}
use Rattle.pgp_values.proofs.TextLemmas.{run_more, run_length}
use Rattle.pgp_values.proofs.groups.put_groups.Goals as goal

pub loop-i-preserved : goal.loop-i-preserved
loop-i-preserved g c =
    let f = group_down (map digit_value (c.args.w.now.whole.now ++ c.args.w.now.fraction.now)) c.args.g.now.point c.args.g.now.top in
    let here : c.loop-i.i ≡ 0 + c.loop-i.i = omega arith in
    let put = rw (c.group_of.ensures.value ∙ ap f here) at c.in-Ok.ensures.ok in
    rw add-one (more_parts uint16 (g.B.Buffer.held c.args.buf.now) _ _ (run f 0 c.loop-i.i) (f (0 + c.loop-i.i)) c.loop-i.invariant put ∙ ap (λ l. g.B.Buffer.held c.args.buf.now ⊕ flat_map uint16 l) (sym (run_more f 0 c.loop-i.i)))

pub returns-in-Err-clause-cause : goal.returns-in-Err-clause-cause
returns-in-Err-clause-cause g c =
    let f = group_down (map digit_value (c.args.w.now.whole.now ++ c.args.w.now.fraction.now)) c.args.g.now.point c.args.g.now.top in
    let memory = c.in-Err.ensures.cause in
    (memory.0, wants_then (g.B.Buffer.held c.args.buf.now) _ (flat_map uint16 (run f 0 c.loop-i.i)) 2 _ c.loop-i.invariant (omega (arith, pairs_size (run f 0 c.loop-i.i), run_length f 0 c.loop-i.i)) memory.1)
