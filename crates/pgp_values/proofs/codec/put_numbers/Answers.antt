use Rattle.pgp_values.proofs.Common.{◌≡◌, take, get_or, sym, ap, ◌∙◌, arith, add-one, flat_map, take-suc, take_all, ◌⊕◌, uint16, more_parts, wants_then}
use Rattle.std.proofs.Common.{length-take}
use Rattle.pgp_values.proofs.PlaceLemmas.{pairs_size}
use Rattle.pgp_values.proofs.codec.put_numbers.Goals as goal

pub returns-in-Err-clause-cause : goal.returns-in-Err-clause-cause
returns-in-Err-clause-cause g c =
    let memory = c.in-Err.ensures.cause in
    let ns = c.args.numbers.now in
    let front = take c.loop-i.i ns in
    (memory.0, wants_then (g.B.Buffer.held c.args.buf.now) _ (flat_map uint16 front) 2 _ c.loop-i.invariant (omega (arith, pairs_size front, length-take c.loop-i.i ns)) memory.1)

pub loop-i-preserved : goal.loop-i-preserved
loop-i-preserved g c =
    let ns = c.args.numbers.now in
    let old = g.B.Buffer.held c.args.buf.now in
    rw add-one (more_parts uint16 old _ _ (take c.loop-i.i ns) (get_or ns c.loop-i.i 0) c.loop-i.invariant c.in-Ok.ensures.ok ∙ ap (λ l. old ⊕ flat_map uint16 l) (sym (take-suc ns c.loop-i.i 0 (omega arith))))

pub returns-clause-ok : goal.returns-clause-ok
returns-clause-ok g c =
    let ns = c.args.numbers.now in
    let all : take c.loop-i.i ns ≡ ns = take_all c.loop-i.i ns (omega arith) in
    c.loop-i.invariant ∙ ap (λ l. g.B.Buffer.held c.args.buf.now ⊕ flat_map uint16 l) all
