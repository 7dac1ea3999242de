use Rattle.for_c.proofs.Common.{◌≡◌, None, arith, inl, inr, ap, sym, ◌∙◌, length, map, length-append, length-map, length_cause, ◌⊕◌, uint32, either_none, either_then, memory_more, memory_then, length-uint32, items_bytes, items_cause}
use Rattle.for_c.proofs.Elements.{then_more}
use Rattle.for_c.proofs.Handed.{err_then, ok_then}
use Rattle.for_c.proofs.list_writing.put_list.Goals as goal

pub returns-in-Err-put_u32-clause-cause : goal.returns-in-Err-put_u32-clause-cause
returns-in-Err-put_u32-clause-cause g c =
    let of = g.T.Written.meaning in
    let item = g.T.Written.item in
    let ps = c.args.items.now in
    let n = length (map of ps) in
    inl (memory_more _ 4 _ _ (omega (arith, length-append (uint32 n) (items_bytes item (map of ps)), length-uint32 n)) c.in-Err-put_u32.ensures.cause)

pub returns-in-Ok-put_u32-clause-cause : goal.returns-in-Ok-put_u32-clause-cause
returns-in-Ok-put_u32-clause-cause g c =
    let of = g.T.Written.meaning in
    let item = g.T.Written.item in
    let ps = c.args.items.now in
    let n = length (map of ps) in
    let k = c.in-Ok.count in
    let few : length_cause n ≡ None = ap length_cause (length-map ps of) ∙ c.in-Ok.ensures.value.1 in
    err_then _ _ c.put_items.result c.put_items.ensures.cause (λ e why. elim why [
      | inl memory ↦ inl (memory_then (g.B.Buffer.held c.args.buf.now) _ (uint32 k) _ _ _ c.in-Ok-put_u32.ensures.ok (omega (arith, length-append (uint32 n) (items_bytes item (map of ps)), length-uint32 n, length-uint32 k)) memory)
      | inr some ↦ inr (either_then (length_cause n) (items_cause item (map of ps)) few ∙ some)
    ])

pub returns-in-Ok-put_u32-clause-ok : goal.returns-in-Ok-put_u32-clause-ok
returns-in-Ok-put_u32-clause-ok g c =
    let of = g.T.Written.meaning in
    let item = g.T.Written.item in
    let ps = c.args.items.now in
    let n = length (map of ps) in
    let old = g.B.Buffer.held c.args.buf.now in
    let few : length_cause n ≡ None = ap length_cause (length-map ps of) ∙ c.in-Ok.ensures.value.1 in
    let same : c.in-Ok.count ≡ n = c.in-Ok.ensures.value.0 ∙ sym (length-map ps of) in
    ok_then _ _ c.put_items.result c.put_items.ensures.ok (λ behind.
    (either_none (length_cause n) (items_cause item (map of ps)) few behind.0, then_more old _ _ (uint32 n) (items_bytes item (map of ps)) (c.in-Ok-put_u32.ensures.ok ∙ ap (λ i. old ⊕ uint32 i) same) behind.1))
