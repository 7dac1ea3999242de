use Rattle.pgp_values.proofs.Common.{[], ◌∷◌, arith, inl, text_cause, text, wants_more, only_memory}
use Rattle.pgp_values.proofs.Rows.{item_why, writes_why}
use Rattle.pgp_values.proofs.tsquery.put_operand.Goals as goal

pub returns-in-Ok-clause-why : goal.returns-in-Ok-clause-why
returns-in-Ok-clause-why g c =
    let z = c.args.o.now.text.now in
    let said = (rw c.as_bytes.ensures.value at c.write_cstr.ensures) in
    item_why g.B.Buffer.Lacks c.write_cstr.result (g.B.Buffer.held c.args.buf.now) _ (1 ∷ c.args.o.now.weights ∷ c.from.result ∷ []) _ _ (text_cause z) _ (λ e is. is) c.in-Ok.ensures.1 (omega arith) (writes_why g.B.Buffer.Lacks c.write_cstr.result _ _ (text z) (text_cause z) said)

pub returns-in-Err-clause-why : goal.returns-in-Err-clause-why
returns-in-Err-clause-why g c =
    let memory = only_memory _ c.in-Err.ensures.0 in
    inl (memory.0, wants_more _ 3 _ (omega arith) memory.1)
