use Rattle.for_c.proofs.Common.{rules, ◌≡◌, true, [], ◌∷◌, ◌∙◌, arith, inl, inr, is_utf8, text_cause, text, memory_more, memory_then, only_memory}
use Rattle.for_c.proofs.Handed.{err_then}
use Rattle.for_c.proofs.TextSearch.{then_cause, writes_err}
use Rattle.for_c.proofs.tsquery.put_operand.Goals as goal

pub returns-in-Ok-clause-cause : goal.returns-in-Ok-clause-cause
returns-in-Ok-clause-cause g c =
    let z = c.args.node.now.text.now in
    let utf8 : is_utf8 z ≡ true = search rules in
    err_then _ _ c.write_cstr.result (writes_err (text z) (text_cause z) _ _ _ c.write_cstr.result c.write_cstr.ensures) (λ e why. elim why [
      | inl memory ↦ inl (memory_then (g.B.Buffer.held c.args.buf.now) _ (1 ∷ c.args.node.now.weights ∷ c.from.result ∷ []) _ _ e c.in-Ok.ensures.1 (omega arith) memory)
      | inr some ↦ inr (then_cause z (text_cause z) utf8 ∙ some)
    ])

pub returns-in-Err-clause-cause : goal.returns-in-Err-clause-cause
returns-in-Err-clause-cause g c = inl (memory_more _ 3 _ _ (omega arith) (only_memory _ c.in-Err.ensures.0))
