use Rattle.for_c.proofs.Common.{rules, refl, ap, subst, inl, inr, ◌∙◌, List, ℕ, Error, numeric_bytes, numeric_number}
use Rattle.pgp_values.specs.NumberMeaning.{TextMeans, TextRefused}
use Rattle.for_c.proofs.Sending.{lacked, wrote}
use Rattle.for_c.proofs.numeric.pgp_put_numeric_text.Goals as goal

pub returns-in_default-clause-refused : goal.returns-in_default-clause-refused
returns-in_default-clause-refused c z = (refl, inl (inl (c.failed.ensures.code, c.in_default.ensures.cases.0)))

pub returns-in-Ok-numeric_text_to_sql-clause-wrote : goal.returns-in-Ok-numeric_text_to_sql-clause-wrote
returns-in-Ok-numeric_text_to_sql-clause-wrote c z =
    let m = c.in-Ok-numeric_text_to_sql.ensures in
    let bytes = numeric_bytes m.value in (
      m.value,
      subst (λ (t : List ℕ). TextMeans t m.value) c.in-Ok.ensures.cases.0 m.means,
      wrote bytes bytes refl c.new-window.result c.numeric_text_to_sql.new.buf c.args.out.now _ c.new-window.ensures m.appended _ (search rules) _ c.sent.ensures.reported,
    )

pub returns-in-Err-clause-refused : goal.returns-in-Err-clause-refused
returns-in-Err-clause-refused c z =
    let same = c.in-Ok.ensures.cases.0 in (
      refl,
      elim c.in-Err.ensures.0 [
        | inl memory ↦
            let m = memory.1 in
            let bytes = numeric_bytes m.value in
            inr (
              m.value,
              subst (λ (t : List ℕ). TextMeans t m.value) same m.means,
              lacked bytes bytes refl c.new-window.result c.args.out.now _ c.new-window.ensures Error.OutOfMemory _ _ (inl (refl, m.wants)) (c.number_of.ensures.number ∙ ap numeric_number memory.0) refl,
            )
        | inr why ↦ inl (inr (c.in-Err.e, subst (λ (t : List ℕ). TextRefused t c.in-Err.e) same why, c.number_of.ensures.number))
      ],
    )
