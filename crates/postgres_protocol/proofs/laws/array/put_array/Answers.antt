use Rattle.postgres_protocol.proofs.Common.{rules, refl, sym, subst, copies, fronts, YieldsList, YieldsList-from_slice, YieldsList-from_copied, all_given, some_given, all_same, some_same}
use Rattle.postgres_protocol.proofs.StepLemmas.{steps_ok, steps_refused}
use Rattle.postgres_protocol.proofs.laws.array.put_array.Goals as goal

pub returns-in-Ok : goal.returns-in-Ok
returns-in-Ok g c =
    let all = c.args.dimensions.now in
    let steps = c.args.steps.now in
    let road : YieldsList (copies fronts) (λ x. x) c.copied.result all = YieldsList-from_copied (YieldsList-from_slice all cc) in (
      refl,
      steps_ok g.B.Buffer.held _ g.B.Buffer.Lacks (λ f f' x b b' r s. search rules) all c.args.element_type steps _ _
          (λ xs k. all_same _ _ c.copied.result all (λ it from. subst (λ s. YieldsList (copies fronts) (λ x. x) s all) (sym from) road) xs k)
          (λ xs x k. some_same _ _ c.copied.result all (λ it from. subst (λ s. YieldsList (copies fronts) (λ x. x) s all) (sym from) road) xs x k)
          (λ xs k. all_given _ _ c.args.steps (λ x. x.now) steps (λ it from. YieldsList-from_slice steps from.0) xs k)
          (λ xs x k. some_given _ _ c.args.steps (λ x. x.now) steps (λ it from. YieldsList-from_slice steps from.0) xs x k)
          _ _ (g.B.Buffer.held c.args.buf.now) (g.B.Buffer.held c.array_to_sql.new.buf) c.in-Ok.ensures.1,
    )

pub returns-in-Err : goal.returns-in-Err
returns-in-Err g c =
    let all = c.args.dimensions.now in
    let steps = c.args.steps.now in
    let road : YieldsList (copies fronts) (λ x. x) c.copied.result all = YieldsList-from_copied (YieldsList-from_slice all cc) in (
      steps_refused g.B.Buffer.held _ g.B.Buffer.Lacks (λ f f' x b b' r s. search rules) all c.args.element_type steps _ _
          (λ xs k. all_same _ _ c.copied.result all (λ it from. subst (λ s. YieldsList (copies fronts) (λ x. x) s all) (sym from) road) xs k)
          (λ xs x k. some_same _ _ c.copied.result all (λ it from. subst (λ s. YieldsList (copies fronts) (λ x. x) s all) (sym from) road) xs x k)
          (λ xs k. all_given _ _ c.args.steps (λ x. x.now) steps (λ it from. YieldsList-from_slice steps from.0) xs k)
          (λ xs x k. some_given _ _ c.args.steps (λ x. x.now) steps (λ it from. YieldsList-from_slice steps from.0) xs x k)
          _ _ (g.B.Buffer.held c.args.buf.now) c.in-Err.e c.in-Err.ensures.1.0,
      c.in-Err.ensures.1.1,
    )
