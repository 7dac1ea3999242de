use Rattle.pgp_base.proofs.Common.{rules, arith, length-append, [], ◌∷◌, ap, ◌∙◌, inl, Contains, ◌⊕◌}
use Rattle.pgp_base.proofs.Causes.{text_clean}
use Rattle.pgp_base.proofs.Parts.{more_twice, front_more, cut_back, left_same, wants_here, wants_then, writes_out}
use Rattle.pgp_base.proofs.writing.write_cstr.Goals as goal

pub returns-in-Ok : goal.returns-in-Ok
returns-in-Ok g c =
    let none : ¬ Contains c.args.bytes.now 0 = search rules in
    let front = c.in_ok-append.ensures.ok in
    (text_clean c.args.bytes.now none, c.in-Ok.ensures.ok ∙ (ap (λ held. held ⊕ 0 ∷ []) front ∙ more_twice (g.B.Buffer.held c.args.buf.now) c.args.bytes.now (0 ∷ [])))

pub returns-in-Err : goal.returns-in-Err
returns-in-Err g c =
    let before = c.in_ok-append.ensures.ok in
    let front = c.in-Err.ensures.err ∙ before in
    let wants = wants_then (g.B.Buffer.held c.args.buf.now) _ c.args.bytes.now 1 _ before (omega (arith, length-append c.args.bytes.now (0 ∷ []))) (wants_here _ 1 1 c.in-Err.ensures.lacks (omega arith)) in
    (inl (c.into.ensures, wants), cut_back _ _ _ c.len-base.result (front_more (g.B.Buffer.held c.args.buf.now) _ _ front) c.len-base.ensures.value c.truncate.ensures.bytes c.truncate.ensures.kept)

pub returns-in_err-append : goal.returns-in_err-append
returns-in_err-append g c =
    let wants = wants_here (g.B.Buffer.held c.args.buf.now) _ _ c.in_err-append.ensures.lacks (omega (arith, length-append c.args.bytes.now (0 ∷ []))) in
    writes_out _ _ _ _ _ _ c.from_residual.ensures.0 c.from_residual.ensures.1 wants (left_same _ _ c.in_err-append.ensures.err)
