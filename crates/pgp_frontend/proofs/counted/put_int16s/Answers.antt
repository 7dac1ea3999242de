use Rattle.pgp_frontend.proofs.Common.{rules, arith, ◌≡◌, [], ◌∷◌, ◌++◌, length, refl, inl, inr, Some, sym, ap, ◌∙◌, length-append, FitsSigned, w16, cast_unsigned, All-push, ◌⊕◌, int16, uint16, count_fits, count_past, counted_length, counted_wants, if_err_at, wants_more, counted_up, sized2, more_parts, int16_spelled}
use Rattle.pgp_frontend.proofs.Needs.{int16_length}
use Rattle.pgp_frontend.proofs.counted.put_int16s.Goals as goal

pub loop-item-preserved : goal.loop-item-preserved
loop-item-preserved g c =
    let i = c.loop-item.invariant in
    let fits : FitsSigned w16 c.in-Some.item = search rules in
    let spelled : g.B.Buffer.held c.put_u16-in-loop-item.new.buf ≡ g.B.Buffer.held c.loop-item.buf ⊕ uint16 (cast_unsigned w16 c.in-Some.item) = search rules in
    let put = spelled ∙ ap (λ p. g.B.Buffer.held c.loop-item.buf ⊕ p) (sym (int16_spelled c.in-Some.item)) in
    (omega (arith, length-append c.loop-item.yielded (c.in-Some.item ∷ [])), All-push (FitsSigned w16) c.loop-item.yielded c.in-Some.item i.1 fits, more_parts int16 (g.B.Buffer.held c.args.buf.now ⊕ uint16 0) _ _ c.loop-item.yielded c.in-Some.item i.2 put)

pub patch_u16-requires : goal.patch_u16-requires
patch_u16-requires g c =
    omega (arith, sized2 (g.B.Buffer.held c.args.buf.now) _ _ _ refl c.loop-item.invariant.2)

pub returns-clause-ok : goal.returns-clause-ok
returns-clause-ok g c =
    let i = c.loop-item.invariant in
    (c.loop-item.yielded, search rules, i.1, count_fits _ (omega arith), counted_up int16 c.loop-item.yielded _ _ _ _ _ i.2 c.len-base.ensures.value i.0 c.patch_u16.ensures)

pub returns-then-count-clause-cause : goal.returns-then-count-clause-cause
returns-then-count-clause-cause g c = (
  c.loop-item.yielded ++ c.in-Some.item ∷ [],
  inr (record { before = c.loop-item.yielded; next = Some c.in-Some.item; received = search rules; none = count_fits (length c.loop-item.yielded) (omega arith); are = refl }),
  inr (count_past (length (c.loop-item.yielded ++ c.in-Some.item ∷ [])) (omega (arith, length-append c.loop-item.yielded (c.in-Some.item ∷ [])))),
)

pub returns-in_err-put_u16-clause-cause : goal.returns-in_err-put_u16-clause-cause
returns-in_err-put_u16-clause-cause g c =
    let memory = c.in_err-put_u16.ensures.cause in
    if_err_at _ _ _ c.from_residual.ensures.1 ([], inl refl, inl (memory.0, wants_more _ 2 _ (omega (arith, counted_length int16 [])) memory.1))

pub returns-in_err-put_u16-2-clause-cause : goal.returns-in_err-put_u16-2-clause-cause
returns-in_err-put_u16-2-clause-cause g c =
    let i = c.loop-item.invariant in
    let memory = c.in_err-put_u16-2.ensures.cause in
    if_err_at _ _ _ c.from_residual-in_err-put_u16-2.ensures.1
    (c.loop-item.yielded ++ c.in-Some.item ∷ [], inr (record { before = c.loop-item.yielded; next = Some c.in-Some.item; received = search rules; none = count_fits (length c.loop-item.yielded) (omega arith); are = refl }), inl (memory.0, counted_wants int16 c.loop-item.yielded c.in-Some.item (g.B.Buffer.held c.args.buf.now) _ _ i.2 (omega (arith, int16_length c.in-Some.item)) memory.1))
