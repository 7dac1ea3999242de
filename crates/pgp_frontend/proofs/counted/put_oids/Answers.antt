use Rattle.pgp_frontend.proofs.Common.{rules, arith, ◌^◌, ◌<◌, ◌≡◌, [], ◌∷◌, ◌++◌, length, refl, inl, inr, Some, length-append, ◌⊕◌, All-push, uint16, oid, count_fits, count_past, counted_length, counted_wants, if_err_at, wants_more, length-uint32, counted_up, sized2, more_parts}
use Rattle.pgp_frontend.proofs.counted.put_oids.Goals as goal

pub patch_u16-requires : goal.patch_u16-requires
patch_u16-requires g c =
    omega (arith, sized2 (g.B.Buffer.held c.args.buf.now) _ _ _ refl c.loop-item.invariant.2)

pub returns-clause-ok : goal.returns-clause-ok
returns-clause-ok g c =
    let i = c.loop-item.invariant in
    (c.loop-item.yielded, search rules, i.1, count_fits _ (omega arith), counted_up oid c.loop-item.yielded _ _ _ _ _ i.2 c.len-base.ensures.value i.0 c.patch_u16.ensures)

pub returns-then-count-clause-cause : goal.returns-then-count-clause-cause
returns-then-count-clause-cause g c = (
  c.loop-item.yielded ++ c.in-Some.item ∷ [],
  inr (record { before = c.loop-item.yielded; next = Some c.in-Some.item; received = search rules; none = count_fits (length c.loop-item.yielded) (omega arith); are = refl }),
  inr (count_past (length (c.loop-item.yielded ++ c.in-Some.item ∷ [])) (omega (arith, length-append c.loop-item.yielded (c.in-Some.item ∷ [])))),
)

pub loop-item-preserved : goal.loop-item-preserved
loop-item-preserved g c =
    let i = c.loop-item.invariant in
    let put : g.B.Buffer.held c.put_u32.new.buf ≡ g.B.Buffer.held c.loop-item.buf ⊕ oid c.in-Some.item = search rules in
    let fits : c.in-Some.item < 2 ^ 32 = search rules in
    (omega (arith, length-append c.loop-item.yielded (c.in-Some.item ∷ [])), All-push (λ n. n < 2 ^ 32) c.loop-item.yielded c.in-Some.item i.1 fits, more_parts oid (g.B.Buffer.held c.args.buf.now ⊕ uint16 0) _ _ c.loop-item.yielded c.in-Some.item i.2 put)

pub returns-in_err-put_u16-clause-cause : goal.returns-in_err-put_u16-clause-cause
returns-in_err-put_u16-clause-cause g c =
    let memory = c.in_err-put_u16.ensures.cause in
    if_err_at _ _ _ c.from_residual.ensures.1 ([], inl refl, inl (memory.0, wants_more _ 2 _ (omega (arith, counted_length oid [])) memory.1))

pub returns-in_err-put_u32-clause-cause : goal.returns-in_err-put_u32-clause-cause
returns-in_err-put_u32-clause-cause g c =
    let i = c.loop-item.invariant in
    let memory = c.in_err-put_u32.ensures.cause in
    if_err_at _ _ _ c.from_residual-in_err-put_u32.ensures.1
    (c.loop-item.yielded ++ c.in-Some.item ∷ [], inr (record { before = c.loop-item.yielded; next = Some c.in-Some.item; received = search rules; none = count_fits (length c.loop-item.yielded) (omega arith); are = refl }), inl (memory.0, counted_wants oid c.loop-item.yielded c.in-Some.item (g.B.Buffer.held c.args.buf.now) _ _ i.2 (omega (arith, length-uint32 c.in-Some.item)) memory.1))
