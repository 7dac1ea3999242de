use Rattle.pgp_frontend.proofs.Common.{arith, [], ◌∷◌, ◌+◌, ap, ◌∙◌, length, ◌⊕◌, uint32, on_err, length-uint32, wants_here, wants_now, wants_more, wants_same, wants_then}
use Rattle.pgp_frontend.proofs.copy.fill.Goals as goal

pub returns-in_err-reserve-clause-lacks : goal.returns-in_err-reserve-clause-lacks
returns-in_err-reserve-clause-lacks g c = on_err _ _ (wants_here _ _ _ c.in_err-reserve.ensures.lacks (omega (arith, c.requires)))

pub returns-in_err-put_u8-clause-lacks : goal.returns-in_err-put_u8-clause-lacks
returns-in_err-put_u8-clause-lacks g c =
    on_err _ _ (wants_same _ _ _ c.in_ok-reserve.ensures.same (wants_more _ 1 _ (omega arith) c.in_err-put_u8.ensures.cause.1))

pub returns-in_err-put_u32-clause-lacks : goal.returns-in_err-put_u32-clause-lacks
returns-in_err-put_u32-clause-lacks g c =
    let tag = c.in_ok-put_u8.ensures.ok ∙ ap (λ held. held ⊕ 100 ∷ []) c.in_ok-reserve.ensures.same in
    on_err _ _ (wants_then (g.B.Buffer.held c.args.out.now) _ (100 ∷ []) 4 _ tag (omega arith) c.in_err-put_u32.ensures.cause.1)

pub returns-in_err-append_from-clause-lacks : goal.returns-in_err-append_from-clause-lacks
returns-in_err-append_from-clause-lacks g c =
    let tag = c.in_ok-put_u8.ensures.ok ∙ ap (λ held. held ⊕ 100 ∷ []) c.in_ok-reserve.ensures.same in
    let n = length (g.T.Buf.unread c.args.buf.now) in
    on_err _ _ (wants_then (g.B.Buffer.held c.args.out.now) _ (100 ∷ []) (n + 4) _ tag (omega arith)
    (wants_then _ _ (uint32 c.args.size) n (n + 4) c.in_ok-put_u32.ensures.ok (omega (arith, length-uint32 c.args.size)) (wants_now _ _ c.in_err-append_from.ensures.lacks)))
