use Rattle.pgp_types.proofs.Common.{arith, [], ◌+◌, ◌*◌, inl, inr, length, refl, uint32, if_err_at, length-uint32, wants_more, wants_then}
use Rattle.pgp_types.proofs.ArrayWrites.{count_room, head_put}
use Rattle.pgp_types.proofs.array_writing.put_head.Goals as goal

pub patch_u32-requires : goal.patch_u32-requires
patch_u32-requires g c =
    let k = c.in_ok-count.ensures.ok in
    count_room _ _ _ _ _ k.0 c.args.element_type c.len-base.result c.len-base.ensures.value c.in_ok-put_u32.ensures.ok c.in_ok-put_u32-2.ensures.ok c.in_ok-put_u32-3.ensures.ok k.5

pub returns-clause-ok : goal.returns-clause-ok
returns-clause-ok g c =
    let k = c.in_ok-count.ensures.ok in
    (k.0, k.1, k.2, k.4, head_put _ _ _ _ _ k.0 c.args.element_type c.len-base.result c.len-base.ensures.value c.in_ok-put_u32.ensures.ok c.in_ok-put_u32-2.ensures.ok c.in_ok-put_u32-3.ensures.ok k.5 _ _ k.3 c.patch_u32.ensures)

pub returns-in_err-put_u32-clause-cause : goal.returns-in_err-put_u32-clause-cause
returns-in_err-put_u32-clause-cause g c =
    let memory = c.in_err-put_u32.ensures.cause in
    if_err_at _ _ _ c.from_residual.ensures.1 (inl (memory.0, ([], inl refl, wants_more _ 4 12 (omega arith) memory.1)))

pub returns-in_err-put_u32-2-clause-cause : goal.returns-in_err-put_u32-2-clause-cause
returns-in_err-put_u32-2-clause-cause g c =
    let memory = c.in_err-put_u32-2.ensures.cause in
    if_err_at _ _ _ c.from_residual-in_err-put_u32-2.ensures.1
    (inl (memory.0, ([], inl refl, wants_then (g.B.Buffer.held c.args.buf.now) _ (uint32 0) 4 12 c.in_ok-put_u32.ensures.ok (omega (arith, length-uint32 0)) memory.1)))

pub returns-in_err-put_u32-3-clause-cause : goal.returns-in_err-put_u32-3-clause-cause
returns-in_err-put_u32-3-clause-cause g c =
    let memory = c.in_err-put_u32-3.ensures.cause in
    if_err_at _ _ _ c.from_residual-in_err-put_u32-3.ensures.1
    (inl (memory.0, ([], inl refl, wants_then (g.B.Buffer.held c.args.buf.now) _ (uint32 0) 8 12 c.in_ok-put_u32.ensures.ok (omega (arith, length-uint32 0)) (wants_then _ _ (uint32 0) 4 8 c.in_ok-put_u32-2.ensures.ok (omega (arith, length-uint32 0)) memory.1))))

pub returns-in_err-count-clause-cause : goal.returns-in_err-count-clause-cause
returns-in_err-count-clause-cause g c =
    if_err_at _ _ _ c.from_residual-in_err-count.ensures.1
    (elim c.in_err-count.ensures.cause [
      | inl memory ↦
          let m = memory.1 in
          let n = 8 * length m.0 in
          inl (
            memory.0,
            (
              m.0,
              m.1,
              wants_then (g.B.Buffer.held c.args.buf.now) _ (uint32 0) (8 + n) (12 + n) c.in_ok-put_u32.ensures.ok (omega (arith, length-uint32 0))
                  (wants_then _ _ (uint32 0) (4 + n) (8 + n) c.in_ok-put_u32-2.ensures.ok (omega (arith, length-uint32 0)) (wants_then _ _ (uint32 c.args.element_type) n (4 + n) c.in_ok-put_u32-3.ensures.ok (omega (arith, length-uint32 c.args.element_type)) m.2)),
            ),
          )
      | inr past ↦ inr past
    ])
