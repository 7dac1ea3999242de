use Rattle.pgp_types.proofs.Common.{rules, arith, ◌≡◌, if_err_at, length-uint32, wants_more, wants_then, w32, cast_unsigned, ◌⊕◌, uint32}
use Rattle.pgp_types.proofs.ArrayWrites.{dimension_put}
use Rattle.pgp_types.proofs.array_writing.put_dimension.Goals as goal

pub returns-clause-ok : goal.returns-clause-ok
returns-clause-ok g c =
    let len : g.B.Buffer.held c.put_u32.new.buf ≡ g.B.Buffer.held c.args.buf.now ⊕ uint32 (cast_unsigned w32 c.args.dimension.len) = search rules in
    let lower : g.B.Buffer.held c.put_u32-2.new.buf ≡ g.B.Buffer.held c.put_u32.new.buf ⊕ uint32 (cast_unsigned w32 c.args.dimension.lower_bound) = search rules in
    dimension_put _ _ _ c.args.dimension len lower

pub returns-in_err-put_u32-clause-cause : goal.returns-in_err-put_u32-clause-cause
returns-in_err-put_u32-clause-cause g c =
    let memory = c.in_err-put_u32.ensures.cause in
    if_err_at _ _ _ c.from_residual.ensures.1 (memory.0, wants_more _ 4 8 (omega arith) memory.1)

pub returns-in_err-put_u32-2-clause-cause : goal.returns-in_err-put_u32-2-clause-cause
returns-in_err-put_u32-2-clause-cause g c =
    let memory = c.in_err-put_u32-2.ensures.cause in
    if_err_at _ _ _ c.from_residual-in_err-put_u32-2.ensures.1
    (memory.0, wants_then (g.B.Buffer.held c.args.buf.now) _ (uint32 _) 4 8 c.in_ok-put_u32.ensures.ok (omega (arith, length-uint32 c.cast_unsigned.result)) memory.1)
