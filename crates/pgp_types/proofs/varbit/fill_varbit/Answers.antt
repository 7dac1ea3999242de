use Rattle.pgp_types.proofs.Common.{rules, arith, inl, inr, Some, ◌++◌, length-append, [], ◌∷◌, refl, ap, ◌∙◌, ◌⊕◌, uint32, more_twice, front_twice, on_err, if_err_at, length-uint32, wants_more, wants_then}
use Rattle.pgp_types.proofs.varbit.fill_varbit.Goals as goal

pub loop-byte-preserved : goal.loop-byte-preserved
loop-byte-preserved g c =
    c.in_ok-put_u8.ensures.ok ∙ (ap (λ h. h ⊕ c.in-Some.byte ∷ []) c.loop-byte.invariant ∙ more_twice (g.B.Buffer.held c.args.buf.now ⊕ uint32 c.args.len) c.loop-byte.yielded (c.in-Some.byte ∷ []))

pub returns-in_err-put_u8-clause-err : goal.returns-in_err-put_u8-clause-err
returns-in_err-put_u8-clause-err g c = on_err _ _ (front_twice (g.B.Buffer.held c.args.buf.now) _ _ _ _ refl (c.in_err-put_u8.ensures.err ∙ c.loop-byte.invariant))

pub returns-clause-ok : goal.returns-clause-ok
returns-clause-ok g c = record {
  items = c.loop-byte.yielded;
  all = search rules;
  fits = c.in_ok-length_field.ensures.value.1;
  appended = c.loop-byte.invariant ∙ more_twice (g.B.Buffer.held c.args.buf.now) (uint32 c.args.len) c.loop-byte.yielded;
}

pub returns-in_err-put_u32-clause-cause : goal.returns-in_err-put_u32-clause-cause
returns-in_err-put_u32-clause-cause g c =
    let memory = c.in_err-put_u32.ensures.cause in
    if_err_at _ _ _ c.from_residual-in_err-put_u32.ensures.1
    (inl (memory.0, ([], inl refl, wants_more _ 4 _ (omega (arith, length-append (uint32 c.args.len) [], length-uint32 c.args.len)) memory.1)))

pub returns-in_err-put_u8-clause-cause : goal.returns-in_err-put_u8-clause-cause
returns-in_err-put_u8-clause-cause g c =
    let memory = c.in_err-put_u8.ensures.cause in
    let held = c.loop-byte.invariant ∙ more_twice (g.B.Buffer.held c.args.buf.now) (uint32 c.args.len) c.loop-byte.yielded in
    let bytes = c.loop-byte.yielded ++ c.in-Some.byte ∷ [] in
    if_err_at _ _ _ c.from_residual-in_err-put_u8.ensures.1
    (inl (
      memory.0,
      (
        bytes,
        inr (record { before = c.loop-byte.yielded; next = Some c.in-Some.byte; received = search rules; are = refl }),
        wants_then (g.B.Buffer.held c.args.buf.now) _ (uint32 c.args.len ++ c.loop-byte.yielded) 1 _ held
            (omega (arith, length-append (uint32 c.args.len) c.loop-byte.yielded, length-append (uint32 c.args.len) bytes, length-append c.loop-byte.yielded (c.in-Some.byte ∷ []))) memory.1,
      ),
    ))
