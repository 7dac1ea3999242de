use Rattle.pgp_types.proofs.Common.{rules, refl, inr, if_err_at, Array}
use Rattle.pgp_types.proofs.ArrayWrites.{stops_at, made_at, Runs-fit, flag_room, flag_is, array_put, no_cause}
use Rattle.pgp_types.proofs.array_writing.fill_array.Goals as goal

pub returns-in_err-nulls-clause-cause : goal.returns-in_err-nulls-clause-cause
returns-in_err-nulls-clause-cause g c =
    let k = c.in_ok-put_head.ensures.ok in
    if_err_at _ _ _ c.from_residual-in_err-nulls.ensures.1
    (inr (record { all = k.0; received = k.1; fits = k.3; stops = stops_at g.B.Buffer.held (goal.F-step g) _ c.args.serializer.now c.put_elements.new.serializer _ _ g.B.Buffer.Lacks _ k.4 c.in_err-nulls.ensures.cause }))

pub patch_u32-requires : goal.patch_u32-requires
patch_u32-requires g c =
    let k = c.in_ok-put_head.ensures.ok in
    let v = c.in_ok-nulls.ensures.ok in
    flag_room (g.B.Buffer.held c.args.buf.now) _ _ (record { dimensions = k.0; element_type = c.args.element_type; elements = v.0 }) c.len-base.result c.len-base.ensures.value k.4 v.3

pub returns-clause-ok : goal.returns-clause-ok
returns-clause-ok g c =
    let k = c.in_ok-put_head.ensures.ok in
    let v = c.in_ok-nulls.ensures.ok in
    let array : Array = record { dimensions = k.0; element_type = c.args.element_type; elements = v.0 } in
    let made = made_at g.B.Buffer.held (goal.F-step g) _ c.args.serializer.now c.put_elements.new.serializer _ _ v.0 k.4 v.1 in
    record {
      array = array;
      received = k.1;
      in_range = k.2;
      type = refl;
      made = made;
      none = no_cause array k.3 (Runs-fit g.B.Buffer.held (goal.F-step g) _ _ _ _ _ v.1.runs);
      appended = array_put (g.B.Buffer.held c.args.buf.now) _ _ array c.len-base.result c.len-base.ensures.value k.4 v.3 _ c.from.result (flag_is c.from.result c.in_ok-nulls.nulls _ (search rules) v.2) c.patch_u32.ensures;
    }
