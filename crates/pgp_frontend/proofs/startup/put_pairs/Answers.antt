use Rattle.pgp_frontend.proofs.Common.{rules, arith, refl, inl, inr, [], ◌∷◌, ◌+◌, Some, None, length, length-append, map, sym, flat_map, append-nil, text, shown_by, pair, if_err_map, if_err_at, on_err, front_then, front_left, wants_then}
use Rattle.pgp_frontend.proofs.PairLemmas.{pairs_none, name_refused, value_refused, pairs_held, pairs_length}
use Rattle.pgp_frontend.proofs.startup.put_pairs.Goals as goal

pub returns-in_err-write_cstr-clause-cause : goal.returns-in_err-write_cstr-clause-cause
returns-in_err-write_cstr-clause-cause g c =
    let i = c.loop-name.invariant in
    if_err_at _ _ _ c.from_residual.ensures.1
    (elim c.in_err-write_cstr.ensures.0 [
      | inl memory ↦ (_, inr (record { before = c.loop-name.yielded; next = Some (c.in-Some.name, c.in-Some.value); received = search rules; none = i.0; are = refl }), inl (memory.0, wants_then (g.B.Buffer.held c.args.buf.now) _ (flat_map pair (map (shown_by g.T.Text.shown) c.loop-name.yielded)) _ _ i.1 (omega (arith, pairs_length g.T.Text.shown c.loop-name.yielded c.in-Some.name c.in-Some.value _ _ c.bytes.ensures refl, length-append c.bytes.result.now (0 ∷ []))) memory.1))
      | inr refused ↦ (_, inr (record { before = c.loop-name.yielded; next = Some (c.in-Some.name, c.in-Some.value); received = search rules; none = i.0; are = refl }), inr (name_refused g.T.Text.shown c.loop-name.yielded c.in-Some.name c.in-Some.value _ _ c.bytes.ensures refl _ i.0 refused))
    ])

pub loop-name-preserved : goal.loop-name-preserved
loop-name-preserved g c =
    let i = c.loop-name.invariant in
    let n = c.in_ok-write_cstr.ensures in
    let v = c.in_ok-write_cstr-2.ensures in
    (pairs_none g.T.Text.shown c.loop-name.yielded c.in-Some.name c.in-Some.value _ _ c.bytes.ensures c.bytes-in-loop-name.ensures i.0 n.0 v.0, pairs_held g.T.Text.shown c.loop-name.yielded c.in-Some.name c.in-Some.value _ _ c.bytes.ensures c.bytes-in-loop-name.ensures (g.B.Buffer.held c.args.buf.now) _ _ _ i.1 n.1 v.1)

pub returns-in_err-write_cstr-2-clause-cause : goal.returns-in_err-write_cstr-2-clause-cause
returns-in_err-write_cstr-2-clause-cause g c =
    let i = c.loop-name.invariant in
    if_err_at _ _ _ c.from_residual-in_err-write_cstr-2.ensures.1
    (elim c.in_err-write_cstr-2.ensures.0 [
      | inl memory ↦ (_, inr (record { before = c.loop-name.yielded; next = Some (c.in-Some.name, c.in-Some.value); received = search rules; none = i.0; are = refl }), inl (memory.0, wants_then (g.B.Buffer.held c.args.buf.now) _ (flat_map pair (map (shown_by g.T.Text.shown) c.loop-name.yielded)) _ _ i.1 (omega (arith, pairs_length g.T.Text.shown c.loop-name.yielded c.in-Some.name c.in-Some.value _ _ c.bytes.ensures c.bytes-in-loop-name.ensures, length-append c.bytes.result.now (0 ∷ []), length-append c.bytes-in-loop-name.result.now (0 ∷ []))) (wants_then _ _ (text c.bytes.result.now) _ (length (text c.bytes.result.now) + length (text c.bytes-in-loop-name.result.now)) c.in_ok-write_cstr.ensures.1 (omega arith) memory.1)))
      | inr refused ↦ (_, inr (record { before = c.loop-name.yielded; next = Some (c.in-Some.name, c.in-Some.value); received = search rules; none = i.0; are = refl }), inr (value_refused g.T.Text.shown c.loop-name.yielded c.in-Some.name c.in-Some.value _ _ c.bytes.ensures c.bytes-in-loop-name.ensures _ i.0 c.in_ok-write_cstr.ensures.0 refused))
    ])

pub returns-in_err-write_cstr-clause-err : goal.returns-in_err-write_cstr-clause-err
returns-in_err-write_cstr-clause-err g c = on_err _ _ (front_then _ _ _ _ c.loop-name.invariant.1 (front_left _ _ c.in_err-write_cstr.ensures.1))

pub returns-in_err-write_cstr-2-clause-err : goal.returns-in_err-write_cstr-2-clause-err
returns-in_err-write_cstr-2-clause-err g c = on_err _ _ (front_then _ _ _ _ c.loop-name.invariant.1 (front_then _ _ _ _ c.in_ok-write_cstr.ensures.1 (front_left _ _ c.in_err-write_cstr-2.ensures.1)))

pub returns-clause-cause : goal.returns-clause-cause
returns-clause-cause g c =
    let i = c.loop-name.invariant in
    let pairs = flat_map pair (map (shown_by g.T.Text.shown) c.loop-name.yielded) in
    if_err_map c.put_u8.result _ _ (λ e memory.
    (c.loop-name.yielded, inr (record { before = c.loop-name.yielded; next = None; received = search rules; none = i.0; are = sym (append-nil c.loop-name.yielded) }), inl (memory.0, wants_then (g.B.Buffer.held c.args.buf.now) _ pairs 1 _ i.1 (omega (arith, length-append pairs (0 ∷ []))) memory.1)))
    c.put_u8.ensures.cause
