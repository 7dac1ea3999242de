use Rattle.pgp_values.proofs.Common.{rules, ◌+◌, ◌++◌, map, ap, ◌∙◌, Some, ◌≡◌, [], ◌∷◌, length, refl, inl, inr, arith, length-append, flat_map, length-map, map-append, ◌⊕◌, uint32, length-uint32, wants_more, wants_then, sized4, if_err_at, front_twice, front_trans, flat_more, counted_up4}
use Rattle.pgp_values.proofs.ListLemmas.{items_fit, items_pass, item_stops, items_more, items_held}
use Rattle.pgp_values.proofs.list.fill_list.Goals as goal

pub returns-then-count-eq-MOST_ITEMS-clause-err : goal.returns-then-count-eq-MOST_ITEMS-clause-err
returns-then-count-eq-MOST_ITEMS-clause-err g c = front_twice (g.B.Buffer.held c.args.buf.now) _ _ _ _ refl c.loop-item.invariant.3

pub returns-then-count-eq-MOST_ITEMS-clause-cause : goal.returns-then-count-eq-MOST_ITEMS-clause-cause
returns-then-count-eq-MOST_ITEMS-clause-cause g c =
    let i = c.loop-item.invariant in
    inr (record {
      before = c.loop-item.yielded;
      last = c.in-Some.item;
      reached = search rules;
      fits = items_fit g.T.PutItem.item g.T.PutItem.meaning c.loop-item.yielded (omega arith) i.2;
      passes = items_pass g.T.PutItem.item g.T.PutItem.meaning c.loop-item.yielded c.in-Some.item (omega arith);
    })

pub returns-in-Err-clause-err : goal.returns-in-Err-clause-err
returns-in-Err-clause-err g c =
    front_trans _ _ _ (front_twice (g.B.Buffer.held c.args.buf.now) _ _ _ _ refl c.loop-item.invariant.3) c.in-Err.ensures.err

pub returns-in-Err-clause-cause : goal.returns-in-Err-clause-cause
returns-in-Err-clause-cause g c =
    let i = c.loop-item.invariant in
    let written = g.T.PutItem.item.written in
    let meaning = g.T.PutItem.meaning in
    elim c.in-Err.ensures.why [
      | inl memory ↦
          let x = c.in-Some.item in
          let items = c.loop-item.yielded ++ x ∷ [] in
          let front = flat_map written (map meaning c.loop-item.yielded) in
          let all : length (flat_map written (map meaning items)) ≡ length front + length (written (meaning x)) = ap (λ es. length (flat_map written es)) (map-append meaning c.loop-item.yielded (x ∷ [])) ∙ flat_more written (map meaning c.loop-item.yielded) (meaning x) in
          let n = length (map meaning items) in
          let need = length front + length (written (meaning x)) in
          inl (
            memory.0,
            (
              items,
              inr (record { before = c.loop-item.yielded; next = Some x; received = search rules; are = refl }),
              wants_then (g.B.Buffer.held c.args.buf.now) (g.B.Buffer.held c.args.buf.now ⊕ uint32 0) (uint32 0) need _ refl (omega (arith, all, length-uint32 0, length-uint32 n, length-append (uint32 n) (flat_map written (map meaning items))))
                  (wants_then (g.B.Buffer.held c.args.buf.now ⊕ uint32 0) _ front (length (written (meaning x))) need c.loop-item.invariant.3 (omega arith) memory.1),
            ),
          )
      | inr cause ↦ inr (record {
        before = c.loop-item.yielded;
        last = c.in-Some.item;
        reached = search rules;
        fits = items_fit g.T.PutItem.item g.T.PutItem.meaning c.loop-item.yielded (omega arith) i.2;
        passes = item_stops g.T.PutItem.item g.T.PutItem.meaning c.loop-item.yielded c.in-Some.item _ (omega arith) i.2 cause;
      })
    ]

pub loop-item-preserved : goal.loop-item-preserved
loop-item-preserved g c =
    let i = c.loop-item.invariant in
    let k = c.in-Ok.ensures.ok in (
      omega (arith, length-append c.loop-item.yielded (c.in-Some.item ∷ [])),
      omega arith,
      items_more g.T.PutItem.item g.T.PutItem.meaning c.loop-item.yielded c.in-Some.item i.2 k.0,
      items_held g.T.PutItem.item g.T.PutItem.meaning c.loop-item.yielded c.in-Some.item (g.B.Buffer.held c.args.buf.now ⊕ uint32 0) _ _ i.3 k.1,
    )

pub patch_u32-requires : goal.patch_u32-requires
patch_u32-requires g c =
    omega (arith, c.len-base.ensures.value, sized4 (g.B.Buffer.held c.args.buf.now) _ _ _ refl c.loop-item.invariant.3)

pub returns-clause-ok : goal.returns-clause-ok
returns-clause-ok g c =
    let i = c.loop-item.invariant in
    let n : c.loop-item.count ≡ length (map g.T.PutItem.meaning c.loop-item.yielded) = omega (arith, i.0, length-map c.loop-item.yielded g.T.PutItem.meaning) in
    record {
      items = c.loop-item.yielded;
      all = search rules;
      fits = items_fit g.T.PutItem.item g.T.PutItem.meaning c.loop-item.yielded (omega arith) i.2;
      appended = counted_up4 (g.B.Buffer.held c.args.buf.now) (flat_map g.T.PutItem.item.written (map g.T.PutItem.meaning c.loop-item.yielded)) _ _ _ _ _ i.3 c.len-base.ensures.value n c.patch_u32.ensures;
    }

pub returns-in_err-put_u32-clause-cause : goal.returns-in_err-put_u32-clause-cause
returns-in_err-put_u32-clause-cause g c =
    let memory = c.in_err-put_u32.ensures.cause in
    if_err_at _ _ _ c.from_residual.ensures.1 (inl (memory.0, ([], inl refl, wants_more (g.B.Buffer.held c.args.buf.now) 4 _ (omega (arith, length-append (uint32 0) [], length-uint32 0)) memory.1)))
