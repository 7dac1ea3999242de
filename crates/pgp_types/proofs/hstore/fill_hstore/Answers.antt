use Rattle.pgp_types.proofs.Common.{rules, Bor, List, Option, ℕ, ◌+◌, ◌++◌, ap, ◌∙◌, Some, ◌≡◌, [], ◌∷◌, length, refl, inl, inr, arith, length-append, flat_map, length-map, map-append, ◌⊕◌, uint32, nullable, length-uint32, wants_more, wants_then, sized4, if_err_at, on_err, front_twice, front_then, front_trans, entry_bytes, shown_entry, shown_entries, flat_more}
use Rattle.pgp_types.proofs.Appending.{counted_up4}
use Rattle.pgp_types.proofs.HstoreLemmas.{entries_fit, entries_pass, key_stops, value_stops, entries_more, entries_held}
use Rattle.pgp_types.proofs.hstore.fill_hstore.Goals as goal

pub returns-then-count-eq-MOST_ITEMS-clause-err : goal.returns-then-count-eq-MOST_ITEMS-clause-err
returns-then-count-eq-MOST_ITEMS-clause-err g c = front_twice (g.B.Buffer.held c.args.buf.now) _ _ _ _ refl c.loop-key.invariant.3

pub returns-then-count-eq-MOST_ITEMS-clause-cause : goal.returns-then-count-eq-MOST_ITEMS-clause-cause
returns-then-count-eq-MOST_ITEMS-clause-cause g c =
    let i = c.loop-key.invariant in
    inr (record {
      before = c.loop-key.yielded;
      last = (c.in-Some.key, c.in-Some.value);
      reached = search rules;
      fits = entries_fit c.loop-key.yielded (omega arith) i.2;
      passes = entries_pass c.loop-key.yielded (c.in-Some.key, c.in-Some.value) (omega arith);
    })

pub returns-in_err-put_nullable-clause-err : goal.returns-in_err-put_nullable-clause-err
returns-in_err-put_nullable-clause-err g c =
    on_err _ _ (front_trans _ _ _ (front_twice (g.B.Buffer.held c.args.buf.now) _ _ _ _ refl c.loop-key.invariant.3) c.in_err-put_nullable.ensures.err)

pub returns-in_err-put_nullable-2-clause-err : goal.returns-in_err-put_nullable-2-clause-err
returns-in_err-put_nullable-2-clause-err g c =
    on_err _ _ (front_trans _ _ _ (front_twice (g.B.Buffer.held c.args.buf.now) _ _ _ _ refl c.loop-key.invariant.3) (front_then _ _ _ _ c.in_ok-put_nullable.ensures.ok.1 c.in_err-put_nullable-2.ensures.err))

pub returns-in_err-put_nullable-clause-cause : goal.returns-in_err-put_nullable-clause-cause
returns-in_err-put_nullable-clause-cause g c =
    let i = c.loop-key.invariant in
    if_err_at _ _ _ c.from_residual-in_err-put_nullable.ensures.1
    (elim c.in_err-put_nullable.ensures.cause [
      | inl memory ↦
          let x : Bor (List ℕ) × Option (Bor (List ℕ)) = (c.in-Some.key, c.in-Some.value) in
          let items = c.loop-key.yielded ++ x ∷ [] in
          let front = flat_map entry_bytes (shown_entries c.loop-key.yielded) in
          let k = nullable (Some (shown_entry x).0) in
          let v = nullable (shown_entry x).1 in
          let all : length (flat_map entry_bytes (shown_entries items)) ≡ length front + length (k ++ v) = ap (λ es. length (flat_map entry_bytes es)) (map-append shown_entry c.loop-key.yielded (x ∷ [])) ∙ flat_more entry_bytes (shown_entries c.loop-key.yielded) (shown_entry x) in
          let n = length (shown_entries items) in
          let need = length front + length k + length v in
          inl (
            memory.0,
            (
              items,
              inr (record { before = c.loop-key.yielded; next = Some x; received = search rules; are = refl }),
              wants_then (g.B.Buffer.held c.args.buf.now) (g.B.Buffer.held c.args.buf.now ⊕ uint32 0) (uint32 0) need _ refl (omega (arith, all, length-append k v, length-uint32 0, length-uint32 n, length-append (uint32 n) (flat_map entry_bytes (shown_entries items))))
                  (wants_then (g.B.Buffer.held c.args.buf.now ⊕ uint32 0) _ front (length k) need c.loop-key.invariant.3 (omega arith) memory.1),
            ),
          )
      | inr cause ↦ inr (record {
        before = c.loop-key.yielded;
        last = (c.in-Some.key, c.in-Some.value);
        reached = search rules;
        fits = entries_fit c.loop-key.yielded (omega arith) i.2;
        passes = key_stops c.loop-key.yielded (c.in-Some.key, c.in-Some.value) _ (omega arith) i.2 cause;
      })
    ])

pub returns-in_err-put_nullable-2-clause-cause : goal.returns-in_err-put_nullable-2-clause-cause
returns-in_err-put_nullable-2-clause-cause g c =
    let i = c.loop-key.invariant in
    if_err_at _ _ _ c.from_residual-in_err-put_nullable-2.ensures.1
    (elim c.in_err-put_nullable-2.ensures.cause [
      | inl memory ↦
          let x : Bor (List ℕ) × Option (Bor (List ℕ)) = (c.in-Some.key, c.in-Some.value) in
          let items = c.loop-key.yielded ++ x ∷ [] in
          let front = flat_map entry_bytes (shown_entries c.loop-key.yielded) in
          let k = nullable (Some (shown_entry x).0) in
          let v = nullable (shown_entry x).1 in
          let all : length (flat_map entry_bytes (shown_entries items)) ≡ length front + length (k ++ v) = ap (λ es. length (flat_map entry_bytes es)) (map-append shown_entry c.loop-key.yielded (x ∷ [])) ∙ flat_more entry_bytes (shown_entries c.loop-key.yielded) (shown_entry x) in
          let n = length (shown_entries items) in
          let need = length front + length k + length v in
          inl (
            memory.0,
            (
              items,
              inr (record { before = c.loop-key.yielded; next = Some x; received = search rules; are = refl }),
              wants_then (g.B.Buffer.held c.args.buf.now) (g.B.Buffer.held c.args.buf.now ⊕ uint32 0) (uint32 0) need _ refl (omega (arith, all, length-append k v, length-uint32 0, length-uint32 n, length-append (uint32 n) (flat_map entry_bytes (shown_entries items))))
                  (wants_then (g.B.Buffer.held c.args.buf.now ⊕ uint32 0) _ front (length k + length v) need c.loop-key.invariant.3 (omega arith) (wants_then _ _ k (length v) _ c.in_ok-put_nullable.ensures.ok.1 (omega arith) memory.1)),
            ),
          )
      | inr cause ↦ inr (record {
        before = c.loop-key.yielded;
        last = (c.in-Some.key, c.in-Some.value);
        reached = search rules;
        fits = entries_fit c.loop-key.yielded (omega arith) i.2;
        passes = value_stops c.loop-key.yielded (c.in-Some.key, c.in-Some.value) _ (omega arith) i.2 c.in_ok-put_nullable.ensures.ok.0 cause;
      })
    ])

pub loop-key-preserved : goal.loop-key-preserved
loop-key-preserved g c =
    let i = c.loop-key.invariant in
    let k = c.in_ok-put_nullable.ensures.ok in
    let v = c.in_ok-put_nullable-2.ensures.ok in (
      omega (arith, length-append c.loop-key.yielded ((c.in-Some.key, c.in-Some.value) ∷ [])),
      omega arith,
      entries_more c.loop-key.yielded (c.in-Some.key, c.in-Some.value) i.2 k.0 v.0,
      entries_held c.loop-key.yielded (c.in-Some.key, c.in-Some.value) (g.B.Buffer.held c.args.buf.now ⊕ uint32 0) _ _ _ i.3 k.1 v.1,
    )

pub patch_u32-requires : goal.patch_u32-requires
patch_u32-requires g c =
    omega (arith, c.len-base.ensures.value, sized4 (g.B.Buffer.held c.args.buf.now) _ _ _ refl c.loop-key.invariant.3)

pub returns-clause-ok : goal.returns-clause-ok
returns-clause-ok g c =
    let i = c.loop-key.invariant in
    let n : c.loop-key.count ≡ length (shown_entries c.loop-key.yielded) = omega (arith, i.0, length-map c.loop-key.yielded shown_entry) in
    record {
      items = c.loop-key.yielded;
      all = search rules;
      fits = entries_fit c.loop-key.yielded (omega arith) i.2;
      appended = counted_up4 (g.B.Buffer.held c.args.buf.now) (flat_map entry_bytes (shown_entries c.loop-key.yielded)) _ _ _ _ _ i.3 c.len-base.ensures.value n c.patch_u32.ensures;
    }

pub returns-in_err-put_u32-clause-cause : goal.returns-in_err-put_u32-clause-cause
returns-in_err-put_u32-clause-cause g c =
    let memory = c.in_err-put_u32.ensures.cause in
    if_err_at _ _ _ c.from_residual.ensures.1 (inl (memory.0, ([], inl refl, wants_more (g.B.Buffer.held c.args.buf.now) 4 _ (omega (arith, length-append (uint32 0) [], length-uint32 0)) memory.1)))
