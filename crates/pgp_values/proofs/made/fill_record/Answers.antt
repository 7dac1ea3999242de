use Rattle.pgp_values.proofs.Common.{rules, [], ◌∷◌, ◌++◌, ◌≡◌, ◌∙◌, length, refl, sym, inl, inr, arith, length-append, flat_map, ◌⊕◌, uint32, more_parts, nothing_more, Runs-snoc, Runs-length, sized4, counted_up4, Field, MakesField}
use Rattle.pgp_values.specs.Record.{field as composite_field}
use Rattle.pgp_values.proofs.RecordLemmas.{record_fits, refused_here}
use Rattle.pgp_values.proofs.made.fill_record.Goals as goal

pub loop-field-init : goal.loop-field-init
loop-field-init g c =
    (c.requires.callable, refl, omega arith, ([], refl, c.in_ok-put_u32.ensures.ok ∙ sym (nothing_more (g.B.Buffer.held c.args.buf.now ⊕ uint32 0))))

pub loop-field-preserved : goal.loop-field-preserved
loop-field-preserved g c =
    let i = c.loop-field.invariant in
    let k = c.in-Ok.ensures.ok in
    let v : Field = (c.in-Some.field.0, k.0) in
    let here = g.B.Buffer.held c.args.buf.now ⊕ uint32 0 in (
      c.in-Ok.ensures.callable,
      omega (arith, length-append c.loop-field.yielded (c.in-Some.field ∷ [])),
      omega arith,
      (i.3.0 ++ v ∷ [], Runs-snoc (MakesField g.B.Buffer.held (goal.F-step g)) composite_field.written here _ _ _ _ _ _ _ _ i.3.1 i.3.2 (refl, k.1), more_parts composite_field.written here _ _ i.3.0 v i.3.2 k.2),
    )

pub returns-then-count-eq-MOST_ITEMS-clause-cause : goal.returns-then-count-eq-MOST_ITEMS-clause-cause
returns-then-count-eq-MOST_ITEMS-clause-cause g c =
    let i = c.loop-field.invariant in
    inr (record {
      xs = c.loop-field.yielded;
      x = c.in-Some.field;
      reached = search rules;
      fields = i.3.0;
      at = c.loop-field.serializer;
      runs = i.3.1;
      cause = inl (omega (arith, i.1), refl, refl);
    })

pub returns-in-Err-clause-cause : goal.returns-in-Err-clause-cause
returns-in-Err-clause-cause g c =
    let i = c.loop-field.invariant in
    inr (record {
      xs = c.loop-field.yielded;
      x = c.in-Some.field;
      reached = search rules;
      fields = i.3.0;
      at = c.loop-field.serializer;
      runs = i.3.1;
      cause = inr (omega (arith, i.1), refused_here g.B.Buffer.held (goal.F-step g) g.B.Buffer.Lacks _ _ c.loop-field.serializer c.in-Some.field _ _ i.3.2 c.in-Err.ensures.cause);
    })

pub patch_u32-requires : goal.patch_u32-requires
patch_u32-requires g c =
    omega (arith, c.len-base.ensures.value, sized4 (g.B.Buffer.held c.args.buf.now) _ _ _ refl c.loop-field.invariant.3.2)

pub returns-clause-ok : goal.returns-clause-ok
returns-clause-ok g c =
    let i = c.loop-field.invariant in
    let held = g.B.Buffer.held in
    let here = held c.args.buf.now ⊕ uint32 0 in
    let n : c.loop-field.count ≡ length i.3.0 = i.1 ∙ Runs-length (MakesField held (goal.F-step g)) composite_field.written here _ _ _ _ i.3.1 in
    record {
      xs = c.loop-field.yielded;
      all = search rules;
      fields = i.3.0;
      runs = i.3.1;
      fits = record_fits held (goal.F-step g) here _ _ i.3.0 _ i.3.1 (omega (arith, i.1));
      appended = counted_up4 (held c.args.buf.now) (flat_map composite_field.written i.3.0) _ _ _ _ _ i.3.2 c.len-base.ensures.value n c.patch_u32.ensures;
    }
