use Rattle.pgp_frontend.proofs.Common.{arith, refl, sym, ◌≡◌, [], ◌∷◌, inl, inr, ap, ◌∙◌, ◌⊕◌, uint32, int16, nullable, if_err_at, nothing_more, wants_here, wants_more, wants_same, wants_then, counted_length, Text, Int16s, Values, joined}
use Rattle.pgp_frontend.proofs.Needs.{framed_length, bind_length, joined_more, framed_wants}
use Rattle.pgp_frontend.proofs.Fields.{cause_more, cause_here, cause_front}
use Rattle.pgp_frontend.proofs.Texts.{part_more}
use Rattle.pgp_frontend.proofs.extended.fill_formats.Goals as goal

pub returns-in_err-put_fields-clause-cause : goal.returns-in_err-put_fields-clause-cause
returns-in_err-put_fields-clause-cause g c =
    if_err_at _ _ _ c.from_residual-in_err-put_fields.ensures.1
    (elim c.in_err-put_fields.ensures.cause [
      | inl memory ↦
          let texts = Text c.args.portal.now ∷ Text c.args.statement.now ∷ [] in
          let place = c.in_ok-put_u32.ensures.ok ∙ ap (λ held. held ⊕ uint32 0) (c.in_ok-put_u8.ensures.ok ∙ ap (λ held. held ⊕ 66 ∷ []) c.in_ok-reserve.ensures.same) in
          ([], inl refl, inl (memory.0, framed_wants 66 [] (g.B.Buffer.held c.args.buf.now) _ _ _ (place ∙ sym (nothing_more (g.B.Buffer.held c.args.buf.now ⊕ 66 ∷ [] ⊕ uint32 0))) (omega (arith, bind_length c.args.portal.now c.args.statement.now [] [] [], joined_more texts (Int16s []), counted_length int16 [], counted_length nullable [])) memory.1))
      | inr refused ↦ (
        [],
        inl refl,
        inr (cause_front (Text c.args.portal.now ∷ Text c.args.statement.now ∷ []) (Int16s [] ∷ Values [] ∷ Int16s [] ∷ []) _ refused),
      )
    ])

pub returns-in_err-put_int16s-clause-cause : goal.returns-in_err-put_int16s-clause-cause
returns-in_err-put_int16s-clause-cause g c =
    let none = c.in_ok-put_fields.ensures.ok.0 in
    if_err_at _ _ _ c.from_residual-in_err-put_int16s.ensures.1
    (let k = c.in_err-put_int16s.ensures.cause in
    let texts = Text c.args.portal.now ∷ Text c.args.statement.now ∷ [] in (
      k.0,
      k.1,
      elim k.2 [
        | inl memory ↦
            let place = c.in_ok-put_u32.ensures.ok ∙ ap (λ held. held ⊕ uint32 0) (c.in_ok-put_u8.ensures.ok ∙ ap (λ held. held ⊕ 66 ∷ []) c.in_ok-reserve.ensures.same) in
            let held = c.in_ok-put_fields.ensures.ok.1 in
            inl (memory.0, framed_wants 66 texts (g.B.Buffer.held c.args.buf.now) _ _ _ (held ∙ ap (λ held. held ⊕ joined texts) place) (omega (arith, bind_length c.args.portal.now c.args.statement.now k.0 [] [], joined_more texts (Int16s k.0))) memory.1)
        | inr past ↦ inr (cause_here texts (Int16s k.0) (Values [] ∷ Int16s [] ∷ []) _ none past)
      ],
    ))

pub returns-clause-ok : goal.returns-clause-ok
returns-clause-ok g c =
    let k = c.in_ok-put_int16s.ensures.ok in
    let old = g.B.Buffer.held c.args.buf.now in
    let texts = Text c.args.portal.now ∷ Text c.args.statement.now ∷ [] in
    let none = c.in_ok-put_fields.ensures.ok.0 in
    let held = c.in_ok-put_fields.ensures.ok.1 in
    let tag : g.B.Buffer.held c.put_u8.new.buf ≡ old ⊕ 66 ∷ [] = c.in_ok-put_u8.ensures.ok ∙ ap (λ held. held ⊕ 66 ∷ []) c.in_ok-reserve.ensures.same in
    let place : g.B.Buffer.held c.put_u32.new.buf ≡ old ⊕ 66 ∷ [] ⊕ uint32 0 = c.in_ok-put_u32.ensures.ok ∙ ap (λ held. held ⊕ uint32 0) tag in
    (k.0, k.1, k.2, cause_more texts (Int16s k.0) none k.3, part_more texts (Int16s k.0) _ _ _ held k.4 ∙ ap (λ held. held ⊕ joined (Text c.args.portal.now ∷ Text c.args.statement.now ∷ Int16s k.0 ∷ [])) place)

pub returns-in_err-reserve-clause-cause : goal.returns-in_err-reserve-clause-cause
returns-in_err-reserve-clause-cause g c =
    let texts = Text c.args.portal.now ∷ Text c.args.statement.now ∷ [] in
    let fits = c.room.ensures.needed in
    if_err_at _ _ _ c.from_residual.ensures.1
    ([], inl refl, inl (refl, wants_here (g.B.Buffer.held c.args.buf.now) _ _ c.in_err-reserve.ensures.lacks (omega (arith, fits, framed_length (joined texts), bind_length c.args.portal.now c.args.statement.now [] [] [], joined_more texts (Int16s []), counted_length int16 [], counted_length nullable []))))

pub returns-in_err-put_u8-clause-cause : goal.returns-in_err-put_u8-clause-cause
returns-in_err-put_u8-clause-cause g c =
    let texts = Text c.args.portal.now ∷ Text c.args.statement.now ∷ [] in
    let memory = c.in_err-put_u8.ensures.cause in
    if_err_at _ _ _ c.from_residual-in_err-put_u8.ensures.1
    ([], inl refl, inl (memory.0, wants_same _ _ _ c.in_ok-reserve.ensures.same (wants_more _ 1 _ (omega (arith, bind_length c.args.portal.now c.args.statement.now [] [] [], joined_more texts (Int16s []), counted_length int16 [], counted_length nullable [])) memory.1)))

pub returns-in_err-put_u32-clause-cause : goal.returns-in_err-put_u32-clause-cause
returns-in_err-put_u32-clause-cause g c =
    let texts = Text c.args.portal.now ∷ Text c.args.statement.now ∷ [] in
    let memory = c.in_err-put_u32.ensures.cause in
    let stands = c.in_ok-put_u8.ensures.ok ∙ ap (λ held. held ⊕ 66 ∷ []) c.in_ok-reserve.ensures.same in
    if_err_at _ _ _ c.from_residual-in_err-put_u32.ensures.1
    ([], inl refl, inl (memory.0, wants_then (g.B.Buffer.held c.args.buf.now) _ (66 ∷ []) 4 _ stands (omega (arith, bind_length c.args.portal.now c.args.statement.now [] [] [], joined_more texts (Int16s []), counted_length int16 [], counted_length nullable [])) memory.1))
