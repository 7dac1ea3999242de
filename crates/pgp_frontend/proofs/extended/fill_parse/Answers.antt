use Rattle.pgp_frontend.proofs.Common.{arith, sym, [], ◌∷◌, ◌++◌, refl, inl, inr, ap, ◌∙◌, ◌⊕◌, uint32, oid, if_err_at, nothing_more, wants_here, wants_more, wants_same, wants_then, counted_length, Parse, Text, Oids, joined}
use Rattle.pgp_frontend.proofs.Needs.{framed_length, parse_length, framed_wants}
use Rattle.pgp_frontend.proofs.Fields.{cause_more, cause_here, cause_front}
use Rattle.pgp_frontend.proofs.Frames.{frame_room, frame_done, frame_fits, frame_passes, tagged}
use Rattle.pgp_frontend.proofs.Texts.{part_more}
use Rattle.pgp_frontend.proofs.extended.fill_parse.Goals as goal

pub returns-in_err-put_fields-clause-cause : goal.returns-in_err-put_fields-clause-cause
returns-in_err-put_fields-clause-cause g c =
    if_err_at _ _ _ c.from_residual-in_err-put_fields.ensures.1
    (elim c.in_err-put_fields.ensures.cause [
      | inl memory ↦
          let texts = Text c.args.name.now ∷ Text c.args.query.now ∷ [] in
          let place = c.in_ok-put_u32.ensures.ok ∙ ap (λ held. held ⊕ uint32 0) (c.in_ok-put_u8.ensures.ok ∙ ap (λ held. held ⊕ 80 ∷ []) c.in_ok-reserve.ensures.same) in
          inl (Parse c.args.name.now c.args.query.now [], ([], inl refl, refl), inl (memory.0, framed_wants 80 [] (g.B.Buffer.held c.args.buf.now) _ _ _ (place ∙ sym (nothing_more (g.B.Buffer.held c.args.buf.now ⊕ 80 ∷ [] ⊕ uint32 0))) (omega (arith, parse_length c.args.name.now c.args.query.now [], counted_length oid [])) memory.1))
      | inr refused ↦ inl (
        Parse c.args.name.now c.args.query.now [],
        ([], inl refl, refl),
        inr (cause_front (Text c.args.name.now ∷ Text c.args.query.now ∷ []) (Oids [] ∷ []) _ refused),
      )
    ])

pub returns-in_err-put_oids-clause-cause : goal.returns-in_err-put_oids-clause-cause
returns-in_err-put_oids-clause-cause g c =
    let none = c.in_ok-put_fields.ensures.ok.0 in
    if_err_at _ _ _ c.from_residual-in_err-put_oids.ensures.1
    (let k = c.in_err-put_oids.ensures.cause in
    let texts = Text c.args.name.now ∷ Text c.args.query.now ∷ [] in
    inl (
      Parse c.args.name.now c.args.query.now k.0,
      (k.0, k.1, refl),
      elim k.2 [
        | inl memory ↦
            let place = c.in_ok-put_u32.ensures.ok ∙ ap (λ held. held ⊕ uint32 0) (c.in_ok-put_u8.ensures.ok ∙ ap (λ held. held ⊕ 80 ∷ []) c.in_ok-reserve.ensures.same) in
            let held = c.in_ok-put_fields.ensures.ok.1 in
            inl (memory.0, framed_wants 80 texts (g.B.Buffer.held c.args.buf.now) _ _ _ (held ∙ ap (λ held. held ⊕ joined texts) place) (omega (arith, parse_length c.args.name.now c.args.query.now k.0)) memory.1)
        | inr past ↦ inr (cause_here texts (Oids k.0) [] _ none past)
      ],
    ))

pub finish_body-requires : goal.finish_body-requires
finish_body-requires g c =
    let k = c.in_ok-put_oids.ensures.ok in
    let held = part_more (Text c.args.name.now ∷ Text c.args.query.now ∷ []) (Oids k.0) _ _ _ c.in_ok-put_fields.ensures.ok.1 k.4 in
    frame_room (Text c.args.name.now ∷ Text c.args.query.now ∷ Oids k.0 ∷ []) (g.B.Buffer.held c.put_u8.new.buf) _ _ _ c.in_ok-put_u32.ensures.ok held c.len-base.ensures.value

pub returns-in_err-finish_body-clause-cause : goal.returns-in_err-finish_body-clause-cause
returns-in_err-finish_body-clause-cause g c =
    let k = c.in_ok-put_oids.ensures.ok in
    let texts = Text c.args.name.now ∷ Text c.args.query.now ∷ [] in
    let none = c.in_ok-put_fields.ensures.ok.0 in
    let held = c.in_ok-put_fields.ensures.ok.1 in
    let all = part_more texts (Oids k.0) _ _ _ held k.4 in
    let clean = cause_more texts (Oids k.0) none k.3 in
    if_err_at _ _ _ c.from_residual-in_err-finish_body.ensures.1
    (inr (Parse c.args.name.now c.args.query.now k.0, (k.0, k.1, refl), clean, frame_passes (texts ++ Oids k.0 ∷ []) (g.B.Buffer.held c.put_u8.new.buf) _ _ _ c.in_ok-put_u32.ensures.ok all c.len-base.ensures.value _ clean c.in_err-finish_body.ensures.cause))

pub returns-clause-ok : goal.returns-clause-ok
returns-clause-ok g c =
    let k = c.in_ok-put_oids.ensures.ok in
    let texts = Text c.args.name.now ∷ Text c.args.query.now ∷ [] in
    let none = c.in_ok-put_fields.ensures.ok.0 in
    let held = c.in_ok-put_fields.ensures.ok.1 in
    let all = part_more texts (Oids k.0) _ _ _ held k.4 in
    let clean = cause_more texts (Oids k.0) none k.3 in
    let w = c.in_ok-finish_body.ensures in
    record {
      message = Parse c.args.name.now c.args.query.now k.0;
      whole = (k.0, k.1, refl);
      in_range = ((tt, (tt, (k.2, tt))), tt);
      none = frame_fits (texts ++ Oids k.0 ∷ []) (g.B.Buffer.held c.put_u8.new.buf) _ _ _ c.in_ok-put_u32.ensures.ok all c.len-base.ensures.value clean w.fits;
      appended = tagged 80 _ (g.B.Buffer.held c.args.buf.now) _ _ (c.in_ok-put_u8.ensures.ok ∙ ap (λ held. held ⊕ 80 ∷ []) c.in_ok-reserve.ensures.same) (frame_done (texts ++ Oids k.0 ∷ []) (g.B.Buffer.held c.put_u8.new.buf) _ _ _ c.in_ok-put_u32.ensures.ok all c.len-base.ensures.value _ w.ok);
    }

pub returns-in_err-reserve-clause-cause : goal.returns-in_err-reserve-clause-cause
returns-in_err-reserve-clause-cause g c =
    let texts = Text c.args.name.now ∷ Text c.args.query.now ∷ [] in
    let fits = c.room.ensures.needed in
    if_err_at _ _ _ c.from_residual.ensures.1
    (inl (Parse c.args.name.now c.args.query.now [], ([], inl refl, refl), inl (refl, wants_here (g.B.Buffer.held c.args.buf.now) _ _ c.in_err-reserve.ensures.lacks (omega (arith, fits, framed_length (joined texts), parse_length c.args.name.now c.args.query.now [], counted_length oid [])))))

pub returns-in_err-put_u8-clause-cause : goal.returns-in_err-put_u8-clause-cause
returns-in_err-put_u8-clause-cause g c =
    let texts = Text c.args.name.now ∷ Text c.args.query.now ∷ [] in
    let memory = c.in_err-put_u8.ensures.cause in
    if_err_at _ _ _ c.from_residual-in_err-put_u8.ensures.1
    (inl (Parse c.args.name.now c.args.query.now [], ([], inl refl, refl), inl (memory.0, wants_same _ _ _ c.in_ok-reserve.ensures.same (wants_more _ 1 _ (omega (arith, parse_length c.args.name.now c.args.query.now [], counted_length oid [])) memory.1))))

pub returns-in_err-put_u32-clause-cause : goal.returns-in_err-put_u32-clause-cause
returns-in_err-put_u32-clause-cause g c =
    let texts = Text c.args.name.now ∷ Text c.args.query.now ∷ [] in
    let memory = c.in_err-put_u32.ensures.cause in
    let stands = c.in_ok-put_u8.ensures.ok ∙ ap (λ held. held ⊕ 80 ∷ []) c.in_ok-reserve.ensures.same in
    if_err_at _ _ _ c.from_residual-in_err-put_u32.ensures.1
    (inl (Parse c.args.name.now c.args.query.now [], ([], inl refl, refl), inl (memory.0, wants_then (g.B.Buffer.held c.args.buf.now) _ (80 ∷ []) 4 _ stands (omega (arith, parse_length c.args.name.now c.args.query.now [], counted_length oid [])) memory.1)))
