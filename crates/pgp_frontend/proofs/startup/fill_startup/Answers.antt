use Rattle.pgp_frontend.proofs.Common.{arith, ◌+◌, length, [], ◌∷◌, refl, inl, inr, map, FitsSigned, w32, if_err_at, length-uint32, wants_more, wants_then, uint32, int32, Startup, shown_by, Int32, Pairs, minor_of, version_code, spelling, length-int32}
use Rattle.pgp_frontend.proofs.Needs.{startup_length, minor_fits, minor_small}
use Rattle.pgp_frontend.proofs.Fields.{cause_more, cause_here}
use Rattle.pgp_frontend.proofs.Frames.{frame_room, frame_done, frame_fits, frame_passes}
use Rattle.pgp_frontend.proofs.Texts.{part_more, first_part}
use Rattle.pgp_frontend.proofs.startup.fill_startup.Goals as goal

pub returns-in_err-put_pairs-clause-cause : goal.returns-in_err-put_pairs-clause-cause
returns-in_err-put_pairs-clause-cause g c =
    if_err_at _ _ _ c.from_residual-in_err-put_pairs.ensures.1
    (let k = c.in_err-put_pairs.ensures.cause in
    inl (
      Startup (minor_of c.args.version) (map (shown_by g.T.Text.shown) k.0),
      (k.0, k.1, refl),
      elim k.2 [
        | inl memory ↦ inl (
          memory.0,
          wants_then (g.B.Buffer.held c.args.buf.now) _ (uint32 0) _ _ c.in_ok-put_u32.ensures.ok (omega (arith, startup_length (minor_of c.args.version) (map (shown_by g.T.Text.shown) k.0), length-uint32 0))
              (wants_then _ _ (int32 (version_code c.args.version)) _ (4 + length (spelling (Pairs (map (shown_by g.T.Text.shown) k.0)))) c.in_ok-put_version.ensures.ok (omega (arith, length-int32 (version_code c.args.version))) memory.1),
        )
        | inr refused ↦ inr (cause_here (Int32 (version_code c.args.version) ∷ []) (Pairs (map (shown_by g.T.Text.shown) k.0)) [] _ refl refused)
      ],
    ))

pub finish_body-requires : goal.finish_body-requires
finish_body-requires g c =
    let k = c.in_ok-put_pairs.ensures.ok in
    let all = part_more (Int32 (version_code c.args.version) ∷ []) (Pairs (map (shown_by g.T.Text.shown) k.0)) _ _ _ (first_part (Int32 (version_code c.args.version)) _ _ c.in_ok-put_version.ensures.ok) k.3 in
    frame_room (Int32 (version_code c.args.version) ∷ Pairs (map (shown_by g.T.Text.shown) k.0) ∷ []) (g.B.Buffer.held c.args.buf.now) _ _ _ c.in_ok-put_u32.ensures.ok all c.len-base.ensures.value

pub returns-in_err-finish_body-clause-cause : goal.returns-in_err-finish_body-clause-cause
returns-in_err-finish_body-clause-cause g c =
    let k = c.in_ok-put_pairs.ensures.ok in
    let all = part_more (Int32 (version_code c.args.version) ∷ []) (Pairs (map (shown_by g.T.Text.shown) k.0)) _ _ _ (first_part (Int32 (version_code c.args.version)) _ _ c.in_ok-put_version.ensures.ok) k.3 in
    let clean = cause_more (Int32 (version_code c.args.version) ∷ []) (Pairs (map (shown_by g.T.Text.shown) k.0)) refl k.2 in
    if_err_at _ _ _ c.from_residual-in_err-finish_body.ensures.1
    (inr (Startup (minor_of c.args.version) (map (shown_by g.T.Text.shown) k.0), (k.0, k.1, refl), clean, frame_passes (Int32 (version_code c.args.version) ∷ Pairs (map (shown_by g.T.Text.shown) k.0) ∷ []) (g.B.Buffer.held c.args.buf.now) _ _ _ c.in_ok-put_u32.ensures.ok all c.len-base.ensures.value _ clean c.in_err-finish_body.ensures.cause))

pub returns-clause-ok : goal.returns-clause-ok
returns-clause-ok g c =
    let k = c.in_ok-put_pairs.ensures.ok in
    let all = part_more (Int32 (version_code c.args.version) ∷ []) (Pairs (map (shown_by g.T.Text.shown) k.0)) _ _ _ (first_part (Int32 (version_code c.args.version)) _ _ c.in_ok-put_version.ensures.ok) k.3 in
    let clean = cause_more (Int32 (version_code c.args.version) ∷ []) (Pairs (map (shown_by g.T.Text.shown) k.0)) refl k.2 in
    let w = c.in_ok-finish_body.ensures in
    let version : FitsSigned w32 (version_code c.args.version) = minor_fits (minor_of c.args.version) (minor_small c.args.version) in
    record {
      message = Startup (minor_of c.args.version) (map (shown_by g.T.Text.shown) k.0);
      whole = (k.0, k.1, refl);
      in_range = ((version, (tt, tt)), minor_small c.args.version);
      none = frame_fits (Int32 (version_code c.args.version) ∷ Pairs (map (shown_by g.T.Text.shown) k.0) ∷ []) (g.B.Buffer.held c.args.buf.now) _ _ _ c.in_ok-put_u32.ensures.ok all c.len-base.ensures.value clean w.fits;
      appended = frame_done (Int32 (version_code c.args.version) ∷ Pairs (map (shown_by g.T.Text.shown) k.0) ∷ []) (g.B.Buffer.held c.args.buf.now) _ _ _ c.in_ok-put_u32.ensures.ok all c.len-base.ensures.value _ w.ok;
    }

pub returns-in_err-put_u32-clause-cause : goal.returns-in_err-put_u32-clause-cause
returns-in_err-put_u32-clause-cause g c =
    let memory = c.in_err-put_u32.ensures.cause in
    if_err_at _ _ _ c.from_residual.ensures.1 (inl (Startup (minor_of c.args.version) [], ([], inl refl, refl), inl (memory.0, wants_more _ 4 _ (omega (arith, startup_length (minor_of c.args.version) [])) memory.1)))

pub returns-in_err-put_version-clause-cause : goal.returns-in_err-put_version-clause-cause
returns-in_err-put_version-clause-cause g c =
    let memory = c.in_err-put_version.ensures.cause in
    if_err_at _ _ _ c.from_residual-in_err-put_version.ensures.1
    (inl (Startup (minor_of c.args.version) [], ([], inl refl, refl), inl (memory.0, wants_then (g.B.Buffer.held c.args.buf.now) _ (uint32 0) _ _ c.in_ok-put_u32.ensures.ok (omega (arith, startup_length (minor_of c.args.version) [], length-uint32 0, length-int32 (version_code c.args.version))) memory.1)))
