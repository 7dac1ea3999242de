use Rattle.pgp_frontend.proofs.Common.{arith, refl, ap, ◌⊕◌, uint16, if_err_at}
use Rattle.pgp_frontend.proofs.BindLemmas.{refused_at, served_at, formats_refused, values_refused, results_refused, bind_room, length_refused, bind_written}
use Rattle.pgp_frontend.proofs.extended.fill_bind.Goals as goal

pub returns-in_err-fill_formats-clause-cause : goal.returns-in_err-fill_formats-clause-cause
returns-in_err-fill_formats-clause-cause g c =
    if_err_at _ _ _ c.from_residual.ensures.1
    (formats_refused g.B.Buffer.held (goal.F-step g) _ _ _ _ _ _ c.args.portal.now c.args.statement.now c.args.formats c.args.values c.args.serializer.now _ c.args.result_formats (g.B.Buffer.held c.args.buf.now) g.B.Buffer.Lacks _ refl c.in_err-fill_formats.ensures.cause)

pub returns-in_err-put_values-clause-cause : goal.returns-in_err-put_values-clause-cause
returns-in_err-put_values-clause-cause g c =
    let k = c.in_ok-fill_formats.ensures.ok in
    if_err_at _ _ _ c.from_residual-in_err-put_values.ensures.1
    (values_refused g.B.Buffer.held (goal.F-step g) _ _ _ _ _ _ c.args.portal.now c.args.statement.now c.args.formats c.args.values c.args.serializer.now c.put_values.new.serializer c.args.result_formats (g.B.Buffer.held c.args.buf.now) g.B.Buffer.Lacks k.0 k.1 k.3 _ _ k.4
    (refused_at _ _ _ _ _ _ _ _ _ _ _ _ (ap (λ b. b ⊕ uint16 0) k.4) c.in_err-put_values.ensures.cause))

pub returns-in_err-put_int16s-clause-cause : goal.returns-in_err-put_int16s-clause-cause
returns-in_err-put_int16s-clause-cause g c =
    let k = c.in_ok-fill_formats.ensures.ok in
    let v = c.in_ok-put_values.ensures.ok in
    if_err_at _ _ _ c.from_residual-in_err-put_int16s.ensures.1
    (results_refused g.B.Buffer.held (goal.F-step g) _ _ _ _ _ _ c.args.portal.now c.args.statement.now c.args.formats c.args.values c.args.serializer.now c.put_values.new.serializer c.args.result_formats (g.B.Buffer.held c.args.buf.now) g.B.Buffer.Lacks k.0 k.1 k.3
    v.0 (served_at _ _ _ _ _ _ _ _ _ v.0 (ap (λ b. b ⊕ uint16 0) k.4) v.1) v.2 _ _ _ k.4 v.3 c.in_err-put_int16s.ensures.cause)

pub finish_body-requires : goal.finish_body-requires
finish_body-requires g c =
    let k = c.in_ok-fill_formats.ensures.ok in
    let v = c.in_ok-put_values.ensures.ok in
    let r = c.in_ok-put_int16s.ensures.ok in
    bind_room g.B.Buffer.held (goal.F-step g) _ _ _ _ _ _ c.args.portal.now c.args.statement.now c.args.formats c.args.values c.args.serializer.now c.put_values.new.serializer c.args.result_formats (g.B.Buffer.held c.args.buf.now) g.B.Buffer.Lacks k.0 k.1 k.3
    v.0 (served_at _ _ _ _ _ _ _ _ _ v.0 (ap (λ b. b ⊕ uint16 0) k.4) v.1) v.2 r.0 r.1 r.3 _ _ _ _ k.4 v.3 r.4 (omega (arith, c.len-base.ensures.value))

pub returns-in_err-finish_body-clause-cause : goal.returns-in_err-finish_body-clause-cause
returns-in_err-finish_body-clause-cause g c =
    let k = c.in_ok-fill_formats.ensures.ok in
    let v = c.in_ok-put_values.ensures.ok in
    let r = c.in_ok-put_int16s.ensures.ok in
    if_err_at _ _ _ c.from_residual-in_err-finish_body.ensures.1
    (length_refused g.B.Buffer.held (goal.F-step g) _ _ _ _ _ _ c.args.portal.now c.args.statement.now c.args.formats c.args.values c.args.serializer.now c.put_values.new.serializer c.args.result_formats (g.B.Buffer.held c.args.buf.now) g.B.Buffer.Lacks k.0 k.1 k.3
    v.0 (served_at _ _ _ _ _ _ _ _ _ v.0 (ap (λ b. b ⊕ uint16 0) k.4) v.1) v.2 r.0 r.1 r.3 _ _ _ _ k.4 v.3 r.4 (omega (arith, c.len-base.ensures.value)) _ c.in_err-finish_body.ensures.cause)

pub returns-clause-ok : goal.returns-clause-ok
returns-clause-ok g c =
    let k = c.in_ok-fill_formats.ensures.ok in
    let v = c.in_ok-put_values.ensures.ok in
    let r = c.in_ok-put_int16s.ensures.ok in
    let w = c.in_ok-finish_body.ensures in
    bind_written g.B.Buffer.held (goal.F-step g) _ _ _ _ _ _ c.args.portal.now c.args.statement.now c.args.formats c.args.values c.args.serializer.now c.put_values.new.serializer c.args.result_formats (g.B.Buffer.held c.args.buf.now) g.B.Buffer.Lacks k.0 k.1 k.3
    v.0 (served_at _ _ _ _ _ _ _ _ _ v.0 (ap (λ b. b ⊕ uint16 0) k.4) v.1) v.2 r.0 r.1 r.3 _ _ _ _ k.4 v.3 r.4 (omega (arith, c.len-base.ensures.value)) _ k.2 r.2 w.fits w.ok
