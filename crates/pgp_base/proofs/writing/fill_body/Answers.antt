use Rattle.pgp_base.proofs.Common.{arith, ◌≡◌, ℕ, ◌+◌, ◌-◌, length, None, subst, ◌∙◌, length_cause}
use Rattle.pgp_base.proofs.Parts.{filled4, sized4, body_refused, Appends-at, front_twice, front_refused}
use Rattle.pgp_base.proofs.writing.fill_body.Goals as goal

pub finish_body-requires : goal.finish_body-requires
finish_body-requires g c =
    omega (arith, sized4 (g.B.Buffer.held c.args.buf.now) _ _ _ c.in_ok-put_u32.ensures.ok c.in_default.ensures.2)

pub returns-in-Err-clause-cause : goal.returns-in-Err-clause-cause
returns-in-Err-clause-cause g c =
    let k = c.in-Err.ensures in
    (k.0, Appends-at _ _ c.in_ok-put_u32.ensures.ok k.1)

pub returns-in-Err-finish_body-clause-cause : goal.returns-in-Err-finish_body-clause-cause
returns-in-Err-finish_body-clause-cause g c =
    let k = c.in_default.ensures in
    let s = sized4 (g.B.Buffer.held c.args.buf.now) k.0 _ _ c.in_ok-put_u32.ensures.ok k.2 in
    body_refused _ _ g.B.Buffer.Lacks (g.B.Buffer.held c.args.buf.now) _ _ _ k.0 _ (omega (arith, s)) c.in-Err-finish_body.ensures.cause c.in_ok-put_u32.ensures.ok k.1

pub returns-clause-ok : goal.returns-clause-ok
returns-clause-ok g c =
    let k = c.in_default.ensures in
    let w = c.in_default-finish_body.ensures in
    let s = sized4 (g.B.Buffer.held c.args.buf.now) k.0 _ _ c.in_ok-put_u32.ensures.ok k.2 in
    let n : length (g.B.Buffer.held c.append_by.new.buf).bytes - c.len-base.result ≡ length k.0 + 4 = omega (arith, s) in
    record {
      body = k.0;
      put = Appends-at _ _ c.in_ok-put_u32.ensures.ok k.1;
      fits = subst (λ (n : ℕ). length_cause n ≡ None) n w.fits;
      appended = filled4 _ _ _ _ _ _ _ _ c.in_ok-put_u32.ensures.ok k.2 c.len-base.ensures.value n w.ok;
    }

pub returns-in-Err-clause-err : goal.returns-in-Err-clause-err
returns-in-Err-clause-err g c = front_refused _ _ _ _ _ c.in_ok-put_u32.ensures.ok c.in-Err.ensures.2

pub returns-in-Err-finish_body-clause-err : goal.returns-in-Err-finish_body-clause-err
returns-in-Err-finish_body-clause-err g c = front_twice _ _ _ _ _ c.in_ok-put_u32.ensures.ok (c.in-Err-finish_body.ensures.err ∙ c.in_default.ensures.2)
