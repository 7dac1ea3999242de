use Rattle.pgp_base.proofs.Common.{arith, refl, ◌≡◌, None, subst, ◌∙◌, nullable_cause, value_of}
use Rattle.pgp_base.proofs.Parts.{sized4, rest4, none_sized, none_ok, valued, nullable_refused, Appends-at, front_twice, front_refused}
use Rattle.pgp_base.proofs.writing.fill_nullable.Goals as goal

pub finish_value-requires-clause-room : goal.finish_value-requires-clause-room
finish_value-requires-clause-room g c =
    omega (arith, sized4 (g.B.Buffer.held c.args.buf.now) _ _ _ c.in_ok-put_u32.ensures.ok c.in-Ok.ensures.2)

pub finish_value-requires-clause-none : goal.finish_value-requires-clause-none
finish_value-requires-clause-none g c = λ e.
    let k = c.in-Ok.ensures in
    none_sized _ _ _ _ _ c.in_ok-put_u32.ensures.ok k.2 c.len-base.ensures.value (none_ok k.0 c.in-Ok.null k.3 e)

pub returns-in-Err-clause-cause : goal.returns-in-Err-clause-cause
returns-in-Err-clause-cause g c =
    let k = c.in-Err.ensures in
    (k.0, Appends-at _ _ c.in_ok-put_u32.ensures.ok k.1)

pub returns-in-Err-finish_value-clause-cause : goal.returns-in-Err-finish_value-clause-cause
returns-in-Err-finish_value-clause-cause g c =
    let k = c.in-Ok.ensures in
    let r = rest4 _ k.0 _ _ _ c.in_ok-put_u32.ensures.ok k.2 c.len-base.ensures.value in
    let w = c.in-Err-finish_value.ensures.cause in
    nullable_refused _ _ g.B.Buffer.Lacks (g.B.Buffer.held c.args.buf.now) _ _ _ _ k.0 _ w.0 r w.1 c.in_ok-put_u32.ensures.ok k.1

pub returns-in_default-clause-ok : goal.returns-in_default-clause-ok
returns-in_default-clause-ok g c =
    let k = c.in-Ok.ensures in
    let r = rest4 _ k.0 _ _ _ c.in_ok-put_u32.ensures.ok k.2 c.len-base.ensures.value in (
      value_of c.in-Ok.null k.0,
      record {
        null = c.in-Ok.null;
        bytes = k.0;
        put = Appends-at _ _ c.in_ok-put_u32.ensures.ok k.1;
        value = refl;
        fits = subst (λ p. nullable_cause (value_of c.in-Ok.null p) ≡ None) r c.in_default.ensures.fits;
      },
      valued c.in-Ok.null _ _ _ _ _ _ c.in_ok-put_u32.ensures.ok k.2 c.len-base.ensures.value (none_ok k.0 c.in-Ok.null k.3) c.in_default.ensures.ok,
    )

pub returns-in-Err-clause-err : goal.returns-in-Err-clause-err
returns-in-Err-clause-err g c = front_refused _ _ _ _ _ c.in_ok-put_u32.ensures.ok c.in-Err.ensures.2

pub returns-in-Err-finish_value-clause-err : goal.returns-in-Err-finish_value-clause-err
returns-in-Err-finish_value-clause-err g c = front_twice _ _ _ _ _ c.in_ok-put_u32.ensures.ok (c.in-Err-finish_value.ensures.err ∙ c.in-Ok.ensures.2)
