use Rattle.pgp_types.proofs.Common.{◌≡◌, ◌+◌, refl, inl, inr, bit_or, either_none, if_err_at, on_err, front_then, front_trans, side_cause, lower_bits, upper_bits, side_bit}
use Rattle.pgp_types.proofs.RangeWriteLemmas.{makes_at, extends_at, stops_at, extends_front, tag_or, tag_room, tag_written}
use Rattle.pgp_types.proofs.range.fill_range.Goals as goal

pub returns-in_err-put_u8-clause-cause : goal.returns-in_err-put_u8-clause-cause
returns-in_err-put_u8-clause-cause g c = if_err_at _ _ _ c.from_residual.ensures.1 (inl (_, refl, c.in_err-put_u8.ensures.cause))

pub returns-in_err-low-clause-cause : goal.returns-in_err-low-clause-cause
returns-in_err-low-clause-cause g c =
    if_err_at _ _ _ c.from_residual-in_err-low.ensures.1 (inr (inl (stops_at _ _ _ _ _ _ _ c.in_ok-put_u8.ensures.ok c.in_err-low.ensures.cause)))

pub returns-in_err-low-clause-err : goal.returns-in_err-low-clause-err
returns-in_err-low-clause-err g c = on_err _ _ (front_then _ _ _ _ c.in_ok-put_u8.ensures.ok c.in_err-low.ensures.err)

pub returns-in_err-high-clause-cause : goal.returns-in_err-high-clause-cause
returns-in_err-high-clause-cause g c =
    let l = c.in_ok-low.ensures.ok in
    let start = c.in_ok-put_u8.ensures.ok in
    if_err_at _ _ _ c.from_residual-in_err-high.ensures.1
    (inr (inr (l.0, l.1, _, record { made = makes_at _ _ _ _ _ _ _ start l.2; stands = extends_at l.1 _ _ _ (g.B.Buffer.held c.put_side.new.buf) start l.4 }, c.in_err-high.ensures.cause)))

pub returns-in_err-high-clause-err : goal.returns-in_err-high-clause-err
returns-in_err-high-clause-err g c =
    let l = c.in_ok-low.ensures.ok in
    on_err _ _ (front_then _ _ _ _ c.in_ok-put_u8.ensures.ok (front_trans _ _ _ (extends_front l.1 _ _ _ l.4) c.in_err-high.ensures.err))

pub patch-requires : goal.patch-requires
patch-requires g c =
    let l = c.in_ok-low.ensures.ok in
    let u = c.in_ok-high.ensures.ok in
    let mid = g.B.Buffer.held c.put_side.new.buf in
    let last = g.B.Buffer.held c.put_side-2.new.buf in
    tag_room (g.B.Buffer.held c.args.buf.now) mid last l.1 u.1 l.0 u.0 (extends_at l.1 _ _ _ mid c.in_ok-put_u8.ensures.ok l.4) u.4 c.len-base.result c.len-base.ensures.value

pub returns-clause-ok : goal.returns-clause-ok
returns-clause-ok g c =
    let l = c.in_ok-low.ensures.ok in
    let u = c.in_ok-high.ensures.ok in
    let start = c.in_ok-put_u8.ensures.ok in
    let mid = g.B.Buffer.held c.put_side.new.buf in
    let last = g.B.Buffer.held c.put_side-2.new.buf in
    let tag : bit_or c.in_ok-low.low c.in_ok-high.high ≡ side_bit lower_bits l.0 + side_bit upper_bits u.0 = rw (l.3, u.3) (tag_or l.0 u.0) in
    let stands = extends_at l.1 _ _ _ mid start l.4 in
    record {
      lower = l.0;
      upper = u.0;
      lower_cut = l.1;
      upper_cut = u.1;
      mid = mid;
      first = record { made = makes_at _ _ _ _ _ _ _ start l.2; stands = stands };
      second = u.2;
      fits = either_none (side_cause l.0) (side_cause u.0) l.2.fits u.2.fits;
      appended = tag_written (g.B.Buffer.held c.args.buf.now) mid last l.1 u.1 l.0 u.0 stands u.4 (g.B.Buffer.held c.patch.new.self) c.len-base.result _ c.len-base.ensures.value tag c.patch.ensures;
    }
