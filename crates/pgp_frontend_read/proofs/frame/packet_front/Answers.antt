use Rattle.pgp_frontend_read.proofs.Common.{arith, false, refl, inl, inr, IsBytes}
use Rattle.pgp_frontend_read.proofs.Fronts.{length_there, fault_there, unfinished_there, whole_packet}
use Rattle.pgp_frontend_read.proofs.frame.packet_front.Goals as goal

pub returns-then-len-lt8 : goal.returns-then-len-lt8
returns-then-len-lt8 c =
    let each : IsBytes c.args.bytes.now = λ i. omega (arith, c.type_inv.bytes i) in
    (refl, fault_there false c.args.bytes.now _ (length_there false c.args.bytes.now _ each (omega (arith, c.if-bytes-lt4.false)) c.opening_head-len.ensures) (inl (omega (arith, c.if-len-lt8.true))))

pub returns-then-len-gt-MAX_LEN : goal.returns-then-len-gt-MAX_LEN
returns-then-len-gt-MAX_LEN c =
    let each : IsBytes c.args.bytes.now = λ i. omega (arith, c.type_inv.bytes i) in
    (refl, fault_there false c.args.bytes.now _ (length_there false c.args.bytes.now _ each (omega (arith, c.if-bytes-lt4.false)) c.opening_head-len.ensures) (inr (omega (arith, c.if-len-gt-MAX_LEN.true))))

pub returns-then-bytes-total : goal.returns-then-bytes-total
returns-then-bytes-total c =
    let each : IsBytes c.args.bytes.now = λ i. omega (arith, c.type_inv.bytes i) in
    unfinished_there false c.args.bytes.now _ (length_there false c.args.bytes.now _ each (omega (arith, c.if-bytes-lt4.false)) c.opening_head-len.ensures) (omega (arith, c.if-len-lt8.false)) (omega (arith, c.if-len-gt-MAX_LEN.false)) (omega (arith, c.if-bytes-total.true))

pub returns : goal.returns
returns c =
    let each : IsBytes c.args.bytes.now = λ i. omega (arith, c.type_inv.bytes i) in
    whole_packet c.args.bytes.now c.split_at.result.0.now c.split_at-2.result.1.now c.split_at.result.1.now _ _ each c.split_at.ensures.front c.split_at.ensures.back (omega (arith, c.if-bytes-total.false)) (omega (arith, c.if-len-gt-MAX_LEN.false))
    (omega (arith, c.if-bytes-lt4.false)) c.opening_head-len.ensures (omega (arith, c.if-len-lt8.false)) refl c.split_at-2.ensures.back
