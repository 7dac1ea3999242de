use Rattle.pgp_types.proofs.Common.{refl, sym, ◌∙◌, inl, inr, arith, IsBytes, InvalidBitLength, VarbitReads}
use Rattle.pgp_types.proofs.Appending.{refused_as}
use Rattle.pgp_types.proofs.PartLemmas.{natural_part}
use Rattle.pgp_types.proofs.varbit.varbit_from_sql.Goals as goal

pub returns-in_err-len : goal.returns-in_err-len
returns-in_err-len c =
    let each : IsBytes c.args.buf.now = λ i. omega (arith, c.type_inv.buf i) in
    refused_as (VarbitReads c.args.buf.now) _ _ c.from_residual.ensures.1 (inl ((natural_part InvalidBitLength).refused c.args.buf.now _ each c.in_err-len.ensures))

pub returns-then-bytes-div_ceil : goal.returns-then-bytes-div_ceil
returns-then-bytes-div_ceil c =
    let each : IsBytes c.args.buf.now = λ i. omega (arith, c.type_inv.buf i) in
    inr (c.in_ok-len.len, c.in_ok-len.bytes.now, (natural_part InvalidBitLength).found c.args.buf.now _ _ each c.in_ok-len.ensures, (λ e. c.if-bytes-div_ceil.true (e ∙ sym c.div_ceil.ensures)), refl)

pub returns : goal.returns
returns c =
    let each : IsBytes c.args.buf.now = λ i. omega (arith, c.type_inv.buf i) in
    ((natural_part InvalidBitLength).found c.args.buf.now _ _ each c.in_ok-len.ensures, c.if-bytes-div_ceil.false ∙ c.div_ceil.ensures)
