use Rattle.pgp_message.proofs.Common.{pos, sym, ap, ◌∙◌, arith, w32, cast_signed, lt_z, to_z-of_z, IsBytes, HeaderPart, IsHeader}
use Rattle.pgp_message.proofs.Fronts.{int32_header, is_below, is_not_below}
use Rattle.pgp_message.proofs.header.Header.parse.Goals as goal

pub returns-then-len-lt4 : goal.returns-then-len-lt4
returns-then-len-lt4 c =
    let bytes = c.args.buf.now in
    let each : IsBytes bytes = λ i. omega (arith, c.type_inv.buf i) in
    let header : HeaderPart = record { tag = c.head-tag.result.0; len = c.cast_signed-len.result } in
    let is : IsHeader bytes header = int32_header bytes header each c.if-buf-lt5.false c.head-tag.ensures.tag (c.cast_signed-len.ensures ∙ ap (cast_signed w32) c.head-tag.ensures.len) in
    let same = to_z-of_z w32 c.cast_signed-len.result is.fits in
    (header, is, is_below c.cast_signed-len.result (pos 4) (ap (λ x. lt_z x (pos 4)) (sym same) ∙ c.if-len-lt4.true))

pub returns : goal.returns
returns c =
    let bytes = c.args.buf.now in
    let each : IsBytes bytes = λ i. omega (arith, c.type_inv.buf i) in
    let header : HeaderPart = record { tag = c.head-tag.result.0; len = c.cast_signed-len.result } in
    let is : IsHeader bytes header = int32_header bytes header each c.if-buf-lt5.false c.head-tag.ensures.tag (c.cast_signed-len.ensures ∙ ap (cast_signed w32) c.head-tag.ensures.len) in
    let same = to_z-of_z w32 c.cast_signed-len.result is.fits in
    let least = is_not_below c.cast_signed-len.result (pos 4) (ap (λ x. lt_z x (pos 4)) (sym same) ∙ c.if-len-lt4.false) in
    rw same (is, least)
