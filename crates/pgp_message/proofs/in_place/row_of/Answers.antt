use Rattle.pgp_message.proofs.Common.{arith, sym, IsBytes}
use Rattle.pgp_message.proofs.RowSteps.{row_tag}
use Rattle.pgp_message.proofs.in_place.row_of.Goals as goal

pub returns-then-tag-ne-DATA_ROW_TAG-clause-none : goal.returns-then-tag-ne-DATA_ROW_TAG-clause-none
returns-then-tag-ne-DATA_ROW_TAG-clause-none c none row is =
    let each : IsBytes c.args.payload.now = λ i. omega (arith, c.type_inv.payload i) in
    let tag = row_tag c.args.tag c.args.payload.now row each is in
    absurd (c.if-tag-ne-DATA_ROW_TAG.true (sym tag))
