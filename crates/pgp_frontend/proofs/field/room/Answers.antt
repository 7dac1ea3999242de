use Rattle.pgp_frontend.proofs.Common.{arith, ◌≡◌, ap, take, length, take_all, joined, parts_of}
use Rattle.pgp_frontend.proofs.Needs.{framed_length}
use Rattle.pgp_frontend.proofs.field.room.Goals as goal

pub returns-clause-needed : goal.returns-clause-needed
returns-clause-needed c =
    let all : take c.loop-field.field-index c.args.fields.now ≡ c.args.fields.now = take_all _ _ (omega (arith, c.loop-field-test.false, c.loop-field.auto.field-index-end)) in
    omega (arith, c.loop-field.invariant, ap (λ fs. length (joined (parts_of fs))) all, framed_length (joined (parts_of c.args.fields.now)), c.min.ensures)
