use Rattle.pgp_frontend.proofs.Common.{◌≡◌, None, take, ◌⊕◌, parts_cause, joined, parts_of}
use Rattle.pgp_frontend.proofs.field.put_each.Given as goal

abbrev pub invariant-loop-field : goal.invariant-loop-field
invariant-loop-field g l =
    (parts_cause (parts_of (take l.field-index l.fields)) ≡ None)
    × (g.B.Buffer.held l.buf ≡ g.B.Buffer.held l.fn.buf ⊕ joined (parts_of (take l.field-index l.fields)))
