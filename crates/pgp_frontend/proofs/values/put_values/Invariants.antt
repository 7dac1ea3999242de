use Rattle.pgp_frontend.proofs.Common.{◌≡◌, ℕ, List, Option, length, flat_map, ◌⊕◌, uint16, nullable, Gives, Runs}
use Rattle.pgp_frontend.proofs.values.put_values.Given as goal

abbrev pub invariant-loop-item : goal.invariant-loop-item
invariant-loop-item g l =
    goal.F-IsAlwaysCallable g l.serializer
    × (l.count ≡ length l.yielded)
    × ((vs : List (Option (List ℕ))) × Runs (Gives g.B.Buffer.held (goal.F-step g)) nullable (g.B.Buffer.held l.fn.buf ⊕ uint16 0) l.fn.serializer l.yielded vs l.serializer × (g.B.Buffer.held l.buf ≡ g.B.Buffer.held l.fn.buf ⊕ uint16 0 ⊕ flat_map nullable vs))
