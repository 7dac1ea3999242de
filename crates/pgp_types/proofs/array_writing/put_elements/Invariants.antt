use Rattle.pgp_types.proofs.Common.{◌≡◌, ℕ, List, Option, flat_map, ◌⊕◌, nullable, Gives, Runs, has_null}
use Rattle.pgp_types.proofs.array_writing.put_elements.Given as goal

abbrev pub invariant-loop-element : goal.invariant-loop-element
invariant-loop-element g l =
    goal.F-IsAlwaysCallable g l.serializer
    × ((vs : List (Option (List ℕ))) × Runs (Gives g.B.Buffer.held (goal.F-step g)) nullable (g.B.Buffer.held l.fn.buf) l.fn.serializer l.yielded vs l.serializer
    × (l.nulls ≡ has_null vs) × (g.B.Buffer.held l.buf ≡ g.B.Buffer.held l.fn.buf ⊕ flat_map nullable vs))
