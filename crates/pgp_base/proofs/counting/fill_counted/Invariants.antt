use Rattle.pgp_base.proofs.Common.{◌≡◌, ℕ, List, length, flat_map, ◌⊕◌, uint16, Wrote, Runs}
use Rattle.pgp_base.proofs.counting.fill_counted.Given as goal

abbrev pub invariant-loop-item : goal.invariant-loop-item
invariant-loop-item g l =
    goal.F-IsAlwaysCallable g l.serializer
    × (l.count ≡ length l.yielded)
    × ((ps : List (List ℕ)) × Runs (Wrote g.B.Buffer.held (goal.F-step g)) (λ p. p) (g.B.Buffer.held l.fn.buf ⊕ uint16 0) l.fn.serializer l.yielded ps l.serializer × (g.B.Buffer.held l.buf ≡ g.B.Buffer.held l.fn.buf ⊕ uint16 0 ⊕ flat_map (λ p. p) ps))
