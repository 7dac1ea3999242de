use Rattle.pgp_values.proofs.Common.{◌≡◌, ◌≤◌, List, length, flat_map, ◌⊕◌, uint32, Runs, Field, MakesField}
use Rattle.pgp_values.specs.Record.{field as composite_field}
use Rattle.pgp_values.proofs.made.fill_record.Given as goal

abbrev pub invariant-loop-field : goal.invariant-loop-field
invariant-loop-field g l =
    goal.F-IsAlwaysCallable g l.serializer
    × (l.count ≡ length l.yielded)
    × (l.count ≤ 2147483647)
    × ((vs : List Field) × Runs (MakesField g.B.Buffer.held (goal.F-step g)) composite_field.written (g.B.Buffer.held l.fn.buf ⊕ uint32 0) l.fn.serializer l.yielded vs l.serializer
    × (g.B.Buffer.held l.buf ≡ g.B.Buffer.held l.fn.buf ⊕ uint32 0 ⊕ flat_map composite_field.written vs))
