use Rattle.pgp_frontend.proofs.Common.{◌≡◌, None, map, flat_map, ◌⊕◌, shown_by, Pairs, pair, part_cause}
use Rattle.pgp_frontend.proofs.startup.put_pairs.Given as goal

abbrev pub invariant-loop-name : goal.invariant-loop-name
invariant-loop-name g l =
    (part_cause (Pairs (map (shown_by g.T.Text.shown) l.yielded)) ≡ None)
    × (g.B.Buffer.held l.buf ≡ g.B.Buffer.held l.fn.buf ⊕ flat_map pair (map (shown_by g.T.Text.shown) l.yielded))
