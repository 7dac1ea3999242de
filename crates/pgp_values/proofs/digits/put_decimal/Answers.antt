use Rattle.pgp_values.proofs.Common.{◌*◌, [], refl, length, arith, to_z-of_z, flat_map, uint16, wants_more, only_memory, laid_out, sign_of}
use Rattle.pgp_values.proofs.GroupLemmas.{laid_length, laid_more}
use Rattle.pgp_values.proofs.PlaceLemmas.{pairs_size}
use Rattle.pgp_values.proofs.Rows.{ok_behind, why_behind}
use Rattle.pgp_values.proofs.digits.put_decimal.Goals as goal

pub returns-in-Err-clause-cause : goal.returns-in-Err-clause-cause
returns-in-Err-clause-cause g c =
    let ds = c.args.digits.now in
    let sign = sign_of c.args.negative in
    let refused = rw (to_z-of_z c.ranges.weight, c.sign_of.ensures) at c.in-Err.ensures in
    let memory = only_memory _ refused.0 in
    (memory.0, wants_more _ _ _ (omega (arith, laid_length (length ds) c.args.weight sign c.args.scale [], laid_length (length ds) c.args.weight sign c.args.scale (flat_map uint16 ds))) memory.1)

pub returns-in-Ok-clause-cause : goal.returns-in-Ok-clause-cause
returns-in-Ok-clause-cause g c =
    let ds = c.args.digits.now in
    let sign = sign_of c.args.negative in
    let head = rw (to_z-of_z c.ranges.weight, c.sign_of.ensures) at c.in-Ok.ensures in
    why_behind g.B.Buffer.Lacks c.put_numbers.result (g.B.Buffer.held c.args.buf.now) _ (laid_out (length ds) c.args.weight sign c.args.scale []) (2 * length ds) _ head.1
    (omega (arith, laid_length (length ds) c.args.weight sign c.args.scale [], laid_length (length ds) c.args.weight sign c.args.scale (flat_map uint16 ds), pairs_size ds)) c.put_numbers.ensures.cause

pub returns-in-Ok-clause-ok : goal.returns-in-Ok-clause-ok
returns-in-Ok-clause-ok g c =
    let ds = c.args.digits.now in
    let sign = sign_of c.args.negative in
    let bytes = flat_map uint16 ds in
    let head = rw (to_z-of_z c.ranges.weight, c.sign_of.ensures) at c.in-Ok.ensures in
    ok_behind c.put_numbers.result (g.B.Buffer.held c.args.buf.now) _ _ (laid_out (length ds) c.args.weight sign c.args.scale []) bytes _ head.1 (laid_more (length ds) c.args.weight sign c.args.scale bytes (length ds) refl) c.put_numbers.ensures.ok
