use Rattle.for_c.proofs.Common.{rules, refl, subst, to_z-of_z, numeric_bytes}
use Rattle.pgp_values.specs.Integer.{IntegerMeans}
use Rattle.for_c.proofs.Sending.{wrote}
use Rattle.for_c.proofs.integer.write_integer.Goals as goal

pub returns-in-Ok-clause-wrote : goal.returns-in-Ok-clause-wrote
returns-in-Ok-clause-wrote c z =
    let m = c.in-Ok.ensures in
    let bytes = numeric_bytes m.value in
    (m.value, subst (λ n. IntegerMeans n m.value) (to_z-of_z c.ranges.value) m.means, wrote bytes bytes refl c.new-window.result c.numeric_i128_to_sql.new.buf c.args.out.now _ c.new-window.ensures m.appended _ (search rules) _ c.sent.ensures.reported)
