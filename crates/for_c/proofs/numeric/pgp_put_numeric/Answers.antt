use Rattle.for_c.proofs.Common.{rules, refl, ap, inl, inr, ◌∙◌, to_z-of_z, Error, finite, numeric_bytes, numeric_number}
use Rattle.pgp_values.specs.DecimalDigits.{decimal_of}
use Rattle.for_c.proofs.Sending.{lacked, wrote}
use Rattle.for_c.proofs.numeric.pgp_put_numeric.Goals as goal

pub returns-in-Ok-clause-wrote : goal.returns-in-Ok-clause-wrote
returns-in-Ok-clause-wrote c z =
    let bytes = numeric_bytes (finite (decimal_of c.args.negative c.args.weight c.args.scale c.args.digits.now)) in
    let done = rw (to_z-of_z c.ranges.weight) at c.in-Ok.ensures in
    (done.0, wrote bytes bytes refl c.new-window.result c.numeric_digits_to_sql.new.buf c.args.out.now _ c.new-window.ensures done.1 _ (search rules) _ c.sent.ensures.reported)

pub returns-in-Err-clause-refused : goal.returns-in-Err-clause-refused
returns-in-Err-clause-refused c z =
    let bytes = numeric_bytes (finite (decimal_of c.args.negative c.args.weight c.args.scale c.args.digits.now)) in
    let why = rw (to_z-of_z c.ranges.weight) at c.in-Err.ensures in (
      refl,
      elim why.0 [
        | inl memory ↦ inr (lacked bytes bytes refl c.new-window.result c.args.out.now _ c.new-window.ensures Error.OutOfMemory _ _ (inl (refl, memory.1.1)) (c.number_of.ensures.number ∙ ap numeric_number memory.0) refl)
        | inr none ↦ inl (c.in-Err.e, none, c.number_of.ensures.number)
      ],
    )
