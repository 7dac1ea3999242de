use Rattle.pgp_values.proofs.Common.{◌++◌, map, inl, refl, only_memory, finite, digit_value, grouped, NumberMeans, NumberRefused}
use Rattle.pgp_values.proofs.MeaningLemmas.{refused_whole, refused_spells, number_meant, number_past}
use Rattle.pgp_values.proofs.parse.number_to_sql.Goals as goal

pub returns-in_err-w : goal.returns-in_err-w
returns-in_err-w g c =
    let bytes = c.args.bytes.now in
    refused_whole (NumberMeans bytes) (NumberRefused bytes) g.B.Buffer.Lacks (g.B.Buffer.held c.args.buf.now) c.from_residual.result c.in_err-w.field-0.0 c.from_residual.ensures.0 c.from_residual.ensures.1 (refused_spells bytes c.in_err-w.field-0.0 c.in_err-w.ensures.refused)

pub returns-in_err-g : goal.returns-in_err-g
returns-in_err-g g c =
    let bytes = c.args.bytes.now in
    let w = c.in_ok-w.w in
    refused_whole (NumberMeans bytes) (NumberRefused bytes) g.B.Buffer.Lacks (g.B.Buffer.held c.args.buf.now) c.from_residual-in_err-g.result c.in_err-g.field-0.0 c.from_residual-in_err-g.ensures.0 c.from_residual-in_err-g.ensures.1
    (number_past bytes w.negative w.whole.now w.fraction.now w.divided w.exponent c.in_ok-w.ensures.text c.in_err-g.field-0.0 c.in_err-g.ensures.past.0 c.in_err-g.ensures.past.1)

pub returns-in-Ok : goal.returns-in-Ok
returns-in-Ok g c =
    let w = c.in_ok-w.w in
    record {
      value = finite (grouped (map digit_value (w.whole.now ++ w.fraction.now)) c.in_ok-g.g);
      means = number_meant c.args.bytes.now w.negative w.whole.now w.fraction.now w.divided w.exponent c.in_ok-w.ensures.text _ c.in_ok-g.ensures.value;
      appended = c.in-Ok.ensures.1;
    }

pub returns-in-Err : goal.returns-in-Err
returns-in-Err g c =
    let w = c.in_ok-w.w in (
      inl (
        refl,
        record {
          value = finite (grouped (map digit_value (w.whole.now ++ w.fraction.now)) c.in_ok-g.g);
          means = number_meant c.args.bytes.now w.negative w.whole.now w.fraction.now w.divided w.exponent c.in_ok-w.ensures.text _ c.in_ok-g.ensures.value;
          wants = (only_memory c.in-Err.field-0 c.in-Err.ensures.0).1;
        },
      ),
      c.in-Err.ensures.1,
    )
