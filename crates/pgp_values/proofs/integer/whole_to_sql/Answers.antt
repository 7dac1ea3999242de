use Rattle.pgp_values.proofs.Common.{◌++◌, [], map, inl, refl, only_memory, finite, digit_value, grouped}
use Rattle.pgp_values.proofs.IntegerLemmas.{whole_meant, held_by}
use Rattle.pgp_values.proofs.integer.whole_to_sql.Goals as goal

pub unreachable-requires : goal.unreachable-requires
unreachable-requires g c = held_by c.args.negative c.args.digits.now c.requires c.in_default.ensures.past.1

pub returns-in-Ok-groups_to_sql : goal.returns-in-Ok-groups_to_sql
returns-in-Ok-groups_to_sql g c =
    let d = grouped (map digit_value (c.args.digits.now ++ [])) c.in-Ok.g in
    record {
      value = finite d;
      means = (d, whole_meant c.args.negative c.args.digits.now d c.in-Ok.ensures.value, refl);
      appended = c.in-Ok-groups_to_sql.ensures.1;
    }

pub returns-in-Err : goal.returns-in-Err
returns-in-Err g c =
    let d = grouped (map digit_value (c.args.digits.now ++ [])) c.in-Ok.g in (
      inl (
        refl,
        record {
          value = finite d;
          means = (d, whole_meant c.args.negative c.args.digits.now d c.in-Ok.ensures.value, refl);
          wants = (only_memory c.in-Err.field-0 c.in-Err.ensures.0).1;
        },
      ),
      c.in-Err.ensures.1,
    )
