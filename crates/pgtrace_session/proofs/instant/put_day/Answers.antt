use Rattle.pgtrace_session.proofs.Common.{subst, sym, string_bytes, rules, w32, day_of}
use Rattle.std.proofs.Common.{FitsSigned}
use Rattle.std.proofs.Math.Facts.{to_z-of_z}
use Rattle.std.specs.Str.{IsUtf8}
use Rattle.pgp_value_text.specs.Calendar.{ShowsDay}
use Rattle.pgtrace_session.proofs.Instants.{day_added, day_utf8, day_written}
use Rattle.pgtrace_session.proofs.instant.put_day.Goals as goal

pub put_utf8-requires : goal.put_utf8-requires
put_utf8-requires g c =
    let fits : FitsSigned w32 c.day_of.result = search rules in
    let text = c.date_to_text.new.out.items in
    let shows : ShowsDay (day_of c.args.micros) text = rw c.day_of.ensures at (day_written c.day_of.result c.clear.new.self.items text c.clear.ensures.items (rw (to_z-of_z fits) at c.in-Ok.ensures)) in
    subst IsUtf8 (sym c.as_slice.ensures) (day_utf8 (day_of c.args.micros) text shows)

pub returns-in-Ok-clause-adds : goal.returns-in-Ok-clause-adds
returns-in-Ok-clause-adds g c =
    let fits : FitsSigned w32 c.day_of.result = search rules in
    let text = c.date_to_text.new.out.items in
    let shows : ShowsDay (day_of c.args.micros) text = rw c.day_of.ensures at (day_written c.day_of.result c.clear.new.self.items text c.clear.ensures.items (rw (to_z-of_z fits) at c.in-Ok.ensures)) in
    day_added c.put_utf8.result c.args.micros text c.as_slice.result.now (string_bytes c.args.text.now) (string_bytes c.put_utf8.new.text) shows c.as_slice.ensures c.put_utf8.ensures.text
