use Rattle.pgtrace_session.proofs.Common.{string_bytes}
use Rattle.pgtrace_session.proofs.Instants.{instant_added}
use Rattle.pgtrace_session.proofs.instant.put_instant.Goals as goal

pub returns-clause-adds : goal.returns-clause-adds
unfolding lib.Utf8.encode
returns-clause-adds g c =
    instant_added c.put_fraction.result c.args.micros (string_bytes c.args.text.now) (string_bytes c.put_day.new.text) (string_bytes c.push_char.new.text) (string_bytes c.put_clock.new.text) (string_bytes c.put_fraction.new.text)
    c.in_ok-put_day.ensures.adds c.in_ok-push_char.ensures.bytes c.in_ok-put_clock.ensures.text c.put_fraction.ensures.text
