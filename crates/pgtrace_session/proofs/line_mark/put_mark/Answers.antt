use Rattle.pgtrace_session.proofs.Common.{string_bytes}
use Rattle.pgtrace_session.proofs.Instants.{mark_put}
use Rattle.pgtrace_session.proofs.line_mark.put_mark.Goals as goal

pub returns-clause-is : goal.returns-clause-is
returns-clause-is g c =
    mark_put c.put_beside.result c.args.form c.args.sender c.args.start c.args.micros (string_bytes c.clear.new.self) (string_bytes c.put_time.new.text) c.as_str.result.now (string_bytes c.clear-2.new.self) (string_bytes c.put_beside.new.text)
    c.in_ok-put_time.ensures.adds c.clear.ensures.bytes c.as_str.ensures.value c.clear-2.ensures.bytes c.put_beside.ensures.text
