use Rattle.pgtrace_lines.proofs.Common.{codes, string_bytes, numbers_of}
use Rattle.pgtrace_lines.proofs.Numbers.{columns_put}
use Rattle.pgtrace_lines.proofs.unread.put_columns.Goals as goal

pub returns-clause-parts : goal.returns-clause-parts
returns-clause-parts g c =
    columns_put c.put_numbers.result c.args.style (codes "columns") (codes "column_formats") (string_bytes c.args.line.now) (string_bytes c.put_key.new.line) (string_bytes c.put_count.new.line) (string_bytes c.put_numbers.new.line)
    c.count.result (numbers_of c.args.formats.now) c.in_ok-put_key.ensures.part c.in_ok-put_count.ensures.part c.count.ensures c.put_numbers.ensures.list
