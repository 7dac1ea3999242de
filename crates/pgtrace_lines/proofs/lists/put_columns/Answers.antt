use Rattle.pgtrace_lines.proofs.Common.{rules, string_bytes, TakesItem, ListEnds, followed, closed, column_parts}
use Rattle.pgtrace_lines.proofs.Items.{item_more}
use Rattle.pgtrace_lines.proofs.lists.put_columns.Goals as goal

pub items-preserved : goal.items-preserved
items-preserved g c =
    let takes : TakesItem c.items.columns c.in-Ok-Some.column c.next.new.self = search rules in
    item_more c.args.style ListEnds column_parts (string_bytes c.items.line) (string_bytes c.put_column.new.line) (followed c.args.style (string_bytes c.args.line.now) (closed ListEnds column_parts c.args.columns.items c.args.columns.end))
    c.items.columns c.next.new.self c.in-Ok-Some.column c.items.invariant takes c.in_ok-put_column-in-Ok-Some.ensures.parts
