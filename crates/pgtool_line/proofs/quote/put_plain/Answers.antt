use Rattle.pgtool_line.proofs.Common.{rules}
use Rattle.pgtool_line.proofs.Escapes.{plain_end}
use Rattle.pgtool_line.proofs.quote.put_plain.Goals as goal

pub split_at-requires : goal.split_at-requires
split_at-requires g c = plain_end c.args.text.now c.plain_len.result c.utf8.text (search rules) (search rules)
