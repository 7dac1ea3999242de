use Rattle.for_c.proofs.Common.{rules, refl}
use Rattle.for_c.proofs.BindItems.{formats_refused, formats_written}
use Rattle.for_c.proofs.bind_items.write_formats.Goals as goal

pub returns-clause-counted : goal.returns-clause-counted
returns-clause-counted c z =
    (formats_written c.args.formats.now c.new-window.result c.args.out.now _ c.new-window.ensures c.put_formats-answer.new.buf c.put_formats-answer.result c.put_formats-answer.ensures.ok _ (λ e. refl) _ (c.ended.ensures.sent z)).0

pub returns-clause-wrote : goal.returns-clause-wrote
returns-clause-wrote c z =
    (formats_written c.args.formats.now c.new-window.result c.args.out.now _ c.new-window.ensures c.put_formats-answer.new.buf c.put_formats-answer.result c.put_formats-answer.ensures.ok _ (search rules) _ (c.ended.ensures.sent z)).1

pub returns-clause-refused : goal.returns-clause-refused
returns-clause-refused c z = formats_refused c.args.formats.now c.new-window.result c.args.out.now _ c.new-window.ensures c.put_formats-answer.result c.put_formats-answer.ensures.cause _ _ (c.ended.ensures.refused z)
