use Rattle.for_c.proofs.Common.{rules, refl, ◌-◌, length, drop, take, ap, ◌∙◌, inr, take-append-drop, counted, int16}
use Rattle.for_c.proofs.BindItems.{end_head, end_within, ended, kept_before, not_there, past_end}
use Rattle.for_c.proofs.bind_items.end.Goals as goal

pub finish-requires-clause-head : goal.finish-requires-clause-head
finish-requires-clause-head c =
    end_head c.args.at c.args.out.now c.write_formats-code.new.out _ _ refl c.if-at-out.false (search rules) (take-append-drop (length c.args.out.now - c.args.at) (drop c.args.at c.args.out.now))
    (counted int16 c.args.formats.now) c.write_formats-code.new.written _ (c.write_formats-code.ensures.wrote (search rules)) c.saturating_add.ensures (search rules) c.requires

pub finish-requires-clause-within : goal.finish-requires-clause-within
finish-requires-clause-within c =
    end_within c.args.at c.args.out.now c.write_formats-code.new.out _ _ refl c.if-at-out.false (search rules) (take-append-drop (length c.args.out.now - c.args.at) (drop c.args.at c.args.out.now))
    (counted int16 c.args.formats.now) c.write_formats-code.new.written _ (c.write_formats-code.ensures.wrote (search rules)) c.saturating_add.ensures (search rules)

pub returns-clause-ended : goal.returns-clause-ended
returns-clause-ended c z =
    ended c.args.at c.args.out.now c.write_formats-code.new.out _ _ refl c.if-at-out.false (search rules) (take-append-drop (length c.args.out.now - c.args.at) (drop c.args.at c.args.out.now))
    (counted int16 c.args.formats.now) c.write_formats-code.new.written _ (c.write_formats-code.ensures.wrote (search rules)) c.saturating_add.ensures (search rules) c.requires _ _ (c.finish.ensures.ended z)

pub returns-clause-refused : goal.returns-clause-refused
returns-clause-refused c z =
    let k = c.finish.ensures.refused z in
    inr (
      k.1,
      inr (past_end c.args.at c.args.out.now c.write_formats-code.new.out _ _ refl c.if-at-out.false (search rules) (take-append-drop (length c.args.out.now - c.args.at) (drop c.args.at c.args.out.now))
          (counted int16 c.args.formats.now) c.write_formats-code.new.written _ (c.write_formats-code.ensures.wrote (search rules)) c.saturating_add.ensures (search rules) k.2),
    )

pub returns-clause-left : goal.returns-clause-left
returns-clause-left c z =
    let k = c.finish.ensures.refused z in
    (k.0, ap (λ l. take c.args.at l) k.3 ∙ kept_before c.args.at c.args.out.now c.write_formats-code.new.out _ _ refl c.if-at-out.false (search rules) (take-append-drop (length c.args.out.now - c.args.at) (drop c.args.at c.args.out.now)))

pub returns-then-code-ne0-clause-refused : goal.returns-then-code-ne0-clause-refused
returns-then-code-ne0-clause-refused c z = not_there c.args.at c.args.formats.now c.args.out.now _ c.if-at-out.false (c.write_formats-code.ensures.refused z)

pub returns-then-code-ne0-clause-left : goal.returns-then-code-ne0-clause-left
returns-then-code-ne0-clause-left c z =
    (refl, kept_before c.args.at c.args.out.now c.write_formats-code.new.out _ _ refl c.if-at-out.false (search rules) (take-append-drop (length c.args.out.now - c.args.at) (drop c.args.at c.args.out.now)))
