use Rattle.for_c.proofs.Common.{rules, ◌<◌, length, sym, subst, ◌∙◌}
use Rattle.for_c.specs.Front.{CallResult, CopyBoth, CutShort, SaysUnread, Unknown}
use Rattle.for_c.proofs.front.unread.Goals as goal

pub returns-then-tag-eq86 : goal.returns-then-tag-eq86
returns-then-tag-eq86 c = subst (λ (p : _). SaysUnread c.args.bytes.now c.args.frame c.args.tag c.args.e p 34 0) (sym c.counted.ensures) (CallResult (search rules))

pub returns-then-tag-ne87 : goal.returns-then-tag-ne87
returns-then-tag-ne87 c =
    subst (λ (s : _). SaysUnread c.args.bytes.now c.args.frame c.args.tag c.args.e s.parts s.kind s.code) (sym c.refused.ensures) (Unknown (search rules) (search rules))

pub returns-in-Some : goal.returns-in-Some
returns-in-Some c =
    let some = c.in-Some.ensures.some in
    subst (λ (p : _). SaysUnread c.args.bytes.now c.args.frame c.args.tag c.args.e p 33 0) (sym c.copied.ensures)
    (CopyBoth (record { format = c.in-Some.format; count = c.in-Some.count; storage = some.1 }) (search rules) some.0 (sym c.payload.ensures ∙ some.2))

pub returns-in-None : goal.returns-in-None
returns-in-None c =
    let short : length c.payload.result.now < 3 = search rules in
    subst (λ (s : _). SaysUnread c.args.bytes.now c.args.frame c.args.tag c.args.e s.parts s.kind s.code) (sym c.refused-in-None.ensures) (CutShort (search rules) (subst (λ l. length l < 3) c.payload.ensures short))
