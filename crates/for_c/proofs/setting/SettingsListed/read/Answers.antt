use Rattle.for_c.proofs.Common.{arith}
use Rattle.for_c.proofs.Settings.{found, open_pair, size, unread}
use Rattle.for_c.proofs.setting.SettingsListed.read.Goals as goal

pub returns-in_default-clause-refused : goal.returns-in_default-clause-refused
returns-in_default-clause-refused c = unread c.args.rest.now c.in_default.ensures.1

pub returns-in_default-string_at-clause-refused : goal.returns-in_default-string_at-clause-refused
returns-in_default-string_at-clause-refused c = open_pair c.args.rest.now c.in-Ok.name.now c.in-Ok.more.now c.in-Ok.ensures c.in_default-string_at.ensures.1

pub overflow_add-value : goal.overflow_add-value
overflow_add-value c = omega (arith, c.requires, size c.args.rest.now c.in-Ok.name.now c.in-Ok.more.now c.in-Ok.ensures c.in-Ok-string_at.value.now c.in-Ok-string_at.after.now c.in-Ok-string_at.ensures)

pub overflow_add-value-2 : goal.overflow_add-value-2
overflow_add-value-2 c = omega (arith, c.requires, size c.args.rest.now c.in-Ok.name.now c.in-Ok.more.now c.in-Ok.ensures c.in-Ok-string_at.value.now c.in-Ok-string_at.after.now c.in-Ok-string_at.ensures)

pub returns-clause-item : goal.returns-clause-item
returns-clause-item c bytes stands = found c.args.rest.now c.in-Ok.name.now c.in-Ok.more.now c.in-Ok.ensures c.in-Ok-string_at.value.now c.in-Ok-string_at.after.now c.in-Ok-string_at.ensures bytes c.args.at stands

pub returns-clause-shorter : goal.returns-clause-shorter
returns-clause-shorter c = omega (arith, size c.args.rest.now c.in-Ok.name.now c.in-Ok.more.now c.in-Ok.ensures c.in-Ok-string_at.value.now c.in-Ok-string_at.after.now c.in-Ok-string_at.ensures)

pub returns-clause-inside : goal.returns-clause-inside
returns-clause-inside c bound within =
    let all = size c.args.rest.now c.in-Ok.name.now c.in-Ok.more.now c.in-Ok.ensures c.in-Ok-string_at.value.now c.in-Ok-string_at.after.now c.in-Ok-string_at.ensures in
    (omega (arith, within, all), omega (arith, within, all))
