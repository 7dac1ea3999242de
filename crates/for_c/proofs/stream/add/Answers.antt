use Rattle.for_c.proofs.Common.{rules, refl, comes_open, message_of}
use Rattle.for_c.proofs.Extensions.{extends, no_room, parts_of}
use Rattle.for_c.proofs.Plain.{may_come, no_startup}
use Rattle.for_c.proofs.stream.add.Goals as goal

pub returns-clause-added : goal.returns-clause-added
returns-clause-added c z =
    let m = c.args.message in
    extends (message_of m) c.args.stream.now _ c.send-code.new.out _ c.send-code.new.written _ _ refl c.if-len-stream.false (c.send-code.ensures.sent z) c.saturating_add-stream.ensures (search rules) (search rules) (parts_of c.args.stream.now)
    (comes_open m) (search rules) (may_come m) (no_startup m)

pub returns-then-len-stream-clause-why : goal.returns-then-len-stream-clause-why
returns-then-len-stream-clause-why c z o = no_room (message_of c.args.message) c.args.stream.now 1 (search rules) refl
