use Rattle.for_c_auth.proofs.Common.{◌≡◌, arith, ap, rules, length, subst, Misplaced, link_of, talk_of, IsFull, view, Delivered}
use Rattle.for_c_auth.proofs.Connections.{lacking, misplaced_so, stops, took}
use Rattle.for_c_auth.proofs.connection.hear.Goals as goal

pub returns-then-short-ne0-clause-none : goal.returns-then-short-ne0-clause-none
returns-then-short-ne0-clause-none g c z =
    lacking g.A.Memory.Lacks (IsFull c.args.connection.now.settings) c.args.ways.now (length c.args.connection.now.settings.room.now) (view c.args.message.now) (length c.args.out.now) (link_of c.args.connection.now) c.new-reply.result.items c.new-reply.ensures.items
    c.replied-code.new.login c.replied-code.new.reply.items c.replied-code.result c.replied-code.ensures.why c.replied-code.ensures.fit c.replied-code.ensures.answered c.len.result c.shortage-short.result (search rules) (c.shortage-short.ensures.why z)

pub returns-in-Err-clause-none : goal.returns-in-Err-clause-none
returns-in-Err-clause-none g c z =
    Misplaced (misplaced_so (view c.args.message.now) (link_of c.args.connection.now) (talk_of c.attributed.new.dialogue) c.of.result c.in-Err.misplaced c.of.ensures c.in-Err.ensures.err)

pub returns-then-code-ne0-clause-none : goal.returns-then-code-ne0-clause-none
returns-then-code-ne0-clause-none g c z =
    stops g.A.Memory.Lacks (IsFull c.args.connection.now.settings) c.args.ways.now (length c.args.connection.now.settings.room.now) (view c.args.message.now) (length c.args.out.now) (link_of c.args.connection.now) c.new-reply.result.items c.new-reply.ensures.items c.in-Ok.event (talk_of c.attributed.new.dialogue) c.of.result c.of.ensures c.in-Ok.ensures.ok c.replied-code.result (c.shortage-short.ensures.none c.if-short-ne0.false).0 (c.replied-code.ensures.why z)

pub returns-clause-took : goal.returns-clause-took
returns-clause-took g c z =
    let replied : c.replied-code.result ≡ 0 = omega (arith, c) in
    let reply = c.replied-code.new.reply.items in
    let is = took g.A.Memory.Lacks (IsFull c.args.connection.now.settings) c.args.ways.now (length c.args.connection.now.settings.room.now) (view c.args.message.now) (length c.args.out.now) (link_of c.args.connection.now) c.new-reply.result.items c.new-reply.ensures.items c.in-Ok.event (talk_of c.attributed.new.dialogue) c.of.result c.of.ensures c.in-Ok.ensures.ok
    c.replied-code.new.login reply (link_of c.note_said.new.connection) (c.replied-code.ensures.fit replied) (c.replied-code.ensures.answered replied) c.note_said.ensures.link in
    (c.in-Ok.event, reply, is, c.reported_as.ensures, subst (λ b. Delivered b c.args.out.now c.deliver.new.out c.deliver.new.written) c.as_slice.ensures (c.deliver.ensures.sent z))

pub returns-clause-none : goal.returns-clause-none
returns-clause-none g c z =
    let room = ((c.shortage-short.ensures.none c.if-short-ne0.false).1 (omega (arith, c))).0 in
    let longer = (c.deliver.ensures.why z).1 in
    let same = ap length c.as_slice.ensures in
    let len = c.len.ensures.value in
    absurd (omega (arith, room, longer, same, len))

pub returns-clause-left : goal.returns-clause-left
returns-clause-left g c z =
    let room = ((c.shortage-short.ensures.none c.if-short-ne0.false).1 (omega (arith, c))).0 in
    let longer = (c.deliver.ensures.why z).1 in
    let same = ap length c.as_slice.ensures in
    let len = c.len.ensures.value in
    absurd (omega (arith, room, longer, same, len))
