use Rattle.pgtrace_lines.proofs.Common.{◌≡◌, ◌*◌, length, Some, rules, byte_at, uint16_at, IsBytes}
use Rattle.pgtrace_lines.proofs.PlainBodies.{a_copy, no_copy, no_count, unread}
use Rattle.pgtrace_lines.proofs.plain_body.copy_both.Goals as goal

pub returns-in_default-uint16_at-clause-none : goal.returns-in_default-uint16_at-clause-none
returns-in_default-uint16_at-clause-none c =
    let first : byte_at c.args.body.now ≡ Some (c.in-Ok.format, c.in-Ok.behind.now) = search rules in
    λ format formats. no_count c.args.body.now c.in-Ok.behind.now c.in-Ok.format format formats first (unread _ c.uint16_at.result (uint16_at c.in-Ok.behind.now) c.in_default-uint16_at.not-Ok c.uint16_at.ensures)

pub returns-then-rest-count-clause-some : goal.returns-then-rest-count-clause-some
returns-then-rest-count-clause-some c =
    let bytes : IsBytes c.args.body.now = search rules in
    let first : byte_at c.args.body.now ≡ Some (c.in-Ok.format, c.in-Ok.behind.now) = search rules in
    let read : uint16_at c.in-Ok.behind.now ≡ Some (c.in-Ok-uint16_at.count, c.in-Ok-uint16_at.rest.now) = search rules in
    let len : length c.in-Ok-uint16_at.rest.now ≡ 2 * c.in-Ok-uint16_at.count = search rules in
    a_copy c.args.body.now c.in-Ok.behind.now c.in-Ok-uint16_at.rest.now c.in-Ok.format c.in-Ok-uint16_at.count bytes first read len

pub returns-clause-none : goal.returns-clause-none
returns-clause-none c =
    let first : byte_at c.args.body.now ≡ Some (c.in-Ok.format, c.in-Ok.behind.now) = search rules in
    let read : uint16_at c.in-Ok.behind.now ≡ Some (c.in-Ok-uint16_at.count, c.in-Ok-uint16_at.rest.now) = search rules in
    let other : length c.in-Ok-uint16_at.rest.now ≡ 2 * c.in-Ok-uint16_at.count → ⊥ = search rules in
    λ format formats. no_copy c.args.body.now c.in-Ok.behind.now c.in-Ok-uint16_at.rest.now c.in-Ok.format format c.in-Ok-uint16_at.count formats first read other
