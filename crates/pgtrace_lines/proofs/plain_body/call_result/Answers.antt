use Rattle.pgtrace_lines.proofs.Common.{◌≡◌, ◌≤◌, length, Some, rules, arith, oid_at, IsBytes}
use Rattle.pgtrace_lines.proofs.PlainBodies.{a_null, a_value, is_nothing, is_something, no_length, no_null, no_value, unread}
use Rattle.pgtrace_lines.proofs.plain_body.call_result.Goals as goal

pub returns-in_default-clause-none : goal.returns-in_default-clause-none
returns-in_default-clause-none c = λ v. no_length c.args.body.now v (unread _ c.oid_at.result (oid_at c.args.body.now) c.in_default.not-Ok c.oid_at.ensures)

pub returns-then-is_empty-clause-some : goal.returns-then-is_empty-clause-some
returns-then-is_empty-clause-some c =
    let bytes : IsBytes c.args.body.now = search rules in
    let read : oid_at c.args.body.now ≡ Some (c.in-Ok.len, c.in-Ok.rest.now) = search rules in
    let n : c.in-Ok.len ≡ 4294967295 = search rules in
    let none = is_nothing c.in-Ok.rest.now c.is_empty.result c.if-is_empty.true c.is_empty.ensures in
    a_null c.args.body.now c.in-Ok.rest.now c.in-Ok.len bytes read n none

pub returns-then-len-clause-none : goal.returns-then-len-clause-none
returns-then-len-clause-none c =
    let read : oid_at c.args.body.now ≡ Some (c.in-Ok.len, c.in-Ok.rest.now) = search rules in
    let n : c.in-Ok.len ≡ 4294967295 = search rules in
    let some = is_something c.in-Ok.rest.now c.is_empty.result c.if-is_empty.false c.is_empty.ensures in
    λ v. no_null c.args.body.now c.in-Ok.rest.now c.in-Ok.len v read n some

pub returns-then-len-gt2147483647-clause-none : goal.returns-then-len-gt2147483647-clause-none
returns-then-len-gt2147483647-clause-none c =
    let read : oid_at c.args.body.now ≡ Some (c.in-Ok.len, c.in-Ok.rest.now) = search rules in
    let null : c.in-Ok.len ≡ 4294967295 → ⊥ = search rules in
    let large : 2147483648 ≤ c.in-Ok.len = search rules in
    λ v. no_value c.args.body.now c.in-Ok.rest.now c.in-Ok.len v read null (λ small same. absurd (omega (arith, small, large)))

pub returns-then-len-rest-clause-none : goal.returns-then-len-rest-clause-none
returns-then-len-rest-clause-none c =
    let read : oid_at c.args.body.now ≡ Some (c.in-Ok.len, c.in-Ok.rest.now) = search rules in
    let null : c.in-Ok.len ≡ 4294967295 → ⊥ = search rules in
    let other : c.in-Ok.len ≡ length c.in-Ok.rest.now → ⊥ = search rules in
    λ v. no_value c.args.body.now c.in-Ok.rest.now c.in-Ok.len v read null (λ small same. other same)

pub returns-clause-some : goal.returns-clause-some
returns-clause-some c =
    let bytes : IsBytes c.args.body.now = search rules in
    let read : oid_at c.args.body.now ≡ Some (c.in-Ok.len, c.in-Ok.rest.now) = search rules in
    let small : c.in-Ok.len ≤ 2147483647 = search rules in
    let same : c.in-Ok.len ≡ length c.in-Ok.rest.now = search rules in
    a_value c.args.body.now c.in-Ok.rest.now c.in-Ok.len bytes read small same
