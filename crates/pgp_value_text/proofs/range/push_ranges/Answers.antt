use Rattle.pgp_value_text.proofs.Common.{◌≡◌, ℕ, List, arith, rules, ◌++◌, Shows, listed, ShowsRange, IsFinished, TakesItem, range}
use Rattle.pgp_value_text.proofs.Parts.{left_end, left_none, left_step}
use Rattle.pgp_value_text.proofs.Ranges.{one_member}
use Rattle.pgp_value_text.proofs.range.push_ranges.Goals as goal

pub members-preserved : goal.members-preserved
members-preserved g c =
    let n = c.args.type_oid in
    let x = c.in-Ok-Some.bytes.now in
    let takes : TakesItem c.members.ranges x c.next.new.self = search rules in
    let pushed : (t : List ℕ) × Shows range (ShowsRange n) x t × (c.push_listed.new.out.items ≡ c.members.out.items ++ listed c.members.place t) =
    rw c.if-not-branch.false at c.in_ok-push_listed-in-Ok-Some.ensures in
    left_step (Shows range (ShowsRange n)) listed (one_member n) c.args.ranges c.args.out.now.items c.members.place c.members.ranges c.next.new.self c.members.out.items _ c.members.invariant x takes pushed

pub returns-then-not-branch : goal.returns-then-not-branch
returns-then-not-branch g c =
    let x = c.in-Ok-Some.bytes.now in
    let takes : TakesItem c.members.ranges x c.next.new.self = search rules in
    let none : (t : List ℕ) → Shows range (ShowsRange c.args.type_oid) x t → ⊥ = rw c.if-not-branch.true at c.in_ok-push_listed-in-Ok-Some.ensures in
    λ _ _. left_none (Shows range (ShowsRange c.args.type_oid)) listed c.args.ranges c.args.out.now.items c.members.place c.members.ranges c.next.new.self c.members.out.items c.members.invariant x takes none

pub returns-in-Ok-None : goal.returns-in-Ok-None
returns-in-Ok-None g c =
    let is : IsFinished c.members.ranges c.next-2.new.self = search rules in
    left_end (Shows range (ShowsRange c.args.type_oid)) listed c.args.ranges c.args.out.now.items c.members.place c.members.ranges c.next-2.new.self c.members.out.items c.members.invariant c.args.size is
    (omega (arith, c.members.auto.place-end, c.members-test.false))
