use Rattle.pgp_value_text.proofs.Common.{◌≡◌, ℕ, List, arith, rules, ◌++◌, ShowsPoint, listed, IsFinished, TakesItem}
use Rattle.pgp_value_text.proofs.Figures.{one_point}
use Rattle.pgp_value_text.proofs.Parts.{left_end, left_none, left_step}
use Rattle.pgp_value_text.proofs.path.push_points.Goals as goal

pub each-preserved : goal.each-preserved
each-preserved g c =
    let takes : TakesItem c.each.points c.in-Ok-Some.p c.next.new.self = search rules in
    let pushed : (t : List ℕ) × ShowsPoint c.in-Ok-Some.p t × (c.push_listed.new.out.items ≡ c.each.out.items ++ listed c.each.place t) = rw c.if-not-branch.false at c.in_ok-push_listed-in-Ok-Some.ensures in
    left_step ShowsPoint listed one_point c.args.points c.args.out.now.items c.each.place c.each.points c.next.new.self c.each.out.items _ c.each.invariant c.in-Ok-Some.p takes pushed

pub returns-then-not-branch : goal.returns-then-not-branch
returns-then-not-branch g c =
    let takes : TakesItem c.each.points c.in-Ok-Some.p c.next.new.self = search rules in
    let none : (t : List ℕ) → ShowsPoint c.in-Ok-Some.p t → ⊥ = rw c.if-not-branch.true at c.in_ok-push_listed-in-Ok-Some.ensures in
    λ _ _. left_none ShowsPoint listed c.args.points c.args.out.now.items c.each.place c.each.points c.next.new.self c.each.out.items c.each.invariant c.in-Ok-Some.p takes none

pub returns-in-Ok-None : goal.returns-in-Ok-None
returns-in-Ok-None g c =
    let is : IsFinished c.each.points c.next-2.new.self = search rules in
    left_end ShowsPoint listed c.args.points c.args.out.now.items c.each.place c.each.points c.next-2.new.self c.each.out.items c.each.invariant c.args.size is
    (omega (arith, c.each.auto.place-end, c.each-test.false))
