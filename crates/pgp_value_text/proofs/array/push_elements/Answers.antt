use Rattle.pgp_value_text.proofs.Common.{◌≡◌, ℕ, List, arith, rules, ◌++◌, ShowsElement, placed, IsFinished, TakesItem}
use Rattle.pgp_types.specs.Part.{shown}
use Rattle.pgp_value_text.proofs.Elements.{one_element}
use Rattle.pgp_value_text.proofs.Parts.{left_end, left_none, left_step}
use Rattle.pgp_value_text.proofs.array.push_elements.Goals as goal

pub elements-preserved : goal.elements-preserved
elements-preserved g c =
    let n = c.args.array.now.element_type in
    let around = placed c.args.array.now.element_type c.args.size c.args.array.now.dimensions.items in
    let x = shown c.in-Ok-Some.value in
    let takes : TakesItem c.elements.values x c.next.new.self = search rules in
    let pushed : (t : List ℕ) × ShowsElement n x t × (c.push_placed.new.out.items ≡ c.elements.out.items ++ around c.elements.place t) = rw c.if-not-branch.false at c.in_ok-push_placed-in-Ok-Some.ensures in
    left_step (ShowsElement n) around (one_element n) c.args.array.now.values c.args.out.now.items c.elements.place c.elements.values c.next.new.self c.elements.out.items _ c.elements.invariant x takes pushed

pub returns-then-not-branch : goal.returns-then-not-branch
returns-then-not-branch g c =
    let n = c.args.array.now.element_type in
    let around = placed c.args.array.now.element_type c.args.size c.args.array.now.dimensions.items in
    let x = shown c.in-Ok-Some.value in
    let takes : TakesItem c.elements.values x c.next.new.self = search rules in
    let none : (t : List ℕ) → ShowsElement n x t → ⊥ = rw c.if-not-branch.true at c.in_ok-push_placed-in-Ok-Some.ensures in
    λ _ _. left_none (ShowsElement n) around c.args.array.now.values c.args.out.now.items c.elements.place c.elements.values c.next.new.self c.elements.out.items c.elements.invariant x takes none

pub returns-in-Ok-None : goal.returns-in-Ok-None
returns-in-Ok-None g c =
    let n = c.args.array.now.element_type in
    let around = placed c.args.array.now.element_type c.args.size c.args.array.now.dimensions.items in
    let is : IsFinished c.elements.values c.next-2.new.self = search rules in
    left_end (ShowsElement n) around c.args.array.now.values c.args.out.now.items c.elements.place c.elements.values c.next-2.new.self c.elements.out.items c.elements.invariant c.args.size is
    (omega (arith, c.elements.auto.place-end, c.elements-test.false))
