use Rattle.pgp_values.proofs.Common.{◌≡◌, ◌+◌, ◌-◌, ◌/◌, length, drop, sym, ap, ◌∙◌, arith, inl, inr, cases_lt, format_in}
use Rattle.pgp_values.specs.declared.formats.BinaryFormat.TheVariants.{Array}
use Rattle.pgp_values.proofs.FormatLemmas.{behind_one, before_one, found, behind_all}
use Rattle.pgp_values.proofs.formats.format_in.Goals as goal

pub loop-low-preserved-then-number-oid : goal.loop-low-preserved-then-number-oid
loop-low-preserved-then-number-oid c =
    let inv = c.loop-low.invariant in
    let mid = c.loop-low.low + (c.loop-low.high - c.loop-low.low) / 2 in
    (omega arith, inv.1, behind_one c.args.table.now mid c.args.oid _ c.requires (omega arith) c.if-number-oid.true, inv.3)

pub returns-else-oid-number : goal.returns-else-oid-number
returns-else-oid-number c =
    let inv = c.loop-low.invariant in
    let mid = c.loop-low.low + (c.loop-low.high - c.loop-low.low) / 2 in
    sym (found c.args.table.now mid c.args.oid _ c.requires (omega arith) (omega (arith, c.if-oid-number.false, c.if-number-oid.false)))

pub returns : goal.returns
returns c =
    let inv = c.loop-low.invariant in
    let table = c.args.table.now in
    let met : c.loop-low.low ≡ c.loop-low.high = omega arith in
    sym (inv.2 ∙ ap (λ k. format_in (drop k table) c.args.oid) met
    ∙ elim (cases_lt c.loop-low.high (length table)) [
      | inl within ↦ before_one table c.loop-low.high c.args.oid (0, Array) c.requires within (inv.3 within (0, Array))
      | inr past ↦ behind_all table c.loop-low.high c.args.oid past
    ])
