use Rattle.pgp_saslprep.proofs.Common.{◌≡◌, ◌+◌, ◌-◌, ◌/◌, length, drop, sym, ap, ◌∙◌, arith, inl, inr, cases_lt, in_table}
use Rattle.pgp_saslprep.proofs.Halving.{behind_one, before_one, in_one, behind_all}
use Rattle.pgp_saslprep.proofs.mapping.lists.Goals as goal

pub loop-low-preserved-then-last-code : goal.loop-low-preserved-then-last-code
loop-low-preserved-then-last-code c =
    let inv = c.loop-low.invariant in
    let mid = c.loop-low.low + (c.loop-low.high - c.loop-low.low) / 2 in
    (omega arith, inv.1, behind_one c.args.table.now mid c.args.c _ c.requires (omega arith) c.if-last-code.true, inv.3)

pub returns-else-code-first : goal.returns-else-code-first
returns-else-code-first c =
    let inv = c.loop-low.invariant in
    let mid = c.loop-low.low + (c.loop-low.high - c.loop-low.low) / 2 in
    sym (in_one c.args.table.now mid c.args.c _ (omega arith) c.if-code-first.false c.if-last-code.false)

pub returns : goal.returns
returns c =
    let inv = c.loop-low.invariant in
    let table = c.args.table.now in
    let met : c.loop-low.low ≡ c.loop-low.high = omega arith in
    sym (inv.2 ∙ ap (λ k. in_table (drop k table) c.args.c) met
    ∙ elim (cases_lt c.loop-low.high (length table)) [
      | inl within ↦ before_one table c.loop-low.high c.args.c (0, 0) c.requires within (inv.3 within (0, 0))
      | inr past ↦ behind_all table c.loop-low.high c.args.c past
    ])
