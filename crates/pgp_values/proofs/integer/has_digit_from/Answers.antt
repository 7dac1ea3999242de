use Rattle.pgp_values.proofs.Common.{◌≡◌, ◌∙◌, inl, inr, arith, sym, cases_lt, get_or_past, digit_in}
use Rattle.pgp_values.proofs.integer.has_digit_from.Goals as goal

pub returns-then-digit-ne0 : goal.returns-then-digit-ne0
returns-then-digit-ne0 c = (c.loop-i.i, omega arith, λ z. c.if-digit-ne0.true (c.digit.ensures.value ∙ z))

pub loop-i-preserved : goal.loop-i-preserved
loop-i-preserved c = λ k from less.
    elim (cases_lt k c.loop-i.i) [
      | inl before ↦ c.loop-i.invariant k from before
      | inr after ↦ let at : k ≡ c.loop-i.i = omega arith in let here : digit_in c.args.d.now.digits c.loop-i.i ≡ 0 = sym c.digit.ensures.value ∙ c.if-digit-ne0.false in rw at here
    ]

pub returns : goal.returns
returns c = λ k from.
    elim (cases_lt k c.loop-i.i) [
      | inl before ↦ c.loop-i.invariant k from before
      | inr after ↦ get_or_past c.args.d.now.digits k 0 (omega arith)
    ]
