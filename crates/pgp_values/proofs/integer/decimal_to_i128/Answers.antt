use Rattle.pgp_values.proofs.Common.{◌≡◌, subst, sym, ◌∙◌, FitsSigned, Bool, true, false, ℤ, w128, to_z-of_z, with_sign, IsInteger, whole_value, HasDigitFrom}
use Rattle.pgp_values.proofs.IntegerLemmas.{no_integer, integer_is, past_all_types, sign_as}
use Rattle.pgp_values.proofs.integer.decimal_to_i128.Goals as goal

pub returns-then-has_digit_from : goal.returns-then-has_digit_from
returns-then-has_digit_from c =
    let some : HasDigitFrom c.whole_len-len.result c.args.d.now.digits true = subst (λ (b : Bool). HasDigitFrom c.whole_len-len.result c.args.d.now.digits b) c.if-has_digit_from.true c.has_digit_from.ensures in
    no_integer c.args.d.now c.whole_len-len.result c.has_digits.ensures c.whole_len-len.ensures.value some

pub returns-in_default : goal.returns-in_default
returns-in_default c =
    let d = c.args.d.now in
    let none : HasDigitFrom c.whole_len-len.result d.digits false = subst (λ (b : Bool). HasDigitFrom c.whole_len-len.result d.digits b) c.if-has_digit_from.false c.has_digit_from.ensures in
    (with_sign d.negative (whole_value d.digits c.whole_len-len.result), integer_is d c.whole_len-len.result c.whole_len-len.ensures.value none, past_all_types d.negative (whole_value d.digits c.whole_len-len.result) c.in_default.ensures)

pub returns-in-Some-with_sign : goal.returns-in-Some-with_sign
returns-in-Some-with_sign c =
    let d = c.args.d.now in
    let m = whole_value d.digits c.whole_len-len.result in
    let none : HasDigitFrom c.whole_len-len.result d.digits false = subst (λ (b : Bool). HasDigitFrom c.whole_len-len.result d.digits b) c.if-has_digit_from.false c.has_digit_from.ensures in
    let same : with_sign c.is_negative.result c.in-Some.magnitude ≡ with_sign d.negative m = sign_as c.is_negative.result d.negative c.in-Some.magnitude m c.is_negative.ensures c.in-Some.ensures.1 in
    let is : c.in-Some-with_sign.n ≡ with_sign d.negative m = c.in-Some-with_sign.ensures.1 ∙ same in
    let fits : FitsSigned w128 c.in-Some-with_sign.n = subst (λ (z : ℤ). FitsSigned w128 z) (sym c.in-Some-with_sign.ensures.1) c.in-Some-with_sign.ensures.0 in
    rw (to_z-of_z fits) (subst (λ (z : ℤ). IsInteger d z) (sym is) (integer_is d c.whole_len-len.result c.whole_len-len.ensures.value none), fits)

pub returns-in-None : goal.returns-in-None
returns-in-None c =
    let d = c.args.d.now in
    let m = whole_value d.digits c.whole_len-len.result in
    let none : HasDigitFrom c.whole_len-len.result d.digits false = subst (λ (b : Bool). HasDigitFrom c.whole_len-len.result d.digits b) c.if-has_digit_from.false c.has_digit_from.ensures in
    let same : with_sign c.is_negative.result c.in-Some.magnitude ≡ with_sign d.negative m = sign_as c.is_negative.result d.negative c.in-Some.magnitude m c.is_negative.ensures c.in-Some.ensures.1 in
    (with_sign d.negative m, integer_is d c.whole_len-len.result c.whole_len-len.ensures.value none, λ f. c.in-None.ensures (subst (λ (z : ℤ). FitsSigned w128 z) (sym same) f))
