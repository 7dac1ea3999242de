-- The only cause of a value is that it is too long.
use Rattle.for_c.proofs.Common.{◌≡◌, ℕ, List, length, Option, Some, None, sym, ap, ◌∙◌, arith, inl, inr, cases_lt, Cause, either, length_cause, nullable_cause, Error, TooLarge, length_fits, length_past, Side, range_cause, side_cause, Inclusive, Exclusive, Unbounded, range_of_sides, side_of}
use Rattle.for_c.specs.declared.range.PgpSide.{PgpSide}

abbrev pub IsLarge : Cause → Type 0
IsLarge c = (e : Error) → c ≡ Some e → e ≡ TooLarge

abbrev pub error_in : Cause → Error
error_in None = TooLarge
error_in (Some e) = e

pub length_large : (n : ℕ) → IsLarge (length_cause n)
length_large n e is = elim (cases_lt 2147483647 n) [
  | inl long ↦ sym (ap error_in is) ∙ ap error_in (length_past n (omega (arith, long)))
  | inr few ↦ absurd (let none : length_cause n ≡ None = length_fits n (omega (arith, few)) in let e = sym none ∙ is in cc)
]

pub value_large : (v : Option (List ℕ)) → IsLarge (nullable_cause v)
value_large None e is = absurd cc
value_large (Some v) e is = length_large (length v) e is

side_large : (s : Side) → IsLarge (side_cause s)
side_large Unbounded e is = absurd cc
side_large (Inclusive v) e is = value_large v e is
side_large (Exclusive v) e is = value_large v e is

pub either_large : (c d : Cause) → IsLarge c → IsLarge d → IsLarge (either c d)
either_large None d first second e is = second e is
either_large (Some x) d first second e is = first e is

pub range_large : (l u : PgpSide) → IsLarge (range_cause (range_of_sides l u))
range_large l u e is = either_large (side_cause (side_of l)) (side_cause (side_of u)) (side_large (side_of l)) (side_large (side_of u)) e is
