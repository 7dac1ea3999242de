use Rattle.std.proofs.Common.{◌≢◌, ℕ, ◌*◌, ◌^◌, ◌≤◌, ◌-◌, List, Option, Some, None, sym, subst, arith, IfSome, IfNone}
use Rattle.pgp_value_text.proofs.Common.{trimmed, HasDigits, ShowsSize, decimal}
use Rattle.pgp_value_text.specs.declared.rounded.Pointed.{Pointed}
use Rattle.pgp_value_text.proofs.Sizes.{moved_back, moved_large, moved_shows, moved_small, zero_shows}
use Rattle.pgp_value_text.proofs.rounded.plain.Goals as goal

pub returns-then-num-eq0-clause-some : goal.returns-then-num-eq0-clause-some
returns-then-num-eq0-clause-some c = (omega arith, subst (λ n. ShowsSize c.args.digits (n * 2 ^ c.args.up) (2 ^ c.args.low) (decimal 0)) (sym c.if-num-eq0.true) (zero_shows c.args.up (2 ^ c.args.low) c.args.digits))

pub returns-then-up-low-clause-none : goal.returns-then-up-low-clause-none
returns-then-up-low-clause-none c =
    (c.if-num-eq0.false, λ t h. moved_large c.args.num c.args.up c.args.low c.args.digits t c.if-up-low.true (c.requires.whole c.if-num-eq0.false c.if-up-low.true) h)

pub returns-then-low-up-gt120-clause-none : goal.returns-then-low-up-gt120-clause-none
returns-then-low-up-gt120-clause-none c = (
  c.if-num-eq0.false,
  λ t h. moved_small c.args.num c.args.up c.args.low c.args.digits t c.if-num-eq0.false c.requires.small.0 c.requires.small.1 (omega (arith, c.if-low-up-gt120.true, c.if-up-low.false)) h,
)

module _ (num up low digits : ℕ) (some : num ≢ 0) (lower : up ≤ low) where
  shown : (r : Option Pointed) → IfSome r (λ x. (x.places ≤ 18) × HasDigits digits num (2 ^ (low - up)) (trimmed x.places x.number))
      → IfSome r (λ x. (x.places ≤ 18) × ShowsSize digits (num * 2 ^ up) (2 ^ low) (trimmed x.places x.number))
  shown (Some x) h = (h.0, moved_shows num up low digits (trimmed x.places x.number) some lower h.1)
  shown None h = h

  unshown : (r : Option Pointed) → IfNone r ((t : List ℕ) → HasDigits digits num (2 ^ (low - up)) t → ⊥) → IfNone r ((num ≢ 0) × ((t : List ℕ) → HasDigits digits (num * 2 ^ up) (2 ^ low) t → ⊥))
  unshown (Some x) h = h
  unshown None h = (some, λ t s. h t (moved_back num up low digits t some lower s))

pub returns-clause-some : goal.returns-clause-some
returns-clause-some c = shown c.args.num c.args.up c.args.low c.args.digits c.if-num-eq0.false (omega (arith, c.if-up-low.false)) c.rounded.result c.rounded.ensures.some

pub returns-clause-none : goal.returns-clause-none
returns-clause-none c = unshown c.args.num c.args.up c.args.low c.args.digits c.if-num-eq0.false (omega (arith, c.if-up-low.false)) c.rounded.result c.rounded.ensures.none
