-- What is said at the end of a run.
use Rattle.pgtrace_session.proofs.Common.{◌≡◌, ℕ, List, [], ◌++◌, length, take, Option, Result, Ok, Err, ap, ◌∙◌, arith, OnOk, OnErr, Appends, Appends-trans, append-nil, length-take, take-append-le, AppendsFront, more_taken}

-- a front of some bytes is one of more
pub longer : (old new : Option (List ℕ)) (xs ys : List ℕ) → AppendsFront old new xs → AppendsFront old new (xs ++ ys)
longer old new xs ys front = record {
  taken = front.taken;
  is_front = take-append-le (length front.taken) xs ys (let h : length (take (length front.taken) xs) ≡ length front.taken = ap length front.is_front in omega (arith, h, length-take (length front.taken) xs)) ∙ front.is_front;
  written = front.written;
}

pub alone : (text : List ℕ) → text ++ [] ++ [] ≡ text
alone text = append-nil (text ++ []) ∙ append-nil text

module _ {T E : Type 0} where
  pub third_written : (r : Result T E) (old one two new : Option (List ℕ)) (a b c : List ℕ) → Appends old one a → Appends one two b → OnOk r (Appends two new c) → OnOk r (Appends old new (a ++ b ++ c))
  third_written (Ok x) old one two new a b c p q s = Appends-trans old two new (a ++ b) c (Appends-trans old one two a b p q) s
  third_written (Err e) old one two new a b c p q s = tt

  pub third_front : (r : Result T E) (old one two new : Option (List ℕ)) (a b c : List ℕ) → Appends old one a → Appends one two b → OnErr r (AppendsFront two new c) → OnErr r (AppendsFront old new (a ++ b ++ c))
  third_front (Ok x) old one two new a b c p q s = tt
  third_front (Err e) old one two new a b c p q s = more_taken old two new (a ++ b) c (Appends-trans old one two a b p q) s

pub second_front : (old one new : Option (List ℕ)) (a b c : List ℕ) → Appends old one a → AppendsFront one new b → AppendsFront old new (a ++ b ++ c)
second_front old one new a b c p q = longer old new (a ++ b) c (more_taken old one new a b p q)

pub first_front : (old new : Option (List ℕ)) (a b c : List ℕ) → AppendsFront old new a → AppendsFront old new (a ++ b ++ c)
first_front old new a b c p = longer old new (a ++ b) c (longer old new a b p)
