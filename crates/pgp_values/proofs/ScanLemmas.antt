-- The parts of a number's text stand in it in one way.
use Rattle.pgp_values.proofs.Common.{◌≡◌, ◌≢◌, ◌⊎◌, inl, inr, ℕ, zero, suc, ◌+◌, ◌<◌, ◌≤◌, Bool, true, false, List, [], ◌∷◌, ◌++◌, length, map, take, drop, get_or, Result, Ok, Err, refl, sym, ap, subst, ◌∙◌, arith, append-nil, nil_from_length, AllByRecursion, IfErr, NumericError, InvalidText, OutOfRange, spelled, digit_value, IsBlank, IsDigit, SignText, PointText, MarkedText, RaisedText, ExponentText, NumberText, NotAt, NotEnd, Front, IsSign, SignFront, PointFront, MarkedRefused, RaisedRefused, ExponentRefused, WrittenRefused}
use Rattle.std.specs.Bool.{◌==◌}

pub heads : (a b : ℕ) (x y : List ℕ) → a ∷ x ≡ b ∷ y → a ≡ b
heads a b x y e = ap (λ (l : List ℕ). get_or l 0 0) e

pub tails : (a b : ℕ) (x y : List ℕ) → a ∷ x ≡ b ∷ y → x ≡ y
tails a b x y e = ap (λ (l : List ℕ). drop 1 l) e

pub joins : (a b : ℕ) (x y : List ℕ) → a ≡ b → x ≡ y → a ∷ x ≡ b ∷ y
joins a b x y e h = rw (e, h) refl

-- what a test of a length says

pub some_of : (n : ℕ) → false ≡ (n == 0) → n ≢ 0
some_of n e z = let f : false ≡ true = e ∙ ap (λ k. k == 0) z in cc

pub none_of : (n : ℕ) → true ≡ (n == 0) → n ≡ 0
none_of n e = grind arith

-- Of two fronts that are each as long as can be, both are the same.

module _ (P : ℕ → Type 0) where
  pub munch : (a b x y : List ℕ) → AllByRecursion P a → AllByRecursion P b → NotAt P x → NotAt P y → a ++ x ≡ b ++ y → (a ≡ b) × (x ≡ y)
  munch [] [] x y ha hb nx ny e = (refl, e)
  munch [] (d ∷ b) x y ha hb nx ny e = absurd (let n : NotAt P (d ∷ (b ++ y)) = subst (NotAt P) e nx in n hb.0)
  munch (c ∷ a) [] x y ha hb nx ny e = absurd (let n : NotAt P (c ∷ (a ++ x)) = subst (NotAt P) (sym e) ny in n ha.0)
  munch (c ∷ a) (d ∷ b) x y ha hb nx ny e =
      let rest = munch a b x y ha.1 hb.1 nx ny (tails c d (a ++ x) (b ++ y) e) in
      (joins c d a b (heads c d (a ++ x) (b ++ y) e) rest.0, rest.1)

  pub at_drop : (l : List ℕ) (i : ℕ) → (P (get_or l i 0) → ⊥) → NotAt P (drop i l)
  at_drop [] zero h = tt
  at_drop [] (suc i) h = tt
  at_drop (b ∷ l) zero h = h
  at_drop (b ∷ l) (suc i) h = at_drop l i h

  pub end_take : (l : List ℕ) (k : ℕ) → k < length l → (P (get_or l k 0) → ⊥) → NotEnd P (take (suc k) l)
  end_take [] k lt h = absurd (omega arith)
  end_take (b ∷ l) zero lt h = h
  end_take (b ∷ []) (suc k) lt h = absurd (omega arith)
  end_take (b ∷ d ∷ l) (suc k) lt h = end_take (d ∷ l) k (omega arith) h

  no_end : (b : ℕ) (l y x : List ℕ) → AllByRecursion P x → x ≡ b ∷ (l ++ y) → NotEnd P (b ∷ l) → ⊥
  no_end b [] y [] hx e n = cc
  no_end b [] y (c ∷ x) hx e n = n (subst P (heads c b x y e) hx.0)
  no_end b (d ∷ l) y [] hx e n = cc
  no_end b (d ∷ l) y (c ∷ x) hx e n = no_end d l y x hx.1 (tails c b x (d ∷ (l ++ y)) e) n

  end_tail : (b : ℕ) (l : List ℕ) → NotEnd P (b ∷ l) → NotEnd P l
  end_tail b [] n = tt
  end_tail b (d ∷ l) n = n

  pub munch_back : (a b x y : List ℕ) → AllByRecursion P x → AllByRecursion P y → NotEnd P a → NotEnd P b → a ++ x ≡ b ++ y → a ≡ b
  munch_back [] [] x y hx hy na nb e = refl
  munch_back [] (d ∷ b) x y hx hy na nb e = absurd (no_end d b y x hx e nb)
  munch_back (c ∷ a) [] x y hx hy na nb e = absurd (no_end c a x y hy (sym e) na)
  munch_back (c ∷ a) (d ∷ b) x y hx hy na nb e =
      joins c d a b (heads c d (a ++ x) (b ++ y) e) (munch_back a b x y hx hy (end_tail c a na) (end_tail d b nb) (tails c d (a ++ x) (b ++ y) e))

  pub not_at_append : (a x : List ℕ) → a ≢ [] → NotAt P a → NotAt P (a ++ x)
  not_at_append [] x h n = absurd (h refl)
  not_at_append (b ∷ a) x h n = n

  pub end_append : (x a : List ℕ) → a ≢ [] → NotEnd P a → NotEnd P (x ++ a)
  end_append [] a h n = n
  end_append (b ∷ []) [] h n = absurd (h refl)
  end_append (b ∷ []) (d ∷ a) h n = n
  end_append (b ∷ e ∷ x) a h n = end_append (e ∷ x) a h n

-- bytes of one kind are of no other
pub not_at_of : (P Q : ℕ → Type 0) (l : List ℕ) → AllByRecursion P l → ((b : ℕ) → P b → Q b → ⊥) → NotAt Q l
not_at_of P Q [] h f = tt
not_at_of P Q (b ∷ l) h f = f b h.0

pub end_of : (P Q : ℕ → Type 0) (l : List ℕ) → AllByRecursion P l → ((b : ℕ) → P b → Q b → ⊥) → NotEnd Q l
end_of P Q [] h f = tt
end_of P Q (b ∷ []) h f = f b h.0
end_of P Q (b ∷ d ∷ l) h f = end_of P Q (d ∷ l) h.1 f

-- signs

pub digit_no_sign : (b : ℕ) → IsDigit b → IsSign b → ⊥
digit_no_sign b d (inl e) = omega (arith, d.0)
digit_no_sign b d (inr e) = omega (arith, d.0)

pub digit_no_blank : (b : ℕ) → IsDigit b → IsBlank b → ⊥
digit_no_blank b d (inl e) = omega (arith, d.0)
digit_no_blank b d (inr e) = omega (arith, d.0, e.1)

pub point_no_sign : (b : ℕ) → b ≡ 46 → IsSign b → ⊥
point_no_sign b e (inl x) = omega arith
point_no_sign b e (inr x) = omega arith

-- a front that isn't at a sign is none after one
at_sign : (b : ℕ) (x y : List ℕ) → NotAt IsSign x → x ≡ b ∷ y → IsSign b → ⊥
at_sign b [] y n e h = cc
at_sign b (c ∷ x) y n e h = n (subst IsSign (sym (heads c b x y e)) h)

sign_once_by : (m n : Bool) (s t x y : List ℕ) → SignText m s → SignText n t → (s ≡ [] → NotAt IsSign x) → (t ≡ [] → NotAt IsSign y) → s ++ x ≡ t ++ y → (m ≡ n) × (x ≡ y)
sign_once_by false false s t x y (inl a) (inl b) nx ny e = (refl, ap (λ l. l ++ x) (sym a) ∙ (e ∙ ap (λ l. l ++ y) b))
sign_once_by false false s t x y (inl a) (inr b) nx ny e = absurd (at_sign 43 x y (nx a) (ap (λ l. l ++ x) (sym a) ∙ (e ∙ ap (λ l. l ++ y) b)) (inl refl))
sign_once_by false false s t x y (inr a) (inl b) nx ny e = absurd (at_sign 43 y x (ny b) (sym (ap (λ l. l ++ x) (sym a) ∙ (e ∙ ap (λ l. l ++ y) b))) (inl refl))
sign_once_by false false s t x y (inr a) (inr b) nx ny e = (refl, tails 43 43 x y (ap (λ l. l ++ x) (sym a) ∙ (e ∙ ap (λ l. l ++ y) b)))
sign_once_by false true s t x y (inl a) b nx ny e = absurd (at_sign 45 x y (nx a) (ap (λ l. l ++ x) (sym a) ∙ (e ∙ ap (λ l. l ++ y) b)) (inr refl))
sign_once_by false true s t x y (inr a) b nx ny e = let n = heads 43 45 x y (ap (λ l. l ++ x) (sym a) ∙ (e ∙ ap (λ l. l ++ y) b)) in absurd (omega (arith, n))
sign_once_by true false s t x y a (inl b) nx ny e = absurd (at_sign 45 y x (ny b) (sym (ap (λ l. l ++ x) (sym a) ∙ (e ∙ ap (λ l. l ++ y) b))) (inr refl))
sign_once_by true false s t x y a (inr b) nx ny e = let n = heads 45 43 x y (ap (λ l. l ++ x) (sym a) ∙ (e ∙ ap (λ l. l ++ y) b)) in absurd (omega (arith, n))
sign_once_by true true s t x y a b nx ny e = (refl, tails 45 45 x y (ap (λ l. l ++ x) (sym a) ∙ (e ∙ ap (λ l. l ++ y) b)))

pub sign_once : (bytes : List ℕ) (m n : Bool) (x y : List ℕ) → SignFront bytes m x → SignFront bytes n y → (m ≡ n) × (x ≡ y)
sign_once bytes m n x y a b = sign_once_by m n a.sign b.sign x y a.signed b.signed a.stops b.stops (sym a.all ∙ b.all)

plus_no_blank : IsBlank 43 → ⊥
plus_no_blank (inl x) = omega arith
plus_no_blank (inr x) = omega (arith, x.1)

minus_no_blank : IsBlank 45 → ⊥
minus_no_blank (inl x) = omega arith
minus_no_blank (inr x) = omega (arith, x.1)

pub sign_no_blank : (n : Bool) (s l : List ℕ) → SignText n s → NotAt IsBlank l → NotAt IsBlank (s ++ l)
sign_no_blank false s l (inl e) h = rw e h
sign_no_blank false s l (inr e) h = rw e plus_no_blank
sign_no_blank true s l e h = rw e minus_no_blank

-- what is marked

pub marked_front : (d : Bool) (x : ℕ) (bytes : List ℕ) (m : MarkedText d x bytes) → SignFront bytes d m.digits
marked_front d x bytes m = record { sign = m.sign; signed = m.signed; stops = λ _. not_at_of IsDigit IsSign m.digits m.are digit_no_sign; all = m.whole }

pub record SameMarked (d n : Bool) (xs ds rest : List ℕ) : Type 0 where
  pub divided : d ≡ n
  pub digits : xs ≡ ds
  pub left : rest ≡ []

pub marked_digits : (d n : Bool) (x : ℕ) (bytes rest ds left : List ℕ) (m : MarkedText d x bytes) → SignFront bytes n rest → Front IsDigit rest ds left → SameMarked d n m.digits ds left
marked_digits d n x bytes rest ds left m s f =
    let one = sign_once bytes d n m.digits rest (marked_front d x bytes m) s in
    let both = munch IsDigit m.digits ds [] left m.are f.are tt f.stops (append-nil m.digits ∙ (one.1 ∙ f.all)) in
    record { divided = one.0; digits = both.0; left = sym both.1 }

module _ (bytes rest ds left : List ℕ) (n : Bool) (s : SignFront bytes n rest) (f : Front IsDigit rest ds left) where
  pub no_digits : length ds ≡ 0 → (d : Bool) (x : ℕ) → MarkedText d x bytes → ⊥
  no_digits e d x m = m.some (ap length (marked_digits d n x bytes rest ds left m s f).digits ∙ e)

  pub more_left : length left ≢ 0 → (d : Bool) (x : ℕ) → MarkedText d x bytes → ⊥
  more_left e d x m = e (ap length (marked_digits d n x bytes rest ds left m s f).left)

  pub marked_is : length ds ≢ 0 → length left ≡ 0 → (x : ℕ) → x ≡ spelled 10 (map digit_value ds) → MarkedText n x bytes
  marked_is some none x is = record {
    sign = s.sign;
    signed = s.signed;
    digits = ds;
    are = f.are;
    some = some;
    counts = is;
    whole = s.all ∙ ap (λ l. s.sign ++ l) (f.all ∙ (ap (λ l. ds ++ l) (nil_from_length left none) ∙ append-nil ds));
  }

-- an exponent past the limit
pub refused_past : (bytes : List ℕ) (n : Bool) (ds : List ℕ) (e : NumericError) → e ≡ OutOfRange → 1073741823 ≤ spelled 10 (map digit_value ds) → ((x : ℕ) → x ≡ spelled 10 (map digit_value ds) → MarkedText n x bytes) → MarkedRefused bytes e
refused_past bytes n ds e is past m = subst (MarkedRefused bytes) (sym is) (n, spelled 10 (map digit_value ds), m (spelled 10 (map digit_value ds)) refl, past)

pub marked_no_blank : (d : Bool) (x : ℕ) (bytes : List ℕ) → MarkedText d x bytes → NotAt IsBlank bytes
marked_no_blank d x bytes m = rw m.whole (sign_no_blank d m.sign m.digits m.signed (not_at_of IsDigit IsBlank m.digits m.are digit_no_blank))

-- an exponent

module _ (letter : ℕ) (bytes rest before inside : List ℕ) (is : (letter ≡ 101) ⊎ (letter ≡ 69)) (e : bytes ≡ letter ∷ rest) (f : Front IsBlank rest before inside) where
  pub raised_is : (d : Bool) (x : ℕ) → MarkedText d x inside → RaisedText d x bytes
  raised_is d x m = record { letter = letter; is = is; blanks = before; are = f.are; marked = inside; reports = m; all = e ∙ ap (λ l. letter ∷ l) f.all }

  marked_of : (d : Bool) (x : ℕ) → RaisedText d x bytes → MarkedText d x inside
  marked_of d x r =
      let same : r.blanks ++ r.marked ≡ before ++ inside = tails r.letter letter (r.blanks ++ r.marked) rest (sym r.all ∙ e) ∙ f.all in
      let one = munch IsBlank r.blanks before r.marked inside r.are f.are (marked_no_blank d x r.marked r.reports) f.stops same in
      subst (MarkedText d x) one.1 r.reports

  pub raised_refused : (error : NumericError) → MarkedRefused inside error → RaisedRefused bytes error
  raised_refused InvalidText never = λ d x r. never d x (marked_of d x r)
  raised_refused OutOfRange w = (w.0, w.1, raised_is w.0 w.1 w.2, w.3)
  raised_refused error never = absurd never

pub raised_at_err : {X : Type 0} (r : Result X NumericError) (letter : ℕ) (bytes rest before inside : List ℕ) → (letter ≡ 101) ⊎ (letter ≡ 69) → bytes ≡ letter ∷ rest → Front IsBlank rest before inside → IfErr r (MarkedRefused inside) → IfErr r (RaisedRefused bytes)
raised_at_err (Ok x) letter bytes rest before inside is e f h = tt
raised_at_err (Err error) letter bytes rest before inside is e f h = raised_refused letter bytes rest before inside is e f error h

pub exponent_refused : (bytes : List ℕ) (e : NumericError) → length bytes ≢ 0 → RaisedRefused bytes e → ExponentRefused bytes e
exponent_refused bytes InvalidText some never = λ d x r. elim r [ inl n ↦ some (ap length n.0) | inr w ↦ never d x w ]
exponent_refused bytes OutOfRange some w = (w.0, w.1, inr w.2, w.3)
exponent_refused bytes e some never = absurd never

pub exponent_at_err : {X : Type 0} (r : Result X NumericError) (bytes : List ℕ) → length bytes ≢ 0 → IfErr r (RaisedRefused bytes) → IfErr r (ExponentRefused bytes)
exponent_at_err (Ok x) bytes some h = tt
exponent_at_err (Err e) bytes some h = exponent_refused bytes e some h

letter_no_digit : (letter : ℕ) → (letter ≡ 101) ⊎ (letter ≡ 69) → IsDigit letter → ⊥
letter_no_digit letter (inl e) d = omega (arith, d.1)
letter_no_digit letter (inr e) d = omega (arith, d.1)

letter_no_point : (letter : ℕ) → (letter ≡ 101) ⊎ (letter ≡ 69) → letter ≡ 46 → ⊥
letter_no_point letter (inl e) d = omega arith
letter_no_point letter (inr e) d = omega arith

pub exponent_digit : (d : Bool) (x : ℕ) (bytes : List ℕ) → ExponentText d x bytes → NotAt IsDigit bytes
exponent_digit d x bytes (inl n) = rw n.0 tt
exponent_digit d x bytes (inr r) = rw r.all (letter_no_digit r.letter r.is)

pub exponent_point : (d : Bool) (x : ℕ) (bytes : List ℕ) → ExponentText d x bytes → NotAt (λ b. b ≡ 46) bytes
exponent_point d x bytes (inl n) = rw n.0 tt
exponent_point d x bytes (inr r) = rw r.all (letter_no_point r.letter r.is)

-- a number

point_no_digit : IsDigit 46 → ⊥
point_no_digit b = omega (arith, b.0)

pub point_digits : (fraction p x : List ℕ) → PointText fraction p → NotAt IsDigit x → NotAt IsDigit (p ++ x)
point_digits fraction p x (inl e) h = rw e point_no_digit
point_digits fraction p x (inr e) h = rw e.0 h

pub number_begins : (Q : ℕ → Type 0) → ((b : ℕ) → IsDigit b → Q b → ⊥) → ((b : ℕ) → b ≡ 46 → Q b → ⊥) → (whole fraction p x : List ℕ) → AllByRecursion IsDigit whole → PointText fraction p → length whole + length fraction ≢ 0 → NotAt Q (whole ++ (p ++ x))
number_begins Q digit point [] fraction p x are (inl e) some = rw e (point 46 refl)
number_begins Q digit point [] fraction p x are (inr e) some = absurd (some (omega (arith, ap length e.1)))
number_begins Q digit point (b ∷ whole) fraction p x are pointed some = digit b are.0

at_point : (x y : List ℕ) → NotAt (λ b. b ≡ 46) x → x ≡ 46 ∷ y → ⊥
at_point [] y n e = cc
at_point (c ∷ x) y n e = n (heads c 46 x y e)

point_once : (f g p q x y : List ℕ) → PointText f p → PointText g q → AllByRecursion IsDigit f → AllByRecursion IsDigit g → NotAt IsDigit x → (p ≡ [] → NotAt (λ b. b ≡ 46) x) → (q ≡ [] → NotAt (λ b. b ≡ 46) y) → (q ≡ 46 ∷ g → NotAt IsDigit y)
    → p ++ x ≡ q ++ y → (f ≡ g) × (x ≡ y)
point_once f g p q x y (inl a) (inl b) hf hg nx px py ny e =
    munch IsDigit f g x y hf hg nx (ny b) (tails 46 46 (f ++ x) (g ++ y) (ap (λ l. l ++ x) (sym a) ∙ (e ∙ ap (λ l. l ++ y) b)))
point_once f g p q x y (inl a) (inr b) hf hg nx px py ny e = absurd (at_point y (f ++ x) (py b.0) (sym (ap (λ l. l ++ x) (sym a) ∙ (e ∙ ap (λ l. l ++ y) b.0))))
point_once f g p q x y (inr a) (inl b) hf hg nx px py ny e = absurd (at_point x (g ++ y) (px a.0) (ap (λ l. l ++ x) (sym a.0) ∙ (e ∙ ap (λ l. l ++ y) b)))
point_once f g p q x y (inr a) (inr b) hf hg nx px py ny e = (a.1 ∙ sym b.1, ap (λ l. l ++ x) (sym a.0) ∙ (e ∙ ap (λ l. l ++ y) b.0))

pub record SameNumber (n m : Bool) (w v f g x y : List ℕ) : Type 0 where
  pub negative : n ≡ m
  pub whole : w ≡ v
  pub fraction : f ≡ g
  pub rest : x ≡ y

pub number_front : (bytes : List ℕ) (n : Bool) (w f : List ℕ) (d : Bool) (x : ℕ) (t : NumberText bytes n w f d x) → SignFront bytes n (w ++ (t.point ++ t.raised))
number_front bytes n w f d x t = record { sign = t.sign; signed = t.signed; stops = λ _. number_begins IsSign digit_no_sign point_no_sign w f t.point t.raised t.are_whole t.pointed t.some; all = t.all }

pub number_parts : (bytes : List ℕ) (n m : Bool) (w f : List ℕ) (d : Bool) (x : ℕ) (t : NumberText bytes n w f d x) (rest v behind g left : List ℕ)
    → SignFront bytes m rest → Front IsDigit rest v behind → PointFront behind g left → SameNumber n m w v f g t.raised left
number_parts bytes n m w f d x t rest v behind g left s front p =
    let none = exponent_digit d x t.raised t.raises in
    let one = sign_once bytes n m (w ++ (t.point ++ t.raised)) rest (number_front bytes n w f d x t) s in
    let two = munch IsDigit w v (t.point ++ t.raised) behind t.are_whole front.are (point_digits f t.point t.raised t.pointed none) front.stops (one.1 ∙ front.all) in
    let three = point_once f g t.point p.point t.raised left t.pointed p.pointed t.are_fraction p.are none (λ _. exponent_point d x t.raised t.raises) p.none p.stops (two.1 ∙ p.all) in
    record { negative = one.0; whole = two.0; fraction = three.0; rest = three.1 }

module _ (bytes rest v behind g left : List ℕ) (m : Bool) (s : SignFront bytes m rest) (front : Front IsDigit rest v behind) (p : PointFront behind g left) where
  pub number_is : (d : Bool) (x : ℕ) → length v + length g ≢ 0 → ExponentText d x left → NumberText bytes m v g d x
  number_is d x some e = record {
    sign = s.sign;
    signed = s.signed;
    point = p.point;
    pointed = p.pointed;
    raised = left;
    raises = e;
    are_whole = front.are;
    are_fraction = p.are;
    some = some;
    all = s.all ∙ ap (λ l. s.sign ++ l) (front.all ∙ ap (λ l. v ++ l) p.all);
  }

  pub written_refused : length v + length g ≢ 0 → (e : NumericError) → ExponentRefused left e → WrittenRefused bytes e
  written_refused some InvalidText never = λ n w f d x t. never d x (subst (ExponentText d x) (number_parts bytes n m w f d x t rest v behind g left s front p).rest t.raises)
  written_refused some OutOfRange w = (m, v, g, w.0, w.1, number_is w.0 w.1 some w.2, w.3)
  written_refused some e never = absurd never

  pub nothing_written : length v ≡ 0 → length g ≡ 0 → (n : Bool) (w f : List ℕ) (d : Bool) (x : ℕ) → NumberText bytes n w f d x → ⊥
  nothing_written a b n w f d x t =
      let same = number_parts bytes n m w f d x t rest v behind g left s front p in
      t.some (omega (arith, ap length same.whole, ap length same.fraction))
