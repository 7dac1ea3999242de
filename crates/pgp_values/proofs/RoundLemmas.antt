-- A text means one value, and the text of a value that a server keeps means that value.
use Rattle.pgp_values.proofs.Common.{◌≡◌, ◌≢◌, ◌⊎◌, inl, inr, ℕ, zero, suc, ℤ, pos, negsuc, ◌+◌, ◌-◌, ◌*◌, ◌/◌, ◌%◌, ◌<◌, ◌≤◌, ◌^◌, Bool, true, false, cond, ltb, List, [], ◌∷◌, ◌++◌, length, map, get_or, refl, sym, ap, subst, ◌∙◌, arith, append_assoc, FitsSigned, w16, length-append, ne_eqb, lt-ltb, le-ltb, append-nil, length-map, map-append, AllByRecursion, NumericError, InvalidText, OutOfRange, spelled, IsShown, before_point, behind_by, Decimal, Numeric, finite, nan, plus_infinity, minus_infinity, IsDecimal, IsDigits, IsCanonical, decimal_in, decimal_at, run, stripped, whole_places, whole_digits, behind_point, fraction_digits, text_digits, has_digit, shown_sign, letter, sign_text, fraction_text, decimal_text, numeric_text, Reported, reported_by, digit_value, IsNumberOf, IsValueOf, IsKept, IsPast, TellsOrNames, TextMeans, TextRefused, IsBlank, IsDigit, SignText, PointText, MarkedText, ExponentText, NumberText, IsBlanked, Spells, Tells, Names, lower, inf_word, infinity_word, nan_word, infinity_of, SpecialText, NotAt, Front, Trimmed, SignFront, PointFront}
use Rattle.pgp_values.proofs.AmountLemmas.{same_number}
use Rattle.pgp_values.proofs.MeaningLemmas.{Ends, ends_number, begins_number, special_begins, special_ends, same_inside, IsLetter, IsWord, inf_is, nan_is, word_no_sign}
use Rattle.pgp_values.proofs.OnceLemmas.{number_one, no_amount}
use Rattle.pgp_values.proofs.Pairs.{small_at}
use Rattle.pgp_values.proofs.ScanLemmas.{heads, tails, munch, not_at_append, sign_once, number_front, number_parts, number_begins, point_digits, exponent_digit, exponent_point, marked_front, marked_digits, marked_no_blank}
use Rattle.pgp_values.proofs.TextLemmas.{run_length, fraction_length}

-- what a text without blanks says

exponent_once : (d e : Bool) (x y : ℕ) (r : List ℕ) → ExponentText d x r → ExponentText e y r → (d ≡ e) × (x ≡ y)
exponent_once d e x y r (inl a) (inl b) = (a.1.0 ∙ sym b.1.0, a.1.1 ∙ sym b.1.1)
exponent_once d e x y r (inl a) (inr b) = absurd (let f : [] ≡ b.letter ∷ (b.blanks ++ b.marked) = sym a.0 ∙ b.all in cc)
exponent_once d e x y r (inr a) (inl b) = absurd (let f : [] ≡ a.letter ∷ (a.blanks ++ a.marked) = sym b.0 ∙ a.all in cc)
exponent_once d e x y r (inr a) (inr b) =
    let rest : a.blanks ++ a.marked ≡ b.blanks ++ b.marked = tails a.letter b.letter (a.blanks ++ a.marked) (b.blanks ++ b.marked) (sym a.all ∙ b.all) in
    let one = munch IsBlank a.blanks b.blanks a.marked b.marked a.are b.are (marked_no_blank d x a.marked a.reports) (marked_no_blank e y b.marked b.reports) rest in
    let m = subst (MarkedText d x) one.1 a.reports in
    let same = marked_digits d e x b.marked b.reports.digits b.reports.digits [] m (marked_front e y b.marked b.reports) (record { are = b.reports.are; stops = tt; all = sym (append-nil b.reports.digits) }) in
    (same.divided, m.counts ∙ (ap (λ l. spelled 10 (map digit_value l)) same.digits ∙ sym b.reports.counts))

reported_same : (n m : Bool) (w v f g : List ℕ) (d e : Bool) (x y : ℕ) → n ≡ m → w ≡ v → f ≡ g → d ≡ e → x ≡ y → reported_by n w f d x ≡ reported_by m v g e y
reported_same n m w v f g d e x y a b c h k = rw (a, b, c, h, k) refl

spells_once : (bytes : List ℕ) (t u : Reported) → Spells bytes t → Spells bytes u → t ≡ u
spells_once bytes t u s r =
    let n = r.number in
    let behind = n.point ++ n.raised in
    let digits : Front IsDigit (r.whole ++ behind) r.whole behind = record { are = n.are_whole; stops = point_digits r.fraction n.point n.raised n.pointed (exponent_digit u.divided u.exponent n.raised n.raises); all = refl } in
    let point : PointFront behind r.fraction n.raised = record { point = n.point; pointed = n.pointed; are = n.are_fraction; none = λ _. exponent_point u.divided u.exponent n.raised n.raises; stops = λ _. exponent_digit u.divided u.exponent n.raised n.raises; all = refl } in
    let same = number_parts bytes t.negative u.negative s.whole s.fraction t.divided t.exponent s.number (r.whole ++ behind) r.whole behind r.fraction n.raised (number_front bytes u.negative r.whole r.fraction u.divided u.exponent n) digits point in
    let exponents = exponent_once t.divided u.divided t.exponent u.exponent n.raised (subst (ExponentText t.divided t.exponent) same.rest s.number.raises) n.raises in
    s.reported ∙ (reported_same t.negative u.negative s.whole r.whole s.fraction r.fraction t.divided u.divided t.exponent u.exponent same.negative same.whole same.fraction exponents.0 exponents.1 ∙ sym r.reported)

trimmed_of : (text inside : List ℕ) → IsBlanked text inside → NotAt IsBlank inside → Ends inside → Trimmed text inside
trimmed_of text inside b at end = record {
  before = b.before;
  front = inside ++ b.after;
  after = b.after;
  begins = record { are = b.are_before; stops = not_at_append IsBlank inside b.after end.some at; all = b.all };
  are = b.are_after;
  all = refl;
  stops = end.stops;
}

pub reported_once : (text : List ℕ) (t u : Reported) → Tells text t → Tells text u → t ≡ u
reported_once text t u a b =
    let at = begins_number b.inside u.negative b.spells.whole b.spells.fraction u.divided u.exponent b.spells.number in
    let end = ends_number b.inside u.negative b.spells.whole b.spells.fraction u.divided u.exponent b.spells.number in
    let from = begins_number a.inside t.negative a.spells.whole a.spells.fraction t.divided t.exponent a.spells.number in
    let to = ends_number a.inside t.negative a.spells.whole a.spells.fraction t.divided t.exponent a.spells.number in
    spells_once b.inside t u (subst (λ l. Spells l t) (same_inside text b.inside (trimmed_of text b.inside b.blanked at end) a.inside a.blanked from to) a.spells) b.spells

-- words

word_once : (bytes : List ℕ) (m n : Bool) (x y : List ℕ) → SignFront bytes m x → SignFront bytes n y → infinity_of m ≡ infinity_of n
word_once bytes m n x y a b = ap infinity_of (sign_once bytes m n x y a b).0

word_front : (bytes : List ℕ) (m : Bool) (s rest : List ℕ) → SignText m s → bytes ≡ s ++ rest → IsWord rest → SignFront bytes m rest
word_front bytes m s rest signed all word = record { sign = s; signed = signed; stops = λ _. word_no_sign rest word; all = all }

nan_front : (bytes : List ℕ) → map lower bytes ≡ nan_word → SignFront bytes false bytes
nan_front bytes e = record { sign = []; signed = inl refl; stops = λ _. word_no_sign bytes (nan_is bytes e); all = refl }

nan_no_inf : (bytes : List ℕ) → map lower bytes ≡ nan_word → (map lower bytes ≡ inf_word) ⊎ (map lower bytes ≡ infinity_word) → ⊥
nan_no_inf bytes e (inl f) = let h = heads 110 105 (97 ∷ 110 ∷ []) (110 ∷ 102 ∷ []) (sym e ∙ f) in omega (arith, h)
nan_no_inf bytes e (inr f) = let h = heads 110 105 (97 ∷ 110 ∷ []) (110 ∷ 102 ∷ 105 ∷ 110 ∷ 105 ∷ 116 ∷ 121 ∷ []) (sym e ∙ f) in omega (arith, h)

special_once : (bytes : List ℕ) (v w : Numeric) → SpecialText bytes v → SpecialText bytes w → v ≡ w
special_once bytes v w (inl a) (inl b) = a.1 ∙ sym b.1
special_once bytes v w (inl a) (inr b) =
    let one = sign_once bytes false b.0 bytes b.3 (nan_front bytes a.0) (word_front bytes b.0 b.1 b.3 b.2 b.4 (inf_is b.3 b.5)) in
    absurd (nan_no_inf b.3 (ap (map lower) (sym one.1) ∙ a.0) b.5)
special_once bytes v w (inr a) (inl b) =
    let one = sign_once bytes false a.0 bytes a.3 (nan_front bytes b.0) (word_front bytes a.0 a.1 a.3 a.2 a.4 (inf_is a.3 a.5)) in
    absurd (nan_no_inf a.3 (ap (map lower) (sym one.1) ∙ b.0) a.5)
special_once bytes v w (inr a) (inr b) =
    a.6 ∙ (word_once bytes a.0 b.0 a.3 b.3 (word_front bytes a.0 a.1 a.3 a.2 a.4 (inf_is a.3 a.5)) (word_front bytes b.0 b.1 b.3 b.2 b.4 (inf_is b.3 b.5)) ∙ sym b.6)

-- a number is no word

lt_of : (b : ℕ) → b < 65 → ltb b 65 ≡ true
lt_of b h = lt-ltb b 65 h

digit_no_letter : (b : ℕ) → IsDigit b → IsLetter b → ⊥
digit_no_letter b d l =
    let e : lower b ≡ b = rw (lt_of b (omega (arith, d.1))) refl in
    omega (arith, d.1, l, e)

point_no_letter : (b : ℕ) → b ≡ 46 → IsLetter b → ⊥
point_no_letter b d l =
    let e : lower b ≡ b = rw (lt_of b (omega arith)) refl in
    omega (arith, l, e)

word_at : (rest : List ℕ) → IsWord rest → NotAt IsLetter rest → ⊥
word_at [] w n = w.some refl
word_at (b ∷ rest) w n = n w.are.0

no_word : (bytes : List ℕ) (n m : Bool) (w f : List ℕ) (d : Bool) (x : ℕ) (t : NumberText bytes n w f d x) (rest : List ℕ) → SignFront bytes m rest → IsWord rest → ⊥
no_word bytes n m w f d x t rest s word =
    let one = sign_once bytes n m (w ++ (t.point ++ t.raised)) rest (number_front bytes n w f d x t) s in
    word_at rest word (subst (NotAt IsLetter) one.1 (number_begins IsLetter digit_no_letter point_no_letter w f t.point t.raised t.are_whole t.pointed t.some))

number_no_word : (bytes : List ℕ) (t : Reported) (v : Numeric) → Spells bytes t → SpecialText bytes v → ⊥
number_no_word bytes t v s (inl a) = no_word bytes t.negative false s.whole s.fraction t.divided t.exponent s.number bytes (nan_front bytes a.0) (nan_is bytes a.0)
number_no_word bytes t v s (inr a) = no_word bytes t.negative a.0 s.whole s.fraction t.divided t.exponent s.number a.3 (word_front bytes a.0 a.1 a.3 a.2 a.4 (inf_is a.3 a.5)) (inf_is a.3 a.5)

named_inside : (text : List ℕ) (v w : Numeric) (a : Names text v) (b : Names text w) → SpecialText b.inside v
named_inside text v w a b = subst (λ l. SpecialText l v) (same_inside text b.inside (trimmed_of text b.inside b.blanked (special_begins b.inside w b.names) (special_ends b.inside w b.names)) a.inside a.blanked (special_begins a.inside v a.names) (special_ends a.inside v a.names)) a.names

reported_no_name : (text : List ℕ) (t : Reported) (v : Numeric) → Tells text t → Names text v → ⊥
reported_no_name text t v a b =
    let from = begins_number a.inside t.negative a.spells.whole a.spells.fraction t.divided t.exponent a.spells.number in
    let to = ends_number a.inside t.negative a.spells.whole a.spells.fraction t.divided t.exponent a.spells.number in
    number_no_word b.inside t v (subst (λ l. Spells l t) (same_inside text b.inside (trimmed_of text b.inside b.blanked (special_begins b.inside v b.names) (special_ends b.inside v b.names)) a.inside a.blanked from to) a.spells) b.names

one_meant : (text : List ℕ) (v w : Numeric) → TellsOrNames text v → TellsOrNames text w → v ≡ w
one_meant text v w (inl a) (inl b) =
    let reported = reported_once text a.0 b.0 a.1 b.1 in
    a.4 ∙ (ap (λ d. finite d) (number_one b.0 a.2 b.2 (subst (λ t. IsValueOf t a.2) reported a.3) b.3) ∙ sym b.4)
one_meant text v w (inl a) (inr b) = absurd (reported_no_name text a.0 w a.1 b)
one_meant text v w (inr a) (inl b) = absurd (reported_no_name text b.0 v b.1 a)
one_meant text v w (inr a) (inr b) = special_once b.inside v w (named_inside text v w a b) b.names

pub one_meaning : (text : List ℕ) (v w : Numeric) → TextMeans text v → TextMeans text w → v ≡ w
one_meaning text v w a b = one_meant text v w a.1 b.1

-- a text that means a value isn't rejected

past_not : (text : List ℕ) (t u : Reported) (d : Decimal) → Tells text t → Tells text u → IsValueOf u d → IsPast t → ⊥
past_not text t u d a b v past = elim (subst IsPast (reported_once text t u a b) past) [
  | inl long ↦ (omega (arith, v.small, long))
  | inr none ↦ none d v.fits v.means
]

past_name : (text : List ℕ) (v : Numeric) (t : Reported) → Tells text t → TellsOrNames text v → IsPast t → ⊥
past_name text v t a (inl m) past = past_not text t m.0 m.2 a m.1 m.3 past
past_name text v t a (inr n) past = reported_no_name text t v a n

nothing_reported : (text : List ℕ) (v : Numeric) → TellsOrNames text v → ((t : Reported) → Tells text t → ⊥) → ((w : Numeric) → Names text w → ⊥) → ⊥
nothing_reported text v (inl m) a b = a m.0 m.1
nothing_reported text v (inr n) a b = b v n

pub settled : (text : List ℕ) (v : Numeric) (e : NumericError) → TextMeans text v → TextRefused text e → ⊥
settled text v InvalidText m r = nothing_reported text v m.1 r.1.0 r.1.1
settled text v OutOfRange m (inl long) = omega (arith, m.0, long)
settled text v OutOfRange m (inr w) = past_name text v w.0 w.1 m.1 w.2
settled text v e m r = absurd r

-- the digits of a text

in_small : (d k : ℕ) → d < 10000 → decimal_in d k < 10
in_small d zero h = omega arith
in_small d (suc zero) h = omega arith
in_small d (suc (suc zero)) h = omega arith
in_small d (suc (suc (suc k))) h = omega arith

pub at_small : (ds : List ℕ) (i : ℕ) → IsDigits ds → decimal_at ds i < 10
unfolding decimal_at
at_small ds i h = in_small (get_or ds (i / 4) 0) (i % 4) (small_at ds (i / 4) h)

behind_small_by : (x : Bool) (ds : List ℕ) (i : ℕ) → IsDigits ds → cond x 0 (decimal_at ds i) < 10
behind_small_by true ds i h = omega arith
behind_small_by false ds i h = at_small ds i h

pub behind_small : (w : ℤ) (ds : List ℕ) (i : ℕ) → IsDigits ds → behind_point w ds i < 10
behind_small (pos k) ds i h = at_small ds (whole_places k + i) h
behind_small (negsuc j) ds i h = behind_small_by (ltb i (4 * j)) ds (i - 4 * j) h

abbrev IsSmall : ℕ → Type 0
IsSmall d = d < 10

run_small : (f : ℕ → ℕ) (from n : ℕ) → ((i : ℕ) → f i < 10) → AllByRecursion IsSmall (run f from n)
run_small f from zero h = tt
run_small f from (suc n) h = (h from, run_small f (from + 1) n h)

stripped_small : (ds : List ℕ) → AllByRecursion IsSmall ds → AllByRecursion IsSmall (stripped ds)
stripped_small [] h = tt
stripped_small (d ∷ []) h = h
stripped_small (zero ∷ e ∷ ds) h = stripped_small (e ∷ ds) h.1
stripped_small (suc d ∷ e ∷ ds) h = h

whole_small : (w : ℤ) (ds : List ℕ) → IsDigits ds → AllByRecursion IsSmall (whole_digits w ds)
whole_small (pos k) ds h = stripped_small (run (decimal_at ds) 0 (whole_places k)) (run_small (decimal_at ds) 0 (whole_places k) (λ i. at_small ds i h))
whole_small (negsuc j) ds h = (omega arith, tt)

stripped_some : (d : ℕ) (ds : List ℕ) → length (stripped (d ∷ ds)) ≢ 0
stripped_some d [] = λ e. omega (arith, e)
stripped_some zero (x ∷ ds) = stripped_some x ds
stripped_some (suc d) (x ∷ ds) = λ e. omega (arith, e)

places_next : (f : ℕ → ℕ) (n : ℕ) → 1 ≤ n → length (stripped (run f 0 n)) ≢ 0
places_next f zero h = absurd (omega arith)
places_next f (suc n) h = stripped_some (f 0) (run f (0 + 1) n)

whole_some : (w : ℤ) (ds : List ℕ) → length (whole_digits w ds) ≢ 0
whole_some (pos k) ds = places_next (decimal_at ds) (whole_places k) (omega arith)
whole_some (negsuc j) ds = λ e. omega (arith, e)

letters_digits : (ds : List ℕ) → AllByRecursion IsSmall ds → AllByRecursion IsDigit (map letter ds)
letters_digits [] h = tt
letters_digits (d ∷ ds) h = ((omega arith, omega (arith, h.0)), letters_digits ds h.1)

letter_value : (d : ℕ) → d < 10 → digit_value (letter d) ≡ d
letter_value d h =
    let a : ltb (48 + d) 48 ≡ false = le-ltb (48 + d) 48 (omega arith) in
    let b : ltb 57 (48 + d) ≡ false = le-ltb 57 (48 + d) (omega (arith, h)) in
    rw (a, b) (omega arith)

letters_values : (ds : List ℕ) → AllByRecursion IsSmall ds → map digit_value (map letter ds) ≡ ds
letters_values [] h = refl
letters_values (d ∷ ds) h =
    let a = letter_value d h.0 in
    let b = letters_values ds h.1 in
    ap (λ x. x ∷ map digit_value (map letter ds)) a ∙ ap (λ l. d ∷ l) b

no_digits_next : (ds : List ℕ) → spelled 10 ds ≡ 0 → spelled 10 (0 ∷ ds) ≡ 0
no_digits_next ds e = omega (arith, e)

no_digits : (ds : List ℕ) → has_digit ds ≡ false → spelled 10 ds ≡ 0
no_digits [] h = refl
no_digits (zero ∷ ds) h = no_digits_next ds (no_digits ds h)
no_digits (suc d ∷ ds) h = let f : true ≡ false = h in absurd cc

-- the text of a number

signed_by : (b : Bool) → SignText b (sign_text b)
signed_by false = inl refl
signed_by true = refl

pointed_by : (scale : ℕ) (ds : List ℕ) → length ds ≡ scale → PointText (map letter ds) (fraction_text scale ds)
pointed_by zero [] e = inr (refl, refl)
pointed_by zero (d ∷ ds) e = absurd (omega (arith, e))
pointed_by (suc n) ds e = rw (ne_eqb (suc n) 0 (λ z. omega (arith, z))) (inl refl)

-- texts are short

stripped_short : (ds : List ℕ) → length (stripped ds) ≤ length ds
stripped_short [] = omega arith
stripped_short (d ∷ []) = omega arith
stripped_short (zero ∷ e ∷ ds) = omega (arith, stripped_short (e ∷ ds))
stripped_short (suc d ∷ e ∷ ds) = omega arith

whole_short : (w : ℤ) (ds : List ℕ) → FitsSigned w16 w → length (whole_digits w ds) ≤ 131072
whole_short (pos k) ds f = omega (arith, f.sfits, stripped_short (run (decimal_at ds) 0 (whole_places k)), run_length (decimal_at ds) 0 (whole_places k))
whole_short (negsuc j) ds f = omega arith

sign_short : (b : Bool) → length (sign_text b) ≤ 1
sign_short false = omega arith
sign_short true = omega arith

fraction_short : (scale : ℕ) (ds : List ℕ) → length (fraction_text scale ds) ≤ 1 + length ds
fraction_short zero ds = omega arith
fraction_short (suc n) ds = omega (arith, fraction_length (suc n) ds (λ z. omega (arith, z)))

-- a number with a minus shows a digit
kept_sign_by : (n : Bool) (w : ℤ) (scale : ℕ) (ds : List ℕ) → IsCanonical (record { negative = n; weight = w; scale = scale; digits = ds }) → IsShown (record { negative = n; weight = w; scale = scale; digits = ds }) → n ≡ true → spelled 10 (text_digits (record { negative = n; weight = w; scale = scale; digits = ds })) ≡ 0 → ⊥
kept_sign_by n w scale [] c shown e none = let f : true ≡ false = sym e ∙ (c.zero refl).1 in cc
kept_sign_by n w scale (d ∷ ds) c shown e none = no_amount d ds _ _ _ c.ends.0 (same_number (record { negative = n; weight = w; scale = scale; digits = d ∷ ds }) shown) none

kept_sign : (d : Decimal) → IsCanonical d → IsShown d → d.negative ≡ true → spelled 10 (text_digits d) ≡ 0 → ⊥
kept_sign d = kept_sign_by d.negative d.weight d.scale d.digits

module _ (d : Decimal) (fits : IsDecimal d) (canonical : IsCanonical d) (shown : IsShown d) where
  abbrev whole : List ℕ
  whole = map letter (whole_digits d.weight d.digits)

  abbrev fraction : List ℕ
  fraction = map letter (fraction_digits d)

  abbrev reported : Reported
  reported = reported_by (shown_sign d) whole fraction false 0

  fraction_count : length (fraction_digits d) ≡ d.scale
  fraction_count = run_length (behind_point d.weight d.digits) 0 d.scale

  fraction_small : AllByRecursion IsSmall (fraction_digits d)
  fraction_small = run_small (behind_point d.weight d.digits) 0 d.scale (λ i. behind_small d.weight d.digits i fits.digits)

  number : NumberText (decimal_text d) (shown_sign d) whole fraction false 0
  number = record {
    sign = sign_text (shown_sign d);
    signed = signed_by (shown_sign d);
    point = fraction_text d.scale (fraction_digits d);
    pointed = pointed_by d.scale (fraction_digits d) fraction_count;
    raised = [];
    raises = inl (refl, (refl, refl));
    are_whole = letters_digits (whole_digits d.weight d.digits) (whole_small d.weight d.digits fits.digits);
    are_fraction = letters_digits (fraction_digits d) fraction_small;
    some = λ e. whole_some d.weight d.digits (omega (arith, e, length-map (whole_digits d.weight d.digits) letter));
    all = append_assoc (sign_text (shown_sign d)) whole (fraction_text d.scale (fraction_digits d)) ∙ ap (λ l. sign_text (shown_sign d) ++ (whole ++ l)) (sym (append-nil (fraction_text d.scale (fraction_digits d))));
  }

  values : map digit_value (whole ++ fraction) ≡ text_digits d
  values = map-append digit_value whole fraction
      ∙ (ap (λ l. l ++ map digit_value fraction) (letters_values (whole_digits d.weight d.digits) (whole_small d.weight d.digits fits.digits)) ∙ ap (λ l. whole_digits d.weight d.digits ++ l) (letters_values (fraction_digits d) fraction_small))

  places : length fraction ≡ d.scale
  places = length-map (fraction_digits d) letter ∙ fraction_count

  same : spelled 10000 d.digits * 10 ^ (before_point d.weight + length fraction + 0) ≡ spelled 10 (map digit_value (whole ++ fraction)) * 10 ^ (4 * length d.digits + (behind_by d.weight + 0))
  same =
      let p : before_point d.weight + length fraction + 0 ≡ before_point d.weight + d.scale = omega (arith, places) in
      let q : 4 * length d.digits + (behind_by d.weight + 0) ≡ 4 * length d.digits + behind_by d.weight = omega arith in
      rw (p, q, values) (same_number d shown)

  sign_by : (a b : Bool) → d.negative ≡ a → has_digit (text_digits d) ≡ b → (a ≡ cond a b false) ⊎ ((spelled 10 (text_digits d) ≡ 0) × (a ≡ false))
  sign_by false b e f = inl refl
  sign_by true true e f = inl refl
  sign_by true false e f = absurd (kept_sign d canonical shown e (no_digits (text_digits d) f))

  means : IsNumberOf reported d
  means = record {
    same = same;
    scale = omega (arith, places);
    sign = elim (sign_by d.negative (has_digit (text_digits d)) refl refl) [
      | inl is ↦ inl is
      | inr none ↦ inr (ap (spelled 10) values ∙ none.0, none.1)
    ];
  }

  short : length (decimal_text d) < 1073741823
  short = omega (arith, length-append (sign_text (shown_sign d) ++ whole) (fraction_text d.scale (fraction_digits d)), length-append (sign_text (shown_sign d)) whole, length-map (whole_digits d.weight d.digits) letter, sign_short (shown_sign d), whole_short d.weight d.digits fits.weight, fraction_short d.scale (fraction_digits d), fraction_count, fits.scale)

  pub decimal_means : TextMeans (decimal_text d) (finite d)
  decimal_means = (
    short,
    inl (
      reported,
      record {
        inside = decimal_text d;
        blanked = record { before = []; after = []; are_before = tt; are_after = tt; all = sym (append-nil (decimal_text d)) };
        spells = record { whole = whole; fraction = fraction; number = number; reported = refl };
      },
      d,
      record { fits = fits; means = means; canonical = canonical; small = omega arith },
      refl,
    ),
  )

pub kept_means : (v : Numeric) → IsKept v → TextMeans (numeric_text v) v
kept_means (finite d) k = decimal_means d k.0 k.1.0 k.1.1
kept_means nan k = (omega arith, inr (record { inside = numeric_text nan; blanked = record { before = []; after = []; are_before = tt; are_after = tt; all = refl }; names = inl (refl, refl) }))
kept_means plus_infinity k = (omega arith, inr (record { inside = numeric_text plus_infinity; blanked = record { before = []; after = []; are_before = tt; are_after = tt; all = refl }; names = inr (false, [], inl refl, numeric_text plus_infinity, refl, inr refl, refl) }))
kept_means minus_infinity k = (omega arith, inr (record { inside = numeric_text minus_infinity; blanked = record { before = []; after = []; are_before = tt; are_after = tt; all = refl }; names = inr (true, 45 ∷ [], refl, numeric_text plus_infinity, refl, inr refl, refl) }))
