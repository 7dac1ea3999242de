-- What the text without its blanks says is what the text says.
use Rattle.pgp_values.proofs.Common.{◌≡◌, ◌≢◌, ◌⊎◌, inl, inr, ℕ, ◌<◌, ◌≤◌, Bool, true, false, List, [], ◌∷◌, ◌++◌, length, map, None, Result, Ok, Err, refl, sym, ap, subst, ◌∙◌, arith, lt-ltb, append-nil, AllByRecursion, Held, left_same, NumericError, InvalidText, OutOfRange, Decimal, IsDecimal, Numeric, finite, Reported, reported_by, IsNumberOf, limit, IsValueOf, NumberMeans, NumberRefused, TextMeans, TextRefused, WritesMeant, IsBlank, IsDigit, NumberText, IsBlanked, Spells, Tells, Names, lower, nan_word, inf_word, infinity_word, SpecialText, NotAt, NotEnd, Trimmed, IsSign, Special, WrittenRefused}
use Rattle.std.specs.Result.{IsErr, IsErrAnd}
use Rattle.pgp_values.proofs.ScanLemmas.{heads, tails, munch, munch_back, not_at_append, end_append, not_at_of, end_of, digit_no_blank, sign_no_blank, number_begins}

-- texts that end with no blank

pub record Ends (l : List ℕ) : Type 0 where
  pub some : l ≢ []
  pub stops : NotEnd IsBlank l

append_some : (x a : List ℕ) → a ≢ [] → x ++ a ≢ []
append_some [] a h = h
append_some (b ∷ x) a h = λ e. (let f : b ∷ (x ++ a) ≡ [] = e in cc)

ends_append : (x a : List ℕ) → Ends a → Ends (x ++ a)
ends_append x a e = record { some = append_some x a e.some; stops = end_append IsBlank x a e.some e.stops }

ends_digits : (l : List ℕ) → AllByRecursion IsDigit l → length l ≢ 0 → Ends l
ends_digits l are some = record { some = λ e. some (ap length e); stops = end_of IsDigit IsBlank l are digit_no_blank }

pub point_no_blank : (b : ℕ) → b ≡ 46 → IsBlank b → ⊥
point_no_blank b e (inl x) = omega arith
point_no_blank b e (inr x) = omega (arith, x.1)

ends_point : Ends (46 ∷ [])
ends_point = record { some = λ e. (let f : 46 ∷ [] ≡ [] = e in cc); stops = point_no_blank 46 refl }

ends_fraction : (l : List ℕ) → AllByRecursion IsDigit l → Ends (46 ∷ l)
ends_fraction [] are = ends_point
ends_fraction (d ∷ l) are = ends_append (46 ∷ []) (d ∷ l) (ends_digits (d ∷ l) are (λ e. omega arith))

module _ (bytes : List ℕ) (n : Bool) (w f : List ℕ) (d : Bool) (x : ℕ) (t : NumberText bytes n w f d x) where
  ends_after : Ends (w ++ (t.point ++ t.raised))
  ends_after = elim t.raises [
    | inl none ↦ elim t.pointed [
      | inl e ↦
          let same : t.point ++ t.raised ≡ 46 ∷ f = ap (λ l. t.point ++ l) none.0 ∙ (append-nil t.point ∙ e) in
          rw same (ends_append w (46 ∷ f) (ends_fraction f t.are_fraction))
      | inr e ↦
          let same : w ++ (t.point ++ t.raised) ≡ w = ap (λ l. w ++ l) (ap (λ l. t.point ++ l) none.0 ∙ (append-nil t.point ∙ e.0)) ∙ append-nil w in
          rw same (ends_digits w t.are_whole (λ z. t.some (omega (arith, z, ap length e.1))))
    ]
    | inr r ↦
        let last : Ends r.marked = rw r.reports.whole (ends_append r.reports.sign r.reports.digits (ends_digits r.reports.digits r.reports.are r.reports.some)) in
        let behind : Ends t.raised = rw r.all (ends_append (r.letter ∷ []) (r.blanks ++ r.marked) (ends_append r.blanks r.marked last)) in
        ends_append w (t.point ++ t.raised) (ends_append t.point t.raised behind)
  ]

  pub ends_number : Ends bytes
  ends_number = rw t.all (ends_append t.sign (w ++ (t.point ++ t.raised)) ends_after)

  pub begins_number : NotAt IsBlank bytes
  begins_number = rw t.all (sign_no_blank n t.sign (w ++ (t.point ++ t.raised)) t.signed (number_begins IsBlank digit_no_blank point_no_blank w f t.point t.raised t.are_whole t.pointed t.some))

-- words

abbrev pub IsLetter : ℕ → Type 0
IsLetter b = 97 ≤ lower b

small_lower : (b : ℕ) → b < 65 → lower b ≡ b
small_lower b h = rw (lt-ltb b 65 h) refl

letter_no_blank : (b : ℕ) → IsLetter b → IsBlank b → ⊥
letter_no_blank b h (inl x) = omega (arith, h, small_lower b (omega arith))
letter_no_blank b h (inr x) = omega (arith, h, x.1, small_lower b (omega (arith, x.1)))

letter_no_sign : (b : ℕ) → IsLetter b → IsSign b → ⊥
letter_no_sign b h (inl x) = omega (arith, h, small_lower b (omega arith))
letter_no_sign b h (inr x) = omega (arith, h, small_lower b (omega arith))

letters_of : (bytes word : List ℕ) → map lower bytes ≡ word → AllByRecursion (λ b. 97 ≤ b) word → AllByRecursion IsLetter bytes
letters_of [] word e h = tt
letters_of (b ∷ bytes) [] e h = let f : lower b ∷ map lower bytes ≡ [] = e in absurd cc
letters_of (b ∷ bytes) (c ∷ word) e h =
    let one = heads (lower b) c (map lower bytes) word e in
    (omega (arith, one, h.0), letters_of bytes word (tails (lower b) c (map lower bytes) word e) h.1)

some_of : (bytes : List ℕ) (c : ℕ) (word : List ℕ) → map lower bytes ≡ c ∷ word → bytes ≢ []
some_of [] c word e h = let f : [] ≡ c ∷ word = e in cc
some_of (b ∷ bytes) c word e h = let f : b ∷ bytes ≡ [] = h in cc

nan_letters : AllByRecursion (λ b. 97 ≤ b) nan_word
nan_letters = (omega arith, (omega arith, (omega arith, tt)))

inf_letters : AllByRecursion (λ b. 97 ≤ b) inf_word
inf_letters = (omega arith, (omega arith, (omega arith, tt)))

infinity_letters : AllByRecursion (λ b. 97 ≤ b) infinity_word
infinity_letters = (omega arith, (omega arith, (omega arith, (omega arith, (omega arith, (omega arith, (omega arith, (omega arith, tt))))))))

pub record IsWord (bytes : List ℕ) : Type 0 where
  pub are : AllByRecursion IsLetter bytes
  pub some : bytes ≢ []

pub nan_is : (bytes : List ℕ) → map lower bytes ≡ nan_word → IsWord bytes
nan_is bytes e = record { are = letters_of bytes nan_word e nan_letters; some = some_of bytes 110 (97 ∷ 110 ∷ []) e }

pub inf_is : (rest : List ℕ) → (map lower rest ≡ inf_word) ⊎ (map lower rest ≡ infinity_word) → IsWord rest
inf_is rest (inl e) = record { are = letters_of rest inf_word e inf_letters; some = some_of rest 105 (110 ∷ 102 ∷ []) e }
inf_is rest (inr e) = record { are = letters_of rest infinity_word e infinity_letters; some = some_of rest 105 (110 ∷ 102 ∷ 105 ∷ 110 ∷ 105 ∷ 116 ∷ 121 ∷ []) e }

word_begins : (bytes : List ℕ) → IsWord bytes → NotAt IsBlank bytes
word_begins bytes w = not_at_of IsLetter IsBlank bytes w.are letter_no_blank

pub word_no_sign : (bytes : List ℕ) → IsWord bytes → NotAt IsSign bytes
word_no_sign bytes w = not_at_of IsLetter IsSign bytes w.are letter_no_sign

word_ends : (bytes : List ℕ) → IsWord bytes → Ends bytes
word_ends bytes w = record { some = w.some; stops = end_of IsLetter IsBlank bytes w.are letter_no_blank }

pub special_begins : (bytes : List ℕ) (v : Numeric) → SpecialText bytes v → NotAt IsBlank bytes
special_begins bytes v (inl w) = word_begins bytes (nan_is bytes w.0)
special_begins bytes v (inr w) = rw w.4 (sign_no_blank w.0 w.1 w.3 w.2 (word_begins w.3 (inf_is w.3 w.5)))

pub special_ends : (bytes : List ℕ) (v : Numeric) → SpecialText bytes v → Ends bytes
special_ends bytes v (inl w) = word_ends bytes (nan_is bytes w.0)
special_ends bytes v (inr w) = rw w.4 (ends_append w.1 w.3 (word_ends w.3 (inf_is w.3 w.5)))

-- what a text is without its blanks

module _ (text inside : List ℕ) (t : Trimmed text inside) where
  blanked : IsBlanked text inside
  blanked = record { before = t.before; after = t.after; are_before = t.begins.are; are_after = t.are; all = t.begins.all ∙ ap (λ l. t.before ++ l) t.all }

  pub same_inside : (other : List ℕ) → IsBlanked text other → NotAt IsBlank other → Ends other → other ≡ inside
  same_inside other b at end =
      let one = munch IsBlank b.before t.before (other ++ b.after) t.front b.are_before t.begins.are (not_at_append IsBlank other b.after end.some at) t.begins.stops (sym b.all ∙ t.begins.all) in
      munch_back IsBlank other inside b.after t.after b.are_after t.are end.stops t.stops (one.1 ∙ t.all)

  reported_inside : (n : Reported) → Tells text n → Spells inside n
  reported_inside n w = subst (λ l. Spells l n) (same_inside w.inside w.blanked (begins_number w.inside n.negative w.spells.whole w.spells.fraction n.divided n.exponent w.spells.number) (ends_number w.inside n.negative w.spells.whole w.spells.fraction n.divided n.exponent w.spells.number)) w.spells

  named_inside : (v : Numeric) → Names text v → SpecialText inside v
  named_inside v w = subst (λ l. SpecialText l v) (same_inside w.inside w.blanked (special_begins w.inside v w.names) (special_ends w.inside v w.names)) w.names

  tells_of : (n : Reported) → Spells inside n → Tells text n
  tells_of n s = record { inside = inside; blanked = blanked; spells = s }

  names_of : (v : Numeric) → SpecialText inside v → Names text v
  names_of v s = record { inside = inside; blanked = blanked; names = s }

  number_means : length text < limit → (v : Numeric) → NumberMeans inside v → TextMeans text v
  number_means short v m = (short, inl (m.0, tells_of m.0 m.1, m.2, m.3, m.4))

  text_refused : length text < limit → Special inside None → (e : NumericError) → NumberRefused inside e → TextRefused text e
  text_refused short none InvalidText never = (short, ((λ n w. never n (reported_inside n w)), (λ v w. none v (named_inside v w))))
  text_refused short none OutOfRange w = inr (w.0, tells_of w.0 w.1, w.2)
  text_refused short none e never = absurd never

  pub number_written : {K : Type 0} → length text < limit → (lacks : Held K → ℕ → Type 0) (old new : Held K) (r : Result (Unit {0}) NumericError) → Special inside None
      → WritesMeant (NumberMeans inside) (NumberRefused inside) lacks old r new → WritesMeant (TextMeans text) (TextRefused text) lacks old r new
  number_written short lacks old new (Ok done) none w = record { value = w.value; means = number_means short w.value w.means; appended = w.appended }
  number_written short lacks old new (Err e) none w = (
    elim w.0 [
      | inl memory ↦ inl (memory.0, record { value = memory.1.value; means = number_means short memory.1.value memory.1.means; wants = memory.1.wants })
      | inr refused ↦ inr (text_refused short none e refused)
    ],
    w.1,
  )

  pub special_written : {K : Type 0} → length text < limit → (lacks : Held K → ℕ → Type 0) (old new : Held K) (r : Result (Unit {0}) NumericError) (v : Numeric) → SpecialText inside v
      → WritesMeant (λ x. x ≡ v) (λ e. ⊥) lacks old r new → WritesMeant (TextMeans text) (TextRefused text) lacks old r new
  special_written short lacks old new (Ok done) v s w = record { value = w.value; means = (short, inr (subst (Names text) (sym w.means) (names_of v s))); appended = w.appended }
  special_written short lacks old new (Err e) v s w = (
    elim w.0 [
      | inl memory ↦ inl (memory.0, record { value = memory.1.value; means = (short, inr (subst (Names text) (sym memory.1.means) (names_of v s))); wants = memory.1.wants })
      | inr refused ↦ absurd refused
    ],
    w.1,
  )

pub refused_spells : (bytes : List ℕ) (e : NumericError) → WrittenRefused bytes e → NumberRefused bytes e
refused_spells bytes InvalidText never = λ t s. never t.negative s.whole s.fraction t.divided t.exponent s.number
refused_spells bytes OutOfRange w = (reported_by w.0 w.1 w.2 w.3 w.4, record { whole = w.1; fraction = w.2; number = w.5; reported = refl }, inl w.6)
refused_spells bytes e never = absurd never

-- what is rejected with nothing appended
pub refused_whole : {K : Type 0} (Means : Numeric → Type 0) (Refused : NumericError → Type 0) (lacks : Held K → ℕ → Type 0) (old : Held K) (r : Result (Unit {0}) NumericError) (e : NumericError)
    → IsErr r → IsErrAnd r (λ x. x ≡ e) → Refused e → WritesMeant Means Refused lacks old r old
refused_whole Means Refused lacks old (Ok done) e is h p = let f : false ≡ true = is in absurd cc
refused_whole Means Refused lacks old (Err x) e is h p = (inr (subst Refused (sym h) p), left_same old old refl)

module _ (bytes : List ℕ) (negative : Bool) (whole fraction : List ℕ) (divided : Bool) (exponent : ℕ) (n : NumberText bytes negative whole fraction divided exponent) where
  spells : Spells bytes (reported_by negative whole fraction divided exponent)
  spells = record { whole = whole; fraction = fraction; number = n; reported = refl }

  pub number_meant : (d : Decimal) → IsValueOf (reported_by negative whole fraction divided exponent) d → NumberMeans bytes (finite d)
  number_meant d v = (reported_by negative whole fraction divided exponent, spells, d, v, refl)

  pub number_past : (e : NumericError) → e ≡ OutOfRange → ((d : Decimal) → IsDecimal d → IsNumberOf (reported_by negative whole fraction divided exponent) d → ⊥) → NumberRefused bytes e
  number_past e is past = subst (NumberRefused bytes) (sym is) (reported_by negative whole fraction divided exponent, spells, inr past)
