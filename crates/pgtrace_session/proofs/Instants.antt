-- The date and the time of day of a time: they are printable, and what writers said of them.
use Rattle.pgtrace_session.proofs.Common.{◌≡◌, ℕ, ℤ, suc, ◌+◌, ◌<◌, Bool, true, false, List, [], ◌∷◌, ◌++◌, Result, refl, sym, ap, subst, ◌∙◌, arith, append_assoc, ◌/◌, ◌%◌, nat_lt, if◌then◌else◌, codes, decimal, list_all, true≢false, false≢true, OnOk, ok_then, plain, plain_join, plain_number, Plain, Form, Columns, Sender, Start, Dated, IsMark, clock, day_of, fraction, mark, origin, since, AddsDay, AddsInstant, AddsTime, is_date}
use Rattle.std.specs.Prelude.{zero, nat_le, pos, negsuc, int_lt, unsigned_abs}
use Rattle.std.specs.Str.{IsUtf8}
use Rattle.std.proofs.lemmas.Bool.{and_from, le-leb, ltb-true}
use Rattle.jiff_core.specs.Calendar.{IsEpochDay}
use Rattle.jiff_core.proofs.CalendarLemmas.{days_in_month_bounds}
use Rattle.jiff_core.proofs.SignedLemmas.{signed_arith}
use Rattle.jiff_fmt.specs.Text.{pad2, pad4}
use Rattle.pgp_base.specs.Held.{◌⊕◌, items_held}
unfoldable use Rattle.pgp_base.specs.Held.{lengthened}
use Rattle.pgtool_line.specs.Quoting.{is_visible}
use Rattle.pgp_value_text.specs.Calendar.{IsShownDay, ShowsDay, counted, era, year_after}
unfoldable use Rattle.pgp_value_text.specs.Calendar.{year_text}
use Rattle.pgp_value_text.specs.Numbers.{day_1970, days_cycle, later as years_later}

-- ---- they are printable

digit : (n : ℕ) → n < 10 → is_visible (48 + n) ≡ true
digit n h = and_from (nat_le 32 (48 + n)) (nat_le (48 + n) 126) (le-leb 32 (48 + n) (omega arith)) (le-leb (48 + n) 126 (omega (arith, h)))

two : (n : ℕ) → n < 100 → Plain (pad2 n)
two n h =
    let high : n / 10 < 10 = omega (arith, h) in
    let low : n % 10 < 10 = omega arith in
    and_from (is_visible (48 + n / 10)) (list_all is_visible ((48 + n % 10) ∷ [])) (digit (n / 10) high) (and_from (is_visible (48 + n % 10)) true (digit (n % 10) low) refl)

four : (n : ℕ) → n < 10000 → Plain (pad4 n)
four n h =
    let high : n / 100 < 100 = omega (arith, h) in
    let low : n % 100 < 100 = omega arith in
    plain_join (pad2 (n / 100)) (pad2 (n % 100)) (two (n / 100) high) (two (n % 100) low)

year_by : (n : ℕ) (short : Bool) → nat_lt n 10000 ≡ short → Plain (if short then pad4 n else decimal n)
year_by n true e = four n (ltb-true n 10000 e)
year_by n false e = plain_number n

year : (n : ℕ) → Plain (year_text n)
unfolding year_text
year n = year_by n (nat_lt n 10000) refl

era_plain : (y : ℤ) → Plain (era y)
era_plain (pos zero) = refl
era_plain (pos (suc n)) = refl
era_plain (negsuc n) = refl

pub day_plain : (days : ℤ) (text : List ℕ) → ShowsDay days text → Plain text
day_plain days text s =
    let d = s.0 in
    let y = year_after (years_later days_cycle days) d in
    let a = year_text (counted y) in
    let b = 45 ∷ pad2 d.month in
    let c = 45 ∷ pad2 d.day in
    let long = days_in_month_bounds d.year d.month in
    let month : d.month < 100 = omega (arith, d.month_in) in
    let day : d.day < 100 = omega (arith, d.day_in, long) in
    let pb : Plain b = plain_join (45 ∷ []) (pad2 d.month) refl (two d.month month) in
    let pc : Plain c = plain_join (45 ∷ []) (pad2 d.day) refl (two d.day day) in
    let all : Plain (a ++ b ++ c ++ era y) = plain_join (a ++ b ++ c) (era y) (plain_join (a ++ b) c (plain_join a b (year (counted y)) pb) pc) (era_plain y) in
    subst Plain (sym s.2) all

number_more : (front : List ℕ) (n : ℕ) → Plain front → Plain (front ++ decimal n)
number_more front n a = plain_join front (decimal n) a (plain_number n)

pub clock_plain : (n : ℕ) → Plain (clock n)
unfolding clock
clock_plain n =
    let a = decimal (n / 3600000000 % 24 / 10) in
    let b = a ++ decimal (n / 3600000000 % 24 % 10) in
    let c = b ++ codes ":" ++ decimal (n / 60000000 % 60 / 10) in
    let d = c ++ decimal (n / 60000000 % 60 % 10) in
    let e = d ++ codes ":" ++ decimal (n / 1000000 % 60 / 10) in
    let pb : Plain b = number_more a (n / 3600000000 % 24 % 10) (plain_number (n / 3600000000 % 24 / 10)) in
    let pc : Plain c = number_more (b ++ codes ":") (n / 60000000 % 60 / 10) (plain_join b (codes ":") pb refl) in
    let pd : Plain d = number_more c (n / 60000000 % 60 % 10) pc in
    let pe : Plain e = number_more (d ++ codes ":") (n / 1000000 % 60 / 10) (plain_join d (codes ":") pd refl) in
    number_more e (n / 1000000 % 60 % 10) pe

pub fraction_plain : (n : ℕ) → Plain (fraction n)
unfolding fraction
fraction_plain n =
    let a = codes "." ++ decimal (n / 100000 % 10) in
    let b = a ++ decimal (n / 10000 % 10) in
    let c = b ++ decimal (n / 1000 % 10) in
    let d = c ++ decimal (n / 100 % 10) in
    let e = d ++ decimal (n / 10 % 10) in
    let pa : Plain a = number_more (codes ".") (n / 100000 % 10) refl in
    let pb : Plain b = number_more a (n / 10000 % 10) pa in
    let pc : Plain c = number_more b (n / 1000 % 10) pb in
    let pd : Plain d = number_more c (n / 100 % 10) pc in
    let pe : Plain e = number_more d (n / 10 % 10) pd in
    number_more e (n % 10) pe

-- ---- what was written

-- a day from 1970 on has a date
shown_by : (n : ℕ) (early : Bool) → int_lt (day_of n) (pos 0) ≡ early → IsEpochDay (day_1970 (if early then day_of n else pos (unsigned_abs (day_of n) % days_cycle)))
shown_by n true e = omega (arith, signed_arith)
shown_by n false e = omega (arith, signed_arith)

pub day_shown : (n : ℕ) → IsShownDay (day_of n)
day_shown n = shown_by n (int_lt (day_of n) (pos 0)) refl

-- it stands in a buffer that was empty
pub day_written : (days : ℤ) (old new : List ℕ) → old ≡ [] → (text : List ℕ) × ShowsDay days text × (items_held new ≡ items_held old ⊕ text) → ShowsDay days new
unfolding lengthened
day_written days old new empty w = subst (ShowsDay days) (sym (ap (λ h. h.bytes) w.2 ∙ ap (λ l. l ++ w.0) empty)) w.1

pub day_utf8 : (days : ℤ) (text : List ℕ) → ShowsDay days text → IsUtf8 text
day_utf8 days text s = let p = plain text (day_plain days text s) in (p.characters, (p.scalars, sym p.spelled))

module _ {T E : Type 0} (r : Result T E) where
  pub day_added : (micros : ℕ) (day slice old new : List ℕ) → ShowsDay (day_of micros) day → slice ≡ day → OnOk r (new ≡ old ++ slice) → OnOk r (AddsDay micros old new)
  day_added micros day slice old new shows same added = ok_then r (λ e. (day, shows, e ∙ ap (λ l. old ++ l) same)) added

  pub instant_added : (micros : ℕ) (old mid here there new : List ℕ) → AddsDay micros old mid → here ≡ mid ++ 32 ∷ [] → there ≡ here ++ clock micros → OnOk r (new ≡ there ++ fraction micros) → OnOk r (AddsInstant micros old new)
  instant_added micros old mid here there new d spaced timed added =
      let time = clock micros in
      let rest = fraction micros in
      let so_far : there ≡ old ++ (d.0 ++ 32 ∷ time) = timed ∙ ap (λ l. l ++ time) (spaced ∙ ap (λ l. l ++ 32 ∷ []) d.2) ∙ append_assoc (old ++ d.0) (32 ∷ []) time ∙ append_assoc old d.0 (32 ∷ time) in
      ok_then r (λ e. (d.0 ++ 32 ∷ time ++ rest, (d.0, d.1, refl), e ∙ ap (λ l. l ++ rest) so_far ∙ append_assoc old (d.0 ++ 32 ∷ time) rest)) added

  pub date_added : (form : Form) (start : Start) (micros : ℕ) (old new : List ℕ) → is_date form start ≡ true → OnOk r (AddsInstant micros old new) → OnOk r (AddsTime form start micros old new)
  date_added Columns Dated micros old new e added = added
  date_added form start micros old new e added = absurd (false≢true e)

  pub seconds_added : (form : Form) (start : Start) (micros : ℕ) (old new : List ℕ) → is_date form start ≡ false → OnOk r (new ≡ old ++ since (origin start micros) micros) → OnOk r (AddsTime form start micros old new)
  seconds_added Columns Dated micros old new e added = absurd (true≢false e)
  seconds_added form start micros old new e added = ok_then r (λ is. (since (origin start micros) micros, refl, is)) added

  -- a mark with the time that stands in a buffer that was empty
  pub mark_put : (form : Form) (who : Sender) (start : Start) (micros : ℕ) (old time slice before new : List ℕ) → AddsTime form start micros old time → old ≡ [] → slice ≡ time → before ≡ [] → OnOk r (new ≡ before ++ mark form who slice) → OnOk r (IsMark form who start micros new)
  mark_put form who start micros old time slice before new t empty same none added =
      ok_then r (λ e. (t.0, t.1, e ∙ ap (λ l. l ++ mark form who slice) none ∙ ap (mark form who) (same ∙ t.2 ∙ ap (λ l. l ++ t.0) empty))) added
