-- Marks are printable.
use Rattle.pgtrace_session.proofs.Common.{ℕ, ◌-◌, Bool, true, false, List, [], ◌∷◌, ◌++◌, length, refl, sym, subst, ◌/◌, ◌%◌, nat_lt, if◌then◌else◌, codes, decimal, blanks, IsPrinted, Form, Columns, Json, blank, plain, plain_join, plain_number, Sender, Client, Server, Start, Dated, Told, ShowsTime, between, clock, day_of, fraction, last_mark, later, mark, member, members, millis, number, origin, says, since, time_width, word, width_of, Plain}
use Rattle.pgtrace_session.proofs.Instants.{clock_plain, day_plain, fraction_plain}
use Rattle.pgtrace_session.specs.declared.placement.Told.TheVariants.{Number, Answer, Lost, Nothing, Uncounted}

pub seconds : (n : ℕ) → Plain (number n)
unfolding number
seconds n = plain_join (decimal (n / 1000000)) (fraction n) (plain_number (n / 1000000)) (fraction_plain n)

either_way : (b : Bool) (n k : ℕ) → Plain (if b then 45 ∷ number n else number k)
either_way true n k = plain_join (45 ∷ []) (number n) refl (seconds n)
either_way false n k = seconds k

since_plain : (start micros : ℕ) → Plain (since start micros)
since_plain start micros = either_way (nat_lt micros start) (start - micros) (micros - start)

time_plain : (form : Form) (start : Start) (micros : ℕ) (time : List ℕ) → ShowsTime form start micros time → Plain time
time_plain Columns Dated micros time s =
    let front = plain_join s.0 (32 ∷ clock micros) (day_plain (day_of micros) s.0 s.1) (plain_join (32 ∷ []) (clock micros) refl (clock_plain micros)) in
    subst Plain (sym s.2) (plain_join (s.0 ++ 32 ∷ clock micros) (fraction micros) front (fraction_plain micros))
time_plain form start micros time s = subst Plain (sym s) (since_plain (origin start micros) micros)

-- ---- a mark

arrows : (who : Sender) → Plain (between who)
arrows Client = refl
arrows Server = refl

senders : (who : Sender) → Plain (member who)
senders Client = refl
senders Server = refl

around : (form : Form) (who : Sender) (time : List ℕ) → Plain time → Plain (mark form who time)
around Columns who time a = plain_join (blanks (12 - length time) ++ time) (between who) (plain_join (blanks (12 - length time)) time (blank (12 - length time)) a) (arrows who)
around Json who time a = plain_join (codes "\"time\":" ++ time) (member who) (plain_join (codes "\"time\":") time refl a) (senders who)

-- ---- what it says of requests

pub thousandths : (n : ℕ) → Plain (millis n)
unfolding millis
thousandths n =
    let a = decimal (n / 1000) ++ codes "." in
    let b = a ++ decimal (n / 100 % 10) in
    let c = b ++ decimal (n / 10 % 10) in
    let pa : Plain a = plain_join (decimal (n / 1000)) (codes ".") (plain_number (n / 1000)) refl in
    let pb : Plain b = plain_join a (decimal (n / 100 % 10)) pa (plain_number (n / 100 % 10)) in
    let pc : Plain c = plain_join b (decimal (n / 10 % 10)) pb (plain_number (n / 10 % 10)) in
    plain_join c (decimal (n % 10)) pc (plain_number (n % 10))

later_way : (b : Bool) (n k : ℕ) → Plain (if b then 45 ∷ millis n else 43 ∷ millis k)
later_way true n k = plain_join (45 ∷ []) (millis n) refl (thousandths n)
later_way false n k = plain_join (43 ∷ []) (millis k) refl (thousandths k)

numbered : (n : ℕ) → Plain (codes "#" ++ decimal n)
numbered n = plain_join (codes "#") (decimal n) refl (plain_number n)

says_plain : (told : Told) → Plain (says told)
says_plain (Number n) = numbered n
says_plain (Answer n sent now) =
    plain_join (codes "#" ++ decimal n ++ codes " ") (later sent now) (plain_join (codes "#" ++ decimal n) (codes " ") (numbered n) refl) (later_way (nat_lt now sent) (sent - now) (now - sent))
says_plain Lost = refl
says_plain Nothing = refl
says_plain Uncounted = refl

member_plain : (n : ℕ) → Plain (codes "\"request\":" ++ decimal n)
member_plain n = plain_join (codes "\"request\":") (decimal n) refl (plain_number n)

members_plain : (told : Told) → Plain (members told)
members_plain (Number n) = plain_join (codes "\"request\":" ++ decimal n) (codes ",") (member_plain n) refl
members_plain (Answer n sent now) =
    let a = codes "\"request\":" ++ decimal n ++ codes ",\"after\":" in
    let b = a ++ since sent now in
    let pa : Plain a = plain_join (codes "\"request\":" ++ decimal n) (codes ",\"after\":") (member_plain n) refl in
    let pb : Plain b = plain_join a (since sent now) pa (since_plain sent now) in
    plain_join b (codes ",") pb refl
members_plain Lost = refl
members_plain Nothing = refl
members_plain Uncounted = refl

word_plain : (form : Form) (told : Told) → Plain (word form told)
word_plain Columns told = plain_join (says told) (blanks (width_of told - length (says told))) (says_plain told) (blank (width_of told - length (says told)))
word_plain Json told = members_plain told

-- ---- marks

with_word : (form : Form) (m : List ℕ) (told : Told) → Plain m → IsPrinted (m ++ word form told)
with_word form m told a = plain (m ++ word form told) (plain_join m (word form told) a (word_plain form told))

pub mark_printable : (form : Form) (who : Sender) (start : Start) (micros : ℕ) (time : List ℕ) (told : Told) → ShowsTime form start micros time → IsPrinted (mark form who time ++ word form told)
mark_printable form who start micros time told s = with_word form (mark form who time) told (around form who time (time_plain form start micros time s))

pub last_printable : (form : Form) (start : Start) (who : Sender) (told : Told) → IsPrinted (last_mark form start who ++ word form told)
last_printable Columns start who told = with_word Columns (last_mark Columns start who) told (plain_join (blanks (time_width start)) (between who) (blank (time_width start)) (arrows who))
last_printable Json start who told = with_word Json (mark Json who (codes "null")) told (around Json who (codes "null") refl)
