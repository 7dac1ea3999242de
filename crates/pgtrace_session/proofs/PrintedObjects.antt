-- A line with its mark is printable, and so is an object with the mark's members in it.
use Rattle.pgtrace_session.proofs.Common.{◌≡◌, ◌≢◌, ℕ, ◌<◌, Bool, true, false, List, [], ◌∷◌, ◌++◌, length, drop, get_or, Option, refl, sym, ap, ◌∙◌, arith, append_assoc, nat_lt, ◌==◌, if◌then◌else◌, list_all, and_parts, eqb-true, IsPrinted, is_printable, Form, Columns, Json, Style, LineOf, Side, join, line_printable, plain, Sender, Start, Told, ShowsTime, mark, marked, word, Said, ShowsTyped, Types}
use Rattle.std.specs.Char.{encode_utf8, len_utf8}
use Rattle.std.specs.Str.{all_scalars, encode_utf8_all}
use Rattle.std.proofs.lemmas.Str.{encode_ascii, length-encode}
use Rattle.pgtool_line.proofs.Quotes.{never_inside}
use Rattle.pgtrace_session.proofs.PrintedMarks.{mark_printable}
use Rattle.pgtrace_session.proofs.PrintedTypes.{typed_printed}

-- ---- what stands behind an opening brace

some_by : (a b c : Bool) → 0 < (if a then 1 else if b then 2 else if c then 3 else 4)
some_by true b c = omega arith
some_by false true c = omega arith
some_by false false true = omega arith
some_by false false false = omega arith

some_char : (c : ℕ) → 0 < length (encode_utf8 c)
some_char c = let n : 0 < len_utf8 c = some_by (nat_lt c 0x80) (nat_lt c 0x800) (nat_lt c 0x10000) in omega (arith, n, length-encode c)

first : (l more rest : List ℕ) → 0 < length l → 123 ∷ rest ≡ l ++ more → get_or l 0 0 ≡ 123
first [] more rest some e = absurd (omega (arith, some))
first (x ∷ xs) more rest some e = ap (λ t. get_or t 0 0) (sym e)

brace : (rest cs : List ℕ) (c : ℕ) (is : Bool) → (c == 123) ≡ is → all_scalars cs ≡ true → list_all is_printable cs ≡ true → 123 ∷ rest ≡ encode_utf8 c ++ encode_utf8_all cs → IsPrinted rest
brace rest cs c true e scalars printed spelled =
    let here : c ≡ 123 = eqb-true c 123 e in
    let same : 123 ∷ rest ≡ 123 ∷ encode_utf8_all cs = spelled ∙ ap (λ n. encode_utf8 n ++ encode_utf8_all cs) here ∙ ap (λ l. l ++ encode_utf8_all cs) (encode_ascii 123 (omega arith)) in
    record { characters = cs; scalars = scalars; spelled = ap (drop 1) same; printed = printed }
brace rest cs c false e scalars printed spelled =
    let other : c ≢ 123 = λ z. (let f : true ≡ false = rw z at e in absurd cc) in
    absurd (never_inside c 0 123 (omega arith) (some_char c) other (first (encode_utf8 c) (encode_utf8_all cs) rest (some_char c) spelled))

behind_brace : (rest cs : List ℕ) → all_scalars cs ≡ true → list_all is_printable cs ≡ true → 123 ∷ rest ≡ encode_utf8_all cs → IsPrinted rest
behind_brace rest [] scalars printed spelled = absurd (omega (arith, ap length spelled))
behind_brace rest (c ∷ cs) scalars printed spelled = brace rest cs c (c == 123) refl (and_parts _ _ scalars).1 (and_parts _ _ printed).1 spelled

-- ---- lines

abbrev Printed : Form → (m line : List ℕ) → Type 0
Printed form m line = (text : List ℕ) × (marked form m line ≡ text ++ 10 ∷ []) × IsPrinted text

before : (m text line : List ℕ) → line ≡ text ++ 10 ∷ [] → IsPrinted m → IsPrinted text → (out : List ℕ) × (m ++ line ≡ out ++ 10 ∷ []) × IsPrinted out
before m text line e pm pt = (m ++ text, ap (λ l. m ++ l) e ∙ sym (append_assoc m text (10 ∷ [])), join m text pm pt)

inside_by : (m rest : List ℕ) (c : ℕ) (is : Bool) → (c == 123) ≡ is → IsPrinted m → IsPrinted (c ∷ rest)
    → (out : List ℕ) × ((if is then 123 ∷ m ++ (rest ++ 10 ∷ []) else m ++ c ∷ (rest ++ 10 ∷ [])) ≡ out ++ 10 ∷ []) × IsPrinted out
inside_by m rest c true e pm pt =
    let here : c ≡ 123 = eqb-true c 123 e in
    let p : IsPrinted (123 ∷ rest) = rw here at pt in (
      123 ∷ m ++ rest,
      ap (λ l. 123 ∷ l) (sym (append_assoc m rest (10 ∷ []))),
      join (123 ∷ []) (m ++ rest) (plain (123 ∷ []) refl) (join m rest pm (behind_brace rest p.characters p.scalars p.printed p.spelled)),
    )
inside_by m rest c false e pm pt = before m (c ∷ rest) (c ∷ rest ++ 10 ∷ []) refl pm pt

inside : (m text line : List ℕ) → line ≡ text ++ 10 ∷ [] → IsPrinted m → IsPrinted text → Printed Json m line
inside m [] line e pm pt = rw e (m, refl, pm)
inside m (c ∷ rest) line e pm pt = rw e (inside_by m rest c (c == 123) refl pm pt)

printed : (form : Form) (m text line : List ℕ) → line ≡ text ++ 10 ∷ [] → IsPrinted m → IsPrinted text → Printed form m line
printed Columns m text line e pm pt = before m text line e pm pt
printed Json m text line e pm pt = inside m text line e pm pt

pub marked_printable : (style : Style) (place : ℕ) (from to : Side) (frame line : List ℕ) (form : Form) (who : Sender) (start : Start) (micros : ℕ) (time : List ℕ) (told : Told) → LineOf style place from frame line to
    → ShowsTime form start micros time → (text : List ℕ) × (marked form (mark form who time ++ word form told) line ≡ text ++ 10 ∷ []) × IsPrinted text
marked_printable style place from to frame line form who start micros time told is at_time =
    let one = line_printable style place from to frame line is in
    printed form (mark form who time ++ word form told) one.0 line one.1 (mark_printable form who start micros time told at_time) one.2

pub typed_printable : (style : Style) (place len : ℕ) (from to : Side) (frame line typed : List ℕ) (said : Said) (types : Option Types) (form : Form) (who : Sender) (start : Start) (micros : ℕ) (time : List ℕ) (told shown : Told) → LineOf style place from frame line to
    → ShowsTyped style place len told said types line typed → ShowsTime form start micros time → (text : List ℕ) × (marked form (mark form who time ++ word form shown) typed ≡ text ++ 10 ∷ []) × IsPrinted text
typed_printable style place len from to frame line typed said types form who start micros time told shown is shows at_time =
    let one = typed_printed style place len told said types line typed (line_printable style place from to frame line is) shows in
    printed form (mark form who time ++ word form shown) one.0 typed one.1 (mark_printable form who start micros time shown at_time) one.2
