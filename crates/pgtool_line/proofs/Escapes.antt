-- A text a run at a time.
use Rattle.pgtool_line.proofs.Common.{◌≡◌, ℕ, zero, suc, ◌+◌, ◌-◌, ◌<◌, ◌≤◌, Bool, true, false, List, [], ◌∷◌, ◌++◌, length, take, drop, get_or, Result, Ok, Err, refl, sym, ap, subst, ◌∙◌, arith, append_assoc, take-append-drop, ◌/◌, ◌%◌, OnOk, ◌==◌, nat_le, nat_lt, if◌then◌else◌, encode_utf8, flat_map, list_all, list_any, IsUtf8, IsAscii, IsCharBoundary, chars, is_utf8, utf8_valid_len, valid_len_up_to, leb-true, le-ltb, lt-ltb, and_from, and_parts, append-nil, take_more, take_all, drop_all, flat_map-cons, flat_map-append, IsCharBoundary-from_take, IsUtf8-nil, chars-nil, is_utf8-from_IsUtf8, IsUtf8-from_is_utf8, encode_ascii, IsUtf8-from_ascii, chars-append, chars-IsAscii, chars_past_char, utf8_valid_len-IsUtf8, Form, Columns, Json, broken, escaped, escaped_at, escaped_char, is_mark, is_printable, is_text, is_visible, unit, units, unprinted, escaped_text, is_plain}
use Rattle.std.proofs.lemmas.Str.Ascii.{IsAscii-nil, IsAscii-cons}

-- ---- plain characters

-- one that is plain is printed as it is
abbrev IsPlainly : ℕ → Type 0
IsPlainly b = (b < 128) × (is_mark b ≡ false) × (is_visible b ≡ true)

plainly_by : (b : ℕ) (m v : Bool) → is_mark b ≡ m → is_visible b ≡ v → (if m then false else v) ≡ true → IsPlainly b
plainly_by b true v e f h = absurd cc
plainly_by b false true e f h = let parts = and_parts (nat_le 32 b) (nat_le b 126) f in (omega (arith, leb-true b 126 parts.1), e, f)
plainly_by b false false e f h = absurd cc

plainly : (b : ℕ) → is_plain b ≡ true → IsPlainly b
plainly b h = plainly_by b (is_mark b) (is_visible b) refl refl h

alone_by : (form : Form) (b : ℕ) (m p : Bool) → m ≡ false → p ≡ true → (if m then 92 ∷ b ∷ [] else if p then encode_utf8 b else unprinted form b) ≡ encode_utf8 b
alone_by form b true p e f = absurd cc
alone_by form b false true e f = refl
alone_by form b false false e f = absurd cc

low_by : (b : ℕ) (low v h : Bool) → low ≡ true → v ≡ true → (if low then v else h) ≡ true
low_by b true v h e f = f
low_by b false v h e f = absurd cc

alone : (form : Form) (b : ℕ) → IsPlainly b → escaped_char form b ≡ b ∷ []
alone form b p = alone_by form b (is_mark b) (is_printable b) p.1 (low_by b (nat_lt b 128) (is_visible b) _ (lt-ltb b 128 p.0) p.2) ∙ encode_ascii b p.0

plain_ascii : (xs : List ℕ) → list_all is_plain xs ≡ true → IsAscii xs
plain_ascii [] h = IsAscii-nil
plain_ascii (x ∷ xs) h = let parts = and_parts (is_plain x) (list_all is_plain xs) h in IsAscii-cons x xs (plainly x parts.0).0 (plain_ascii xs parts.1)

plain_same : (form : Form) (xs : List ℕ) → list_all is_plain xs ≡ true → flat_map (escaped_char form) xs ≡ xs
plain_same form [] h = refl
plain_same form (x ∷ xs) h =
    let parts = and_parts (is_plain x) (list_all is_plain xs) h in
    flat_map-cons (escaped_char form) x xs ∙ ap (λ l. l ++ flat_map (escaped_char form) xs) (alone form x (plainly x parts.0)) ∙ ap (λ l. x ∷ l) (plain_same form xs parts.1)

pub plain_utf8 : (xs : List ℕ) → list_all is_plain xs ≡ true → IsUtf8 xs
plain_utf8 xs h = IsUtf8-from_ascii xs (plain_ascii xs h)

-- a text may be cut after them
pub plain_end : (text : List ℕ) (n : ℕ) → IsUtf8 text → n ≤ length text → list_all is_plain (take n text) ≡ true → IsCharBoundary text n
plain_end text n u le h = IsCharBoundary-from_take text n u le (plain_utf8 (take n text) h)

-- a run of them at the front
pub plain_front : (form : Form) (xs ys : List ℕ) → list_all is_plain xs ≡ true → escaped_text form (xs ++ ys) ≡ xs ++ escaped_text form ys
plain_front form xs ys h =
    ap (flat_map (escaped_char form)) (chars-append xs ys (plain_utf8 xs h)) ∙ flat_map-append (escaped_char form) (chars xs) (chars ys)
    ∙ ap (λ l. flat_map (escaped_char form) l ++ escaped_text form ys) (chars-IsAscii xs (plain_ascii xs h)) ∙ ap (λ l. l ++ escaped_text form ys) (plain_same form xs h)

pub plain_split : (form : Form) (text : List ℕ) (n : ℕ) → list_all is_plain (take n text) ≡ true → escaped_text form text ≡ take n text ++ escaped_text form (drop n text)
plain_split form text n h = ap (escaped_text form) (sym (take-append-drop n text)) ∙ plain_front form (take n text) (drop n text) h

all_more : (xs : List ℕ) (b : ℕ) → list_all is_plain xs ≡ true → is_plain b ≡ true → list_all is_plain (xs ++ b ∷ []) ≡ true
all_more [] b h k = and_from (is_plain b) true k refl
all_more (x ∷ xs) b h k = let parts = and_parts (is_plain x) (list_all is_plain xs) h in and_from (is_plain x) (list_all is_plain (xs ++ b ∷ [])) parts.0 (all_more xs b parts.1 k)

-- one byte more
pub plain_more : (xs : List ℕ) (i : ℕ) → i < length xs → list_all is_plain (take i xs) ≡ true → is_plain (get_or xs i 0) ≡ true → list_all is_plain (take (i + 1) xs) ≡ true
plain_more xs i lt h k = subst (λ l. list_all is_plain l ≡ true) (sym (take_more xs i 0 lt)) (all_more (take i xs) (get_or xs i 0) h k)

-- ---- the next character

pub next_char : (form : Form) (text rest : List ℕ) (c : ℕ) → IsUtf8 text → text ≡ encode_utf8 c ++ rest → escaped_text form text ≡ escaped_char form c ++ escaped_text form rest
next_char form text rest c u e = ap (flat_map (escaped_char form)) (chars_past_char text rest c u e) ∙ flat_map-cons (escaped_char form) c (chars rest)

-- ---- a text

front_by : (bytes : List ℕ) (n m : ℕ) (u : Bool) → is_utf8 (take n bytes) ≡ u → IsUtf8 (take m bytes) → IsUtf8 (take (if u then n else m) bytes)
front_by bytes n m true e f = IsUtf8-from_is_utf8 (take n bytes) e
front_by bytes n m false e f = f

front_up_to : (bytes : List ℕ) (n : ℕ) → IsUtf8 (take (valid_len_up_to bytes n) bytes)
front_up_to bytes zero = IsUtf8-nil
front_up_to bytes (suc n) = front_by bytes (suc n) (valid_len_up_to bytes n) (is_utf8 (take (suc n) bytes)) refl (front_up_to bytes n)

-- the bytes that are shown as characters are some
pub front_utf8 : (bytes : List ℕ) → IsUtf8 (take (utf8_valid_len bytes) bytes)
unfolding utf8_valid_len
front_utf8 bytes = front_up_to bytes (length bytes)

broken_none : (form : Form) → broken form [] ≡ []
broken_none Columns = refl
broken_none Json = refl

whole_at : (form : Form) (bytes : List ℕ) (n : ℕ) → n ≡ length bytes → escaped_at form n bytes ≡ escaped_text form bytes
whole_at form bytes n e =
    ap (λ k. escaped_at form k bytes) e
    ∙ ap (λ l. escaped_text form l ++ broken form (drop (length bytes) bytes)) (take_all (length bytes) bytes (omega arith))
    ∙ ap (λ l. escaped_text form bytes ++ broken form l) (drop_all (length bytes) bytes (omega arith)) ∙ ap (λ l. escaped_text form bytes ++ l) (broken_none form) ∙ append-nil (escaped_text form bytes)

pub whole_text : (form : Form) (bytes : List ℕ) → IsUtf8 bytes → escaped form bytes ≡ escaped_text form bytes
unfolding escaped
whole_text form bytes u = whole_at form bytes (utf8_valid_len bytes) (utf8_valid_len-IsUtf8 bytes u)

-- ---- what a line gains

-- the rest of a text after a run, and after a character
pub run_added : (form : Form) (old new text : List ℕ) (n : ℕ) → list_all is_plain (take n text) ≡ true → new ≡ old ++ take n text → new ++ escaped_text form (drop n text) ≡ old ++ escaped_text form text
run_added form old new text n h e =
    ap (λ l. l ++ escaped_text form (drop n text)) e ∙ append_assoc old (take n text) (escaped_text form (drop n text)) ∙ ap (λ l. old ++ l) (sym (plain_split form text n h))

pub char_added : (form : Form) (old new text rest : List ℕ) (c : ℕ) → IsUtf8 text → text ≡ encode_utf8 c ++ rest → new ≡ old ++ escaped_char form c → new ++ escaped_text form rest ≡ old ++ escaped_text form text
char_added form old new text rest c u t e =
    ap (λ l. l ++ escaped_text form rest) e ∙ append_assoc old (escaped_char form c) (escaped_text form rest) ∙ ap (λ l. old ++ l) (sym (next_char form text rest c u t))

none_left : (form : Form) (rest : List ℕ) → length rest ≡ 0 → escaped_text form rest ≡ []
none_left form [] e = ap (flat_map (escaped_char form)) chars-nil
none_left form (x ∷ xs) e = absurd (omega (arith, e))

pub all_added : (form : Form) (line rest all : List ℕ) → line ++ escaped_text form rest ≡ all → length rest ≡ 0 → line ≡ all
all_added form line rest all e z = sym (append-nil line) ∙ ap (λ l. line ++ l) (sym (none_left form rest z)) ∙ e

-- ---- a character of two units

pair_by : (low : Bool) (xs ys : List ℕ) → low ≡ false → (if low then xs else ys) ≡ ys
pair_by true xs ys e = absurd cc
pair_by false xs ys e = refl

pub pair_added : {T E : Type 0} (r : Result T E) (old mid new : List ℕ) (c : ℕ) → 0x10000 ≤ c → mid ≡ old ++ unit (0xD800 + (c - 0x10000) / 1024)
    → OnOk r (new ≡ mid ++ unit (0xDC00 + (c - 0x10000) % 1024)) → OnOk r (new ≡ old ++ units c)
pair_added (Ok x) old mid new c above e f =
    let high : List ℕ = unit (0xD800 + (c - 0x10000) / 1024) in
    let low : List ℕ = unit (0xDC00 + (c - 0x10000) % 1024) in
    f ∙ ap (λ l. l ++ low) e ∙ append_assoc old high low ∙ ap (λ l. old ++ l) (sym (pair_by (nat_lt c 0x10000) (unit c) (high ++ low) (le-ltb c 0x10000 above)))
pair_added (Err x) old mid new c above e f = tt

-- ---- which values are texts

text_by : (bytes : List ℕ) (zero u : Bool) → zero ≡ false → u ≡ true → true ≡ (if zero then false else u)
text_by bytes true u e f = absurd cc
text_by bytes false u e f = sym f

pub is_one : (bytes : List ℕ) → list_any (λ b. b == 0) bytes ≡ false → IsUtf8 bytes → true ≡ is_text bytes
is_one bytes z u = text_by bytes (list_any (λ b. b == 0) bytes) (is_utf8 bytes) z (is_utf8-from_IsUtf8 bytes u)

none_by : (bytes : List ℕ) (zero u : Bool) → is_utf8 bytes ≡ u → ¬ (IsUtf8 bytes) → false ≡ (if zero then false else u)
none_by bytes true u e n = refl
none_by bytes false true e n = absurd (n (IsUtf8-from_is_utf8 bytes e))
none_by bytes false false e n = refl

pub is_none : (bytes : List ℕ) → ¬ (IsUtf8 bytes) → false ≡ is_text bytes
is_none bytes n = none_by bytes (list_any (λ b. b == 0) bytes) (is_utf8 bytes) refl n
