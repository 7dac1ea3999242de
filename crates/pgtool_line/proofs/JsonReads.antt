-- A string of JSON is read as the text that it was written of.
use Rattle.pgtool_line.proofs.Common.{◌≡◌, ◌≢◌, ◌⊎◌, ℕ, suc, ◌+◌, ◌*◌, ◌<◌, ◌≤◌, Bool, true, false, List, [], ◌∷◌, ◌++◌, length, get_or, Option, Some, None, refl, sym, ap, subst, ◌∙◌, arith, inl, inr, append_assoc, ◌/◌, ◌%◌, ◌&&◌, cond, nat_le, nat_lt, ◌==◌, if◌then◌else◌, option_and_then, digit_value, encode_utf8, is_digit, IsScalar, flat_map, AllByRecursion, all_scalars, chars, encode_utf8_all, IsUtf8, and_from, and_parts, eqb-true, false_from_ne_true, leb-true, leb-false, le-leb, lt-ltb, ltb-true, ltb-false, append-nil, flat_map-cons, digit_value-digit_char, encode_ascii, encodes-chars, inside_one, scalars-chars, Json, escaped, escaped_char, hex_digit, is_mark, is_printable, is_visible, quoted, unit, units}
use lib.Utf8.{scalar as is_scalar}
use Rattle.json.specs.Text.{content, plain, after_high, code_unit, short_escape, is_high_surrogate, is_low_surrogate, surrogate_pair, prepend}
use Rattle.pgtool_line.proofs.Escapes.{whole_text}
use Rattle.pgtool_line.proofs.JsonQuotes.{Bounded, bounded, high_of, low_of, small_pair}
use Rattle.pgtool_line.proofs.Quotes.{Mark, mark_by, never_inside, quoted_tail, unmarked_by}

-- ---- what was read stands before what is read then

prepend_none : (o : Option (List ℕ)) → prepend [] o ≡ o
prepend_none None = refl
prepend_none (Some s) = refl

prepend_more : (b : ℕ) (bs : List ℕ) (o : Option (List ℕ)) → prepend (b ∷ []) (prepend bs o) ≡ prepend (b ∷ bs) o
prepend_more b bs None = refl
prepend_more b bs (Some s) = refl

-- ---- digits

same_by : (n : ℕ) (p q : Bool) → nat_le n 9 ≡ p → nat_lt n 10 ≡ q → (if p then 48 + n else 87 + n) ≡ (if q then 48 + n else 87 + n)
same_by n true true e f = refl
same_by n false false e f = refl
same_by n true false e f = absurd (omega (arith, leb-true n 9 e, ltb-false n 10 f))
same_by n false true e f = absurd (omega (arith, leb-false n 9 e, ltb-true n 10 f))

value_of : (n : ℕ) → n < 16 → digit_value (hex_digit n) ≡ n
value_of n h = ap digit_value (same_by n (nat_le n 9) (nat_lt n 10) refl refl) ∙ digit_value-digit_char n (omega (arith, h))

digit_of : (n : ℕ) → n < 16 → is_digit (hex_digit n) 16 ≡ true
digit_of n h = ap (λ v. nat_lt v 16) (value_of n h) ∙ lt-ltb n 16 h

abbrev coded : Bool → Bool → Bool → Bool → ℕ → ℕ → ℕ → ℕ → Option ℕ
coded p q r s w x y z = cond (p && q && r && s) (Some (w * 4096 + x * 256 + y * 16 + z)) None

code_at : (a b c d : ℕ) → a < 16 → b < 16 → c < 16 → d < 16 → code_unit (hex_digit a) (hex_digit b) (hex_digit c) (hex_digit d) ≡ Some (a * 4096 + b * 256 + c * 16 + d)
unfolding code_unit
code_at a b c d ha hb hc hd =
    let va : ℕ = digit_value (hex_digit a) in
    let vb : ℕ = digit_value (hex_digit b) in
    let vc : ℕ = digit_value (hex_digit c) in
    let vd : ℕ = digit_value (hex_digit d) in
    ap (λ p. coded p (is_digit (hex_digit b) 16) (is_digit (hex_digit c) 16) (is_digit (hex_digit d) 16) va vb vc vd) (digit_of a ha)
    ∙ ap (λ p. coded true p (is_digit (hex_digit c) 16) (is_digit (hex_digit d) 16) va vb vc vd) (digit_of b hb)
    ∙ ap (λ p. coded true true p (is_digit (hex_digit d) 16) va vb vc vd) (digit_of c hc) ∙ ap (λ p. coded true true true p va vb vc vd) (digit_of d hd)
    ∙ ap (λ v. coded true true true true v vb vc vd) (value_of a ha) ∙ ap (λ v. coded true true true true a v vc vd) (value_of b hb)
    ∙ ap (λ v. coded true true true true a b v vd) (value_of c hc) ∙ ap (λ v. coded true true true true a b c v) (value_of d hd)

sum_of : (u : ℕ) → u < 0x10000 → (u / 256 / 16 % 16) * 4096 + (u / 256 % 16) * 256 + (u % 256 / 16 % 16) * 16 + u % 256 % 16 ≡ u
sum_of u h = omega (arith, h)

unit_value : (u : ℕ) → u < 0x10000 → code_unit (hex_digit (u / 256 / 16 % 16)) (hex_digit (u / 256 % 16)) (hex_digit (u % 256 / 16 % 16)) (hex_digit (u % 256 % 16)) ≡ Some u
unit_value u h = code_at (u / 256 / 16 % 16) (u / 256 % 16) (u % 256 / 16 % 16) (u % 256 % 16) (omega arith) (omega arith) (omega arith) (omega arith) ∙ ap (λ n. Some n) (sum_of u h)

-- ---- units

abbrev after_first : List ℕ → ℕ → Option (List ℕ)
after_first rest u = cond (is_high_surrogate u) (content (after_high u) rest) (cond (is_low_surrogate u) None (prepend (encode_utf8 u) (content plain rest)))

first_unit : (u : ℕ) (rest : List ℕ) → u < 0x10000 → content plain (unit u ++ rest) ≡ after_first rest u
unfolding content
first_unit u rest h = ap (λ o. option_and_then (after_first rest) o) (unit_value u h)

abbrev after_second : ℕ → List ℕ → ℕ → Option (List ℕ)
after_second high rest l = cond (is_low_surrogate l) (prepend (encode_utf8 (surrogate_pair high l)) (content plain rest)) None

second_unit : (high u : ℕ) (rest : List ℕ) → u < 0x10000 → content (after_high high) (unit u ++ rest) ≡ after_second high rest u
unfolding content
second_unit high u rest h = ap (λ o. option_and_then (after_second high rest) o) (unit_value u h)

not_high : (c : ℕ) → (c < 0xD800) ⊎ (0xE000 ≤ c) → is_high_surrogate c ≡ false
not_high c (inl less) = false_from_ne_true (is_high_surrogate c) (λ t. let parts = and_parts (nat_le 0xD800 c) (nat_lt c 0xDC00) t in omega (arith, less, leb-true 0xD800 c parts.0))
not_high c (inr more) = false_from_ne_true (is_high_surrogate c) (λ t. let parts = and_parts (nat_le 0xD800 c) (nat_lt c 0xDC00) t in omega (arith, more, ltb-true c 0xDC00 parts.1))

not_low : (c : ℕ) → (c < 0xD800) ⊎ (0xE000 ≤ c) → is_low_surrogate c ≡ false
not_low c (inl less) = false_from_ne_true (is_low_surrogate c) (λ t. let parts = and_parts (nat_le 0xDC00 c) (nat_lt c 0xE000) t in omega (arith, less, leb-true 0xDC00 c parts.0))
not_low c (inr more) = false_from_ne_true (is_low_surrogate c) (λ t. let parts = and_parts (nat_le 0xDC00 c) (nat_lt c 0xE000) t in omega (arith, more, ltb-true c 0xE000 parts.1))

abbrev Reads : ℕ → List ℕ → List ℕ → Type 0
Reads c text rest = content plain (text ++ rest) ≡ prepend (encode_utf8 c) (content plain rest)

alone : (c : ℕ) (rest : List ℕ) → c < 0x10000 → (c < 0xD800) ⊎ (0xE000 ≤ c) → Reads c (unit c) rest
alone c rest h out =
    let none : Option (List ℕ) = None in
    first_unit c rest h ∙ ap (λ b. cond b (content (after_high c) rest) (cond (is_low_surrogate c) none (prepend (encode_utf8 c) (content plain rest)))) (not_high c out)
    ∙ ap (λ b. cond b none (prepend (encode_utf8 c) (content plain rest))) (not_low c out)

is_high : (c : ℕ) → c < 0x110000 → is_high_surrogate (high_of c) ≡ true
is_high c h = let top = (small_pair c h).0 in and_from (nat_le 0xD800 (high_of c)) (nat_lt (high_of c) 0xDC00) (le-leb 0xD800 (high_of c) (omega arith)) (lt-ltb (high_of c) 0xDC00 top)

is_low : (c : ℕ) → c < 0x110000 → is_low_surrogate (low_of c) ≡ true
is_low c h = let top = (small_pair c h).1 in and_from (nat_le 0xDC00 (low_of c)) (nat_lt (low_of c) 0xE000) (le-leb 0xDC00 (low_of c) (omega arith)) (lt-ltb (low_of c) 0xE000 top)

pair_is : (c : ℕ) → 0x10000 ≤ c → surrogate_pair (high_of c) (low_of c) ≡ c
pair_is c h = omega (arith, h)

paired : (c : ℕ) (rest : List ℕ) → 0x10000 ≤ c → c < 0x110000 → Reads c (unit (high_of c) ++ unit (low_of c)) rest
paired c rest more less =
    let none : Option (List ℕ) = None in
    let small = small_pair c less in
    let high : ℕ = high_of c in
    let low : ℕ = low_of c in
    let tail : List ℕ = unit low ++ rest in
    first_unit high tail (omega (arith, small.0))
    ∙ ap (λ b. cond b (content (after_high high) tail) (cond (is_low_surrogate high) none (prepend (encode_utf8 high) (content plain tail)))) (is_high c less)
    ∙ second_unit high low rest (omega (arith, small.1))
    ∙ ap (λ b. cond b (prepend (encode_utf8 (surrogate_pair high low)) (content plain rest)) none) (is_low c less)
    ∙ ap (λ n. prepend (encode_utf8 n) (content plain rest)) (pair_is c more)

units_by : (c : ℕ) (p : Bool) (rest : List ℕ) → nat_lt c 0x10000 ≡ p → Bounded c → Reads c (if p then unit c else unit (high_of c) ++ unit (low_of c)) rest
units_by c true rest e b = alone c rest (ltb-true c 0x10000 e) b.0
units_by c false rest e b = paired c rest (ltb-false c 0x10000 e) b.1

-- ---- bytes that stand as they are

abbrev IsBare : ℕ → Type 0
IsBare b = (b ≢ 34) × (b ≢ 92) × (32 ≤ b)

bare_by : (b : ℕ) (p q r : Bool) (xs : List ℕ) (quote escape : Option (List ℕ)) → p ≡ false → q ≡ false → r ≡ false
    → cond p quote (cond q escape (cond r None (prepend (b ∷ []) (content plain xs)))) ≡ prepend (b ∷ []) (content plain xs)
bare_by b false false false xs quote escape e f g = refl
bare_by b true q r xs quote escape e f g = absurd cc
bare_by b false true r xs quote escape e f g = absurd cc
bare_by b false false true xs quote escape e f g = absurd cc

bare_byte : (b : ℕ) (xs : List ℕ) → IsBare b → content plain (b ∷ xs) ≡ prepend (b ∷ []) (content plain xs)
unfolding content
bare_byte b xs h =
    bare_by b (b == 34) (b == 92) (nat_lt b 32) xs _ _ (false_from_ne_true (b == 34) (λ t. h.0 (eqb-true b 34 t))) (false_from_ne_true (b == 92) (λ t. h.1 (eqb-true b 92 t)))
    (false_from_ne_true (nat_lt b 32) (λ t. omega (arith, h.2, ltb-true b 32 t)))

bare_bytes : (bs rest : List ℕ) → AllByRecursion IsBare bs → content plain (bs ++ rest) ≡ prepend bs (content plain rest)
bare_bytes [] rest all = sym (prepend_none (content plain rest))
bare_bytes (b ∷ bs) rest all = bare_byte b (bs ++ rest) all.0 ∙ ap (prepend (b ∷ [])) (bare_bytes bs rest all.1) ∙ prepend_more b bs (content plain rest)

all_bare : (bs : List ℕ) → ((k : ℕ) → k < length bs → IsBare (get_or bs k 0)) → AllByRecursion IsBare bs
all_bare [] h = tt
all_bare (b ∷ bs) h = (h 0 (omega arith), all_bare bs (λ k lt. h (suc k) (omega (arith, lt))))

-- of a character that is printed no byte is a control
visible_by : (c : ℕ) (low : Bool) (other : Bool) → nat_lt c 128 ≡ low → (if low then is_visible c else other) ≡ true → 32 ≤ c
visible_by c true other e p = let parts = and_parts (nat_le 32 c) (nat_le c 126) p in leb-true 32 c parts.0
visible_by c false other e p = omega (arith, ltb-false c 128 e)

byte_by : (c k : ℕ) (low : Bool) → 32 ≤ c → k < length (encode_utf8 c) → nat_le 32 (get_or (encode_utf8 c) k 0) ≡ low → 32 ≤ get_or (encode_utf8 c) k 0
byte_by c k true visible lt e = leb-true 32 (get_or (encode_utf8 c) k 0) e
byte_by c k false visible lt e =
    let small = leb-false 32 (get_or (encode_utf8 c) k 0) e in
    let same = inside_one c [] (encode_utf8 c) k (sym (append-nil (encode_utf8 c))) lt (omega (arith, small)) in
    absurd (omega (arith, small, same, visible))

-- ---- characters

marked : (c : ℕ) (rest : List ℕ) → Mark c → content plain (92 ∷ c ∷ rest) ≡ prepend (c ∷ []) (content plain rest)
unfolding content short_escape
marked c rest (inl e) = subst (λ n. content plain (92 ∷ n ∷ rest) ≡ prepend (n ∷ []) (content plain rest)) (sym e) refl
marked c rest (inr e) = subst (λ n. content plain (92 ∷ n ∷ rest) ≡ prepend (n ∷ []) (content plain rest)) (sym e) refl

low_mark : (c : ℕ) → Mark c → c < 128
low_mark c (inl e) = omega (arith, e)
low_mark c (inr e) = omega (arith, e)

char_by : (c : ℕ) (m p : Bool) (rest : List ℕ) → IsScalar c → is_mark c ≡ m → is_printable c ≡ p → Reads c (if m then 92 ∷ c ∷ [] else if p then encode_utf8 c else units c) rest
char_by c true p rest s e f =
    let mark = mark_by c (c == 34) (c == 92) refl refl e in
    marked c rest mark ∙ ap (λ l. prepend l (content plain rest)) (sym (encode_ascii c (low_mark c mark)))
char_by c false true rest s e f =
    let none = unmarked_by c (c == 34) (c == 92) refl refl e in
    let visible = visible_by c (nat_lt c 128) _ refl f in
    bare_bytes (encode_utf8 c) rest (all_bare (encode_utf8 c) (λ k lt. (never_inside c k 34 (omega arith) lt none.0, never_inside c k 92 (omega arith) lt none.1, byte_by c k (nat_le 32 (get_or (encode_utf8 c) k 0)) visible lt refl)))
char_by c false false rest s e f = units_by c (nat_lt c 0x10000) rest refl (bounded c s)

closed : (rest : List ℕ) → content plain (34 ∷ rest) ≡ Some []
unfolding content
closed rest = refl

chars_read : (cs rest : List ℕ) → all_scalars cs ≡ true → content plain (flat_map (escaped_char Json) cs ++ 34 ∷ rest) ≡ Some (encode_utf8_all cs)
chars_read [] rest s = closed rest
chars_read (c ∷ cs) rest s =
    let parts = and_parts (is_scalar c) (all_scalars cs) s in
    let more : List ℕ = flat_map (escaped_char Json) cs in
    ap (λ l. content plain (l ++ 34 ∷ rest)) (flat_map-cons (escaped_char Json) c cs) ∙ ap (content plain) (append_assoc (escaped_char Json c) more (34 ∷ rest))
    ∙ char_by c (is_mark c) (is_printable c) (more ++ 34 ∷ rest) parts.0 refl refl ∙ ap (prepend (encode_utf8 c)) (chars_read cs rest parts.1)

pub string_read : (xs rest : List ℕ) → IsUtf8 xs → content plain (escaped Json xs ++ 34 ∷ rest) ≡ Some xs
string_read xs rest u =
    ap (λ l. content plain (l ++ 34 ∷ rest)) (whole_text Json xs u) ∙ chars_read (chars xs) rest (scalars-chars xs u) ∙ ap (λ l. Some l) (encodes-chars xs u)

-- and stands after its quote
pub string_stands : (xs rest : List ℕ) → IsUtf8 xs → (rs : List ℕ) × (quoted Json xs ++ rest ≡ 34 ∷ rs) × (content plain rs ≡ Some xs)
string_stands xs rest u = (escaped Json xs ++ 34 ∷ rest, quoted_tail Json xs rest, string_read xs rest u)
