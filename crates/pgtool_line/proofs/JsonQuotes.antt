-- In JSON quoting loses nothing either.
use Rattle.pgtool_line.proofs.Common.{◌≡◌, ◌≢◌, ◌⊎◌, ℕ, ◌+◌, ◌-◌, ◌<◌, ◌≤◌, Bool, true, false, List, [], ◌∷◌, ◌++◌, length, take, get_or, drop, Some, None, refl, sym, ap, subst, ◌∙◌, arith, inl, inr, append_assoc, ◌/◌, ◌%◌, ◌&&◌, nat_le, nat_lt, ◌==◌, if◌then◌else◌, codes, encode_utf8, IsScalar, flat_map, list_any, AllByRecursion, all_scalars, chars, encode_utf8_all, is_utf8, IsUtf8, and_parts, leb-true, le-leb, ltb-true, ltb-false, append-nil, append_cancel_left, append_cancel_right, flat_map-cons, encode_ascii, encodes-chars, scalars-chars, IsUtf8-from_is_utf8, Form, Columns, Json, Value, added, added_by, comma, escaped, escaped_char, hex_byte, is_mark, is_printable, is_text, json_digits, json_hex, json_text, json_value, long, quoted, unit, units, unprinted}
use lib.Utf8.{scalar as is_scalar}
use Rattle.pgtool_line.specs.declared.style.Style.{Style}
use Rattle.pgtool_line.proofs.Escapes.{whole_text}
use Rattle.pgtool_line.proofs.Quotes.{AreBytes, Mark, Same, digits_all, hex_one, low_mark, mark_by, never_inside, never_shown_null, quoted_tail, short_values, unmarked_all, unmarked_by}

-- ---- units of UTF-16

abbrev One : ℕ → ℕ → List ℕ → List ℕ → Type 0
One u v r s = (u ≡ v) × (r ≡ s)

halves : (u v : ℕ) → u / 256 ≡ v / 256 → u % 256 ≡ v % 256 → u ≡ v
halves u v high low = omega (arith, high, low)

unit_one : (u v : ℕ) (r s : List ℕ) → u < 0x10000 → v < 0x10000 → unit u ++ r ≡ unit v ++ s → One u v r s
unit_one u v r s x y e =
    let high = hex_one (u / 256) (v / 256) (hex_byte (u % 256) ++ r) (hex_byte (v % 256) ++ s) (omega (arith, x)) (omega (arith, y)) (ap (drop 2) e) in
    let low = hex_one (u % 256) (v % 256) r s (omega arith) (omega arith) high.1 in
    (halves u v high.0 low.0, low.1)

-- no surrogate
abbrev pub Bounded : ℕ → Type 0
Bounded c = ((c < 0xD800) ⊎ (0xE000 ≤ c)) × (c < 0x110000)

bounded_by : (c : ℕ) (low : Bool) → nat_lt c 0xD800 ≡ low → (if low then true else (nat_le 0xE000 c && nat_lt c 0x110000)) ≡ true → Bounded c
bounded_by c true e s = let less : c < 0xD800 = ltb-true c 0xD800 e in (inl less, omega (arith, less))
bounded_by c false e s = let parts = and_parts (nat_le 0xE000 c) (nat_lt c 0x110000) s in (inr (leb-true 0xE000 c parts.0), ltb-true c 0x110000 parts.1)

pub bounded : (c : ℕ) → IsScalar c → Bounded c
bounded c s = bounded_by c (nat_lt c 0xD800) refl s

abbrev pub high_of : ℕ → ℕ
high_of c = 0xD800 + (c - 0x10000) / 1024

abbrev pub low_of : ℕ → ℕ
low_of c = 0xDC00 + (c - 0x10000) % 1024

pub small_pair : (c : ℕ) → c < 0x110000 → (high_of c < 0xDC00) × (low_of c < 0xE000)
small_pair c less = (omega (arith, less), omega (arith, less))

from_pair : (c d : ℕ) → 0x10000 ≤ c → 0x10000 ≤ d → high_of c ≡ high_of d → low_of c ≡ low_of d → c ≡ d
from_pair c d x y high low = omega (arith, x, y, high, low)

never_high : (c d : ℕ) → Bounded c → d < 0x110000 → c ≡ high_of d → ⊥
never_high c d (inl less, fits) small e = absurd (omega (arith, less, e))
never_high c d (inr more, fits) small e = let top = (small_pair d small).0 in absurd (omega (arith, more, top, e))

units_by : (c d : ℕ) (p q : Bool) (r s : List ℕ) → nat_lt c 0x10000 ≡ p → nat_lt d 0x10000 ≡ q → Bounded c → Bounded d
    → (if p then unit c else unit (high_of c) ++ unit (low_of c)) ++ r ≡ (if q then unit d else unit (high_of d) ++ unit (low_of d)) ++ s → One c d r s
units_by c d true true r s x y a b e = unit_one c d r s (ltb-true c 0x10000 x) (ltb-true d 0x10000 y) e
units_by c d true false r s x y a b e =
    let top = (small_pair d b.1).0 in
    absurd (never_high c d a b.1 (unit_one c (high_of d) r (unit (low_of d) ++ s) (ltb-true c 0x10000 x) (omega (arith, top)) e).0)
units_by c d false true r s x y a b e =
    let top = (small_pair c a.1).0 in
    absurd (never_high d c b a.1 (sym (unit_one (high_of c) d (unit (low_of c) ++ r) s (omega (arith, top)) (ltb-true d 0x10000 y) e).0))
units_by c d false false r s x y a b e =
    let here = small_pair c a.1 in
    let there = small_pair d b.1 in
    let first = unit_one (high_of c) (high_of d) (unit (low_of c) ++ r) (unit (low_of d) ++ s) (omega (arith, here.0)) (omega (arith, there.0)) e in
    let second = unit_one (low_of c) (low_of d) r s (omega (arith, here.1)) (omega (arith, there.1)) first.1 in
    (from_pair c d (ltb-false c 0x10000 x) (ltb-false d 0x10000 y) first.0 second.0, second.1)

units_one : (c d : ℕ) (r s : List ℕ) → IsScalar c → IsScalar d → units c ++ r ≡ units d ++ s → One c d r s
units_one c d r s a b e = units_by c d (nat_lt c 0x10000) (nat_lt d 0x10000) r s refl refl (bounded c a) (bounded d b) e

-- their first two characters
begin_by : (p : Bool) (u v w : ℕ) (r : List ℕ) → (get_or ((if p then unit u else unit v ++ unit w) ++ r) 0 0 ≡ 92) × (get_or ((if p then unit u else unit v ++ unit w) ++ r) 1 0 ≡ 117)
begin_by true u v w r = (refl, refl)
begin_by false u v w r = (refl, refl)

units_begin : (c : ℕ) (r : List ℕ) → (get_or (units c ++ r) 0 0 ≡ 92) × (get_or (units c ++ r) 1 0 ≡ 117)
units_begin c r = begin_by (nat_lt c 0x10000) c (high_of c) (low_of c) r

-- ---- characters

-- These bytes are written so: a mark, another byte as it is, or a character by its units.
data Way (bytes text : List ℕ) : Type 0 where
  Marked : (b : ℕ) → Mark b → bytes ≡ b ∷ [] → text ≡ 92 ∷ b ∷ [] → Way bytes text
  Bare : (b : ℕ) → b ≢ 34 → b ≢ 92 → bytes ≡ b ∷ [] → text ≡ b ∷ [] → Way bytes text
  Coded : (c : ℕ) → IsScalar c → bytes ≡ encode_utf8 c → text ≡ units c → Way bytes text

no_mark : (b : ℕ) → Mark b → b ≡ 117 → ⊥
no_mark b (inl e) h = absurd (omega (arith, e, h))
no_mark b (inr e) h = absurd (omega (arith, e, h))

ways_one : (p q e f r s : List ℕ) → Way p e → Way q f → e ++ r ≡ f ++ s → Same p q r s
ways_one p q e f r s (Marked b m x y) (Marked c n z w) h =
    let k : 92 ∷ b ∷ r ≡ 92 ∷ c ∷ s = ap (λ l. l ++ r) (sym y) ∙ h ∙ ap (λ l. l ++ s) w in
    (x ∙ ap (λ t. t ∷ []) (ap (λ l. get_or l 1 0) k) ∙ sym z, ap (drop 2) k)
ways_one p q e f r s (Marked b m x y) (Bare c n o z w) h =
    let k : 92 ∷ b ∷ r ≡ c ∷ s = ap (λ l. l ++ r) (sym y) ∙ h ∙ ap (λ l. l ++ s) w in
    absurd (o (sym (ap (λ l. get_or l 0 0) k)))
ways_one p q e f r s (Marked b m x y) (Coded c n z w) h =
    let k : 92 ∷ b ∷ r ≡ units c ++ s = ap (λ l. l ++ r) (sym y) ∙ h ∙ ap (λ l. l ++ s) w in
    absurd (no_mark b m (ap (λ l. get_or l 1 0) k ∙ (units_begin c s).1))
ways_one p q e f r s (Bare b m o x y) (Marked c n z w) h =
    let k : b ∷ r ≡ 92 ∷ c ∷ s = ap (λ l. l ++ r) (sym y) ∙ h ∙ ap (λ l. l ++ s) w in
    absurd (o (ap (λ l. get_or l 0 0) k))
ways_one p q e f r s (Bare b m o x y) (Bare c n u z w) h =
    let k : b ∷ r ≡ c ∷ s = ap (λ l. l ++ r) (sym y) ∙ h ∙ ap (λ l. l ++ s) w in
    (x ∙ ap (λ t. t ∷ []) (ap (λ l. get_or l 0 0) k) ∙ sym z, ap (drop 1) k)
ways_one p q e f r s (Bare b m o x y) (Coded c n z w) h =
    let k : b ∷ r ≡ units c ++ s = ap (λ l. l ++ r) (sym y) ∙ h ∙ ap (λ l. l ++ s) w in
    absurd (o (ap (λ l. get_or l 0 0) k ∙ (units_begin c s).0))
ways_one p q e f r s (Coded b m x y) (Marked c n z w) h =
    let k : units b ++ r ≡ 92 ∷ c ∷ s = ap (λ l. l ++ r) (sym y) ∙ h ∙ ap (λ l. l ++ s) w in
    absurd (no_mark c n (sym (ap (λ l. get_or l 1 0) k) ∙ (units_begin b r).1))
ways_one p q e f r s (Coded b m x y) (Bare c n o z w) h =
    let k : units b ++ r ≡ c ∷ s = ap (λ l. l ++ r) (sym y) ∙ h ∙ ap (λ l. l ++ s) w in
    absurd (o (sym (ap (λ l. get_or l 0 0) k) ∙ (units_begin b r).0))
ways_one p q e f r s (Coded b m x y) (Coded c n z w) h =
    let k : units b ++ r ≡ units c ++ s = ap (λ l. l ++ r) (sym y) ∙ h ∙ ap (λ l. l ++ s) w in
    let one = units_one b c r s m n k in
    (x ∙ ap encode_utf8 one.0 ∙ sym z, one.1)

-- none begins with a quote
way_begins : (p e r s : List ℕ) → Way p e → e ++ r ≡ 34 ∷ s → ⊥
way_begins p e r s (Marked b m x y) h = let n : 92 ≡ 34 = ap (λ l. get_or l 0 0) (ap (λ l. l ++ r) (sym y) ∙ h) in absurd (omega (arith, n))
way_begins p e r s (Bare b m o x y) h = absurd (m (ap (λ l. get_or l 0 0) (ap (λ l. l ++ r) (sym y) ∙ h)))
way_begins p e r s (Coded b m x y) h = let n : 92 ≡ 34 = sym (units_begin b r).0 ∙ ap (λ l. get_or l 0 0) (ap (λ l. l ++ r) (sym y) ∙ h) in absurd (omega (arith, n))

-- ---- texts

-- The bytes, some after others, each written in one of these ways.
data Written : List ℕ → List ℕ → Type 0 where
  Nothing : Written [] []
  Further : {bs out : List ℕ} (p e : List ℕ) → Way p e → Written bs out → Written (p ++ bs) (e ++ out)

written_one : {xs ys a b : List ℕ} (r s : List ℕ) → Written xs a → Written ys b → a ++ 34 ∷ r ≡ b ++ 34 ∷ s → Same xs ys r s
written_one r s Nothing Nothing e = (refl, ap (drop 1) e)
written_one r s Nothing (Further {bs} {out} p f way t) e = absurd (way_begins p f (out ++ 34 ∷ s) r way (sym (append_assoc f out (34 ∷ s)) ∙ sym e))
written_one r s (Further {bs} {out} p f way t) Nothing e = absurd (way_begins p f (out ++ 34 ∷ r) s way (sym (append_assoc f out (34 ∷ r)) ∙ e))
written_one r s (Further {bs} {out} p f way t) (Further {bs = cs} {out = more} q g path u) e =
    let first = ways_one p q f g (out ++ 34 ∷ r) (more ++ 34 ∷ s) way path (sym (append_assoc f out (34 ∷ r)) ∙ e ∙ append_assoc g more (34 ∷ s)) in
    let rest = written_one r s t u first.1 in
    (ap (λ l. l ++ bs) first.0 ∙ ap (λ l. q ++ l) rest.0, rest.1)

written_join : {xs a : List ℕ} {ys b : List ℕ} → Written xs a → Written ys b → Written (xs ++ ys) (a ++ b)
written_join Nothing t = t
written_join {ys = ys} {b = b} (Further {bs} {out} p e way s) t =
    subst (λ l. Written l ((e ++ out) ++ b)) (sym (append_assoc p bs ys)) (subst (Written (p ++ (bs ++ ys))) (sym (append_assoc e out b)) (Further p e way (written_join s t)))

written_bare : (bs : List ℕ) → AllByRecursion (λ b. (b ≢ 34) × (b ≢ 92)) bs → Written bs bs
written_bare [] all = Nothing
written_bare (b ∷ bs) all = Further (b ∷ []) (b ∷ []) (Bare b all.0.0 all.0.1 refl refl) (written_bare bs all.1)

written_alone : (p e : List ℕ) → Way p e → Written p e
written_alone p e way = subst (Written p) (append-nil e) (subst (λ l. Written l (e ++ [])) (append-nil p) (Further p e way Nothing))

written_by : (c : ℕ) (m p : Bool) → IsScalar c → is_mark c ≡ m → Written (encode_utf8 c) (if m then 92 ∷ c ∷ [] else if p then encode_utf8 c else unprinted Json c)
written_by c true p s e =
    let mark = mark_by c (c == 34) (c == 92) refl refl e in
    written_alone (encode_utf8 c) (92 ∷ c ∷ []) (Marked c mark (encode_ascii c (low_mark c mark)) refl)
written_by c false true s e =
    let none = unmarked_by c (c == 34) (c == 92) refl refl e in
    written_bare (encode_utf8 c) (unmarked_all (encode_utf8 c) (λ k lt. (never_inside c k 34 (omega arith) lt none.0, never_inside c k 92 (omega arith) lt none.1)))
written_by c false false s e = written_alone (encode_utf8 c) (units c) (Coded c s refl refl)

written_chars : (cs : List ℕ) → all_scalars cs ≡ true → Written (encode_utf8_all cs) (flat_map (escaped_char Json) cs)
written_chars [] s = Nothing
written_chars (c ∷ cs) s =
    let parts = and_parts (is_scalar c) (all_scalars cs) s in
    subst (Written (encode_utf8 c ++ encode_utf8_all cs)) (sym (flat_map-cons (escaped_char Json) c cs)) (written_join (written_by c (is_mark c) (is_printable c) parts.0 refl) (written_chars cs parts.1))

written_text : (bytes : List ℕ) → IsUtf8 bytes → Written bytes (escaped Json bytes)
written_text bytes u =
    subst (Written bytes) (sym (whole_text Json bytes u)) (subst (λ l. Written l (flat_map (escaped_char Json) (chars bytes))) (encodes-chars bytes u) (written_chars (chars bytes) (scalars-chars bytes u)))

-- one text is quoted so, whatever follows it
pub string_one : (xs ys r s : List ℕ) → IsUtf8 xs → IsUtf8 ys → quoted Json xs ++ r ≡ quoted Json ys ++ s → Same xs ys r s
string_one xs ys r s a b e = written_one r s (written_text xs a) (written_text ys b) (ap (drop 1) (sym (quoted_tail Json xs r) ∙ e ∙ quoted_tail Json ys s))

-- ---- values

text_by : (zero u : Bool) (bytes : List ℕ) → is_utf8 bytes ≡ u → (if zero then false else u) ≡ true → IsUtf8 bytes
text_by true u bytes e t = absurd cc
text_by false true bytes e t = IsUtf8-from_is_utf8 bytes e
text_by false false bytes e t = absurd cc

text_utf8 : (bytes : List ℕ) → is_text bytes ≡ true → IsUtf8 bytes
text_utf8 bytes t = text_by (list_any (λ b. b == 0) bytes) (is_utf8 bytes) bytes refl t

abbrev pub text_up_to : Bool → ℕ → List ℕ → List ℕ
text_up_to short limit bytes = if short then quoted Json bytes else codes "{\"text\":" ++ quoted Json (take limit bytes) ++ long (length bytes)

abbrev pub hex_up_to : Bool → ℕ → List ℕ → List ℕ
hex_up_to short limit bytes = if short then json_digits bytes ++ 125 ∷ [] else json_digits (take limit bytes) ++ long (length bytes)

uncut_text : (limit : ℕ) (xs : List ℕ) → length xs ≤ limit → json_text limit xs ≡ quoted Json xs
unfolding json_text
uncut_text limit xs le = ap (λ (b : Bool). text_up_to b limit xs) (le-leb (length xs) limit le)

uncut_hex : (limit : ℕ) (xs : List ℕ) → length xs ≤ limit → json_hex limit xs ≡ json_digits xs ++ 125 ∷ []
unfolding json_hex
uncut_hex limit xs le = ap (λ (b : Bool). hex_up_to b limit xs) (le-leb (length xs) limit le)

hexes_one : (xs ys : List ℕ) → AreBytes xs → AreBytes ys → json_digits xs ++ 125 ∷ [] ≡ json_digits ys ++ 125 ∷ [] → xs ≡ ys
hexes_one xs ys a b e =
    let inner : json_digits xs ≡ json_digits ys = append_cancel_right (json_digits xs) (json_digits ys) (125 ∷ []) e in
    let left : codes "{\"hex\":\"" ++ flat_map hex_byte xs ≡ codes "{\"hex\":\"" ++ flat_map hex_byte ys = append_cancel_right (codes "{\"hex\":\"" ++ flat_map hex_byte xs) (codes "{\"hex\":\"" ++ flat_map hex_byte ys) (34 ∷ []) inner in
    digits_all xs ys a b (append_cancel_left (codes "{\"hex\":\"") (flat_map hex_byte xs) (flat_map hex_byte ys) left)

json_by : (p q : Bool) (limit : ℕ) (xs ys : List ℕ) → is_text xs ≡ p → is_text ys ≡ q → AreBytes xs → AreBytes ys → length xs ≤ limit → length ys ≤ limit
    → (if p then json_text limit xs else json_hex limit xs) ≡ (if q then json_text limit ys else json_hex limit ys) → xs ≡ ys
json_by true true limit xs ys t u a b x y e = (string_one xs ys [] [] (text_utf8 xs t) (text_utf8 ys u) (ap (λ l. l ++ []) (sym (uncut_text limit xs x) ∙ e ∙ uncut_text limit ys y))).0
json_by true false limit xs ys t u a b x y e = let n : 34 ≡ 123 = ap (λ l. get_or l 0 0) (sym (uncut_text limit xs x) ∙ e ∙ uncut_hex limit ys y) in absurd (omega (arith, n))
json_by false true limit xs ys t u a b x y e = let n : 123 ≡ 34 = ap (λ l. get_or l 0 0) (sym (uncut_hex limit xs x) ∙ e ∙ uncut_text limit ys y) in absurd (omega (arith, n))
json_by false false limit xs ys t u a b x y e = hexes_one xs ys a b (sym (uncut_hex limit xs x) ∙ e ∙ uncut_hex limit ys y)

json_values : (limit : ℕ) (xs ys : List ℕ) → AreBytes xs → AreBytes ys → length xs ≤ limit → length ys ≤ limit → json_value limit xs ≡ json_value limit ys → xs ≡ ys
unfolding json_value
json_values limit xs ys a b x y e = json_by (is_text xs) (is_text ys) limit xs ys refl refl a b x y e

values_by : (form : Form) (limit : ℕ) (line xs ys : List ℕ) → AreBytes xs → AreBytes ys → length xs ≤ limit → length ys ≤ limit → added_by form limit line (Value (Some xs)) ≡ added_by form limit line (Value (Some ys)) → xs ≡ ys
values_by Columns limit line xs ys a b x y e = short_values limit xs ys a b x y (ap (drop 1) e)
values_by Json limit line xs ys a b x y e = json_values limit xs ys a b x y (append_cancel_left (comma line) (json_value limit xs) (json_value limit ys) e)

pub short_parts : (style : Style) (line xs ys : List ℕ) → AreBytes xs → AreBytes ys → length xs ≤ style.limit → length ys ≤ style.limit → added style line (Value (Some xs)) ≡ added style line (Value (Some ys)) → xs ≡ ys
short_parts style line xs ys a b x y e = values_by style.form style.limit line xs ys a b x y e

null_by : (text short : Bool) (limit : ℕ) (xs : List ℕ) → (if text then text_up_to short limit xs else hex_up_to short limit xs) ≡ codes "null" → ⊥
null_by true true limit xs e = let n : 34 ≡ 110 = ap (λ l. get_or l 0 0) e in absurd (omega (arith, n))
null_by true false limit xs e = let n : 123 ≡ 110 = ap (λ l. get_or l 0 0) e in absurd (omega (arith, n))
null_by false true limit xs e = let n : 123 ≡ 110 = ap (λ l. get_or l 0 0) e in absurd (omega (arith, n))
null_by false false limit xs e = let n : 123 ≡ 110 = ap (λ l. get_or l 0 0) e in absurd (omega (arith, n))

json_null : (limit : ℕ) (xs : List ℕ) → json_value limit xs ≡ codes "null" → ⊥
unfolding json_value json_text json_hex
json_null limit xs e = null_by (is_text xs) (nat_le (length xs) limit) limit xs e

nulls_by : (form : Form) (limit : ℕ) (line xs : List ℕ) → added_by form limit line (Value (Some xs)) ≡ added_by form limit line (Value None) → ⊥
nulls_by Columns limit line xs e = never_shown_null limit xs (ap (drop 1) e)
nulls_by Json limit line xs e = json_null limit xs (append_cancel_left (comma line) (json_value limit xs) (codes "null") e)

pub never_added_null : (style : Style) (line xs : List ℕ) → added style line (Value (Some xs)) ≡ added style line (Value None) → ⊥
never_added_null style line xs e = nulls_by style.form style.limit line xs e
