-- Quoting loses nothing.
use Rattle.pgtool_line.proofs.Common.{◌≡◌, ◌≢◌, ◌⊎◌, ℕ, suc, ◌+◌, ◌<◌, ◌≤◌, Bool, true, false, List, [], ◌∷◌, ◌++◌, length, take, drop, get_or, Some, None, refl, sym, ap, subst, ◌∙◌, arith, inl, inr, append_assoc, ◌/◌, ◌%◌, ◌||◌, nat_le, ◌==◌, if◌then◌else◌, codes, decimal, encode_utf8, flat_map, AllByRecursion, chars, encode_utf8_all, IsUtf8, utf8_valid_len, eqb-true, eqb-false, leb-true, leb-false, le-leb, append-nil, flat_map-cons, encode_ascii, encodes-chars, inside_one, digits, hex_digit, hex_byte, hex_escape, is_mark, is_printable, is_text, is_visible, escaped_byte, escaped_char, escaped, quoted, unprinted, value, up_to, Form, Columns, Value, shown}
use Rattle.std.proofs.Math.ListN.{get_or-append}
use Rattle.std.proofs.lemmas.List.{take-append-drop}
use Rattle.pgtool_line.proofs.Escapes.{front_utf8}

-- ---- hex digits

abbrev Digit : ℕ → ℕ → Type 0
Digit n d = ((n ≤ 9) × (d ≡ 48 + n)) ⊎ ((9 < n) × (d ≡ 87 + n))

digit_by : (n : ℕ) (low : Bool) → nat_le n 9 ≡ low → Digit n (if low then 48 + n else 87 + n)
digit_by n true e = inl (leb-true n 9 e, refl)
digit_by n false e = inr (leb-false n 9 e, refl)

digit_of : (n : ℕ) → Digit n (hex_digit n)
digit_of n = digit_by n (nat_le n 9) refl

digits_one : (m n d : ℕ) → Digit m d → Digit n d → m ≡ n
digits_one m n d (inl p) (inl q) = omega (arith, p.1, q.1)
digits_one m n d (inl p) (inr q) = omega (arith, p.0, p.1, q.0, q.1)
digits_one m n d (inr p) (inl q) = omega (arith, p.0, p.1, q.0, q.1)
digits_one m n d (inr p) (inr q) = omega (arith, p.1, q.1)

one_digit : (m n : ℕ) → hex_digit m ≡ hex_digit n → m ≡ n
one_digit m n e = digits_one m n (hex_digit n) (subst (Digit m) e (digit_of m)) (digit_of n)

halves : (b c : ℕ) → b < 256 → c < 256 → b / 16 % 16 ≡ c / 16 % 16 → b % 16 ≡ c % 16 → b ≡ c
halves b c x y high low = omega (arith, x, y, high, low)

pub hex_one : (b c : ℕ) (r s : List ℕ) → b < 256 → c < 256 → hex_byte b ++ r ≡ hex_byte c ++ s → (b ≡ c) × (r ≡ s)
hex_one b c r s x y e = (
  halves b c x y (one_digit _ _ (ap (λ l. get_or l 0 0) e)) (one_digit _ _ (ap (λ l. get_or l 1 0) e)),
  ap (drop 2) e,
)

-- ---- bytes

-- how a byte is escaped
abbrev pub Mark : ℕ → Type 0
Mark b = (b ≡ 34) ⊎ (b ≡ 92)

abbrev Escape : ℕ → List ℕ → Type 0
Escape b e = (Mark b × (e ≡ 92 ∷ b ∷ [])) ⊎ ((b ≢ 34) × (b ≢ 92) × (e ≡ b ∷ [])) ⊎ (e ≡ 92 ∷ 120 ∷ hex_byte b)

pub mark_by : (b : ℕ) (x y : Bool) → (b == 34) ≡ x → (b == 92) ≡ y → (x || y) ≡ true → Mark b
mark_by b true y e f h = inl (eqb-true b 34 e)
mark_by b false true e f h = inr (eqb-true b 92 f)
mark_by b false false e f h = absurd cc

pub unmarked_by : (b : ℕ) (x y : Bool) → (b == 34) ≡ x → (b == 92) ≡ y → (x || y) ≡ false → (b ≢ 34) × (b ≢ 92)
unmarked_by b true y e f h = absurd cc
unmarked_by b false true e f h = absurd cc
unmarked_by b false false e f h = (eqb-false b 34 e, eqb-false b 92 f)

escape_by : (b : ℕ) (m p : Bool) → is_mark b ≡ m → Escape b (if m then 92 ∷ b ∷ [] else if p then b ∷ [] else hex_escape Columns b)
escape_by b true p e = inl (mark_by b (b == 34) (b == 92) refl refl e, refl)
escape_by b false true e = let none = unmarked_by b (b == 34) (b == 92) refl refl e in inr (inl (none.0, none.1, refl))
escape_by b false false e = inr (inr refl)

escape_of : (b : ℕ) → Escape b (escaped_byte Columns b)
escape_of b = escape_by b (is_mark b) (is_visible b) refl

pub low_mark : (b : ℕ) → Mark b → b < 128
low_mark b (inl e) = omega (arith, e)
low_mark b (inr e) = omega (arith, e)

never_mark : (b : ℕ) → Mark b → b ≡ 120 → ⊥
never_mark b (inl e) h = absurd (omega (arith, e, h))
never_mark b (inr e) h = absurd (omega (arith, e, h))

abbrev One : ℕ → ℕ → List ℕ → List ℕ → Type 0
One b c r s = (b ≡ c) × (r ≡ s)

escapes_one : (b c : ℕ) (e f r s : List ℕ) → b < 256 → c < 256 → Escape b e → Escape c f → e ++ r ≡ f ++ s → One b c r s
escapes_one b c e f r s x y (inl p) (inl q) h =
    let k : 92 ∷ b ∷ r ≡ 92 ∷ c ∷ s = ap (λ l. l ++ r) (sym p.1) ∙ h ∙ ap (λ l. l ++ s) q.1 in
    (ap (λ l. get_or l 1 0) k, ap (drop 2) k)
escapes_one b c e f r s x y (inl p) (inr (inl q)) h =
    let k : 92 ∷ b ∷ r ≡ c ∷ s = ap (λ l. l ++ r) (sym p.1) ∙ h ∙ ap (λ l. l ++ s) q.2 in
    absurd (q.1 (sym (ap (λ l. get_or l 0 0) k)))
escapes_one b c e f r s x y (inl p) (inr (inr q)) h =
    let k : 92 ∷ b ∷ r ≡ 92 ∷ 120 ∷ (hex_byte c ++ s) = ap (λ l. l ++ r) (sym p.1) ∙ h ∙ ap (λ l. l ++ s) q in
    absurd (never_mark b p.0 (ap (λ l. get_or l 1 0) k))
escapes_one b c e f r s x y (inr (inl p)) (inl q) h =
    let k : b ∷ r ≡ 92 ∷ c ∷ s = ap (λ l. l ++ r) (sym p.2) ∙ h ∙ ap (λ l. l ++ s) q.1 in
    absurd (p.1 (ap (λ l. get_or l 0 0) k))
escapes_one b c e f r s x y (inr (inl p)) (inr (inl q)) h =
    let k : b ∷ r ≡ c ∷ s = ap (λ l. l ++ r) (sym p.2) ∙ h ∙ ap (λ l. l ++ s) q.2 in
    (ap (λ l. get_or l 0 0) k, ap (drop 1) k)
escapes_one b c e f r s x y (inr (inl p)) (inr (inr q)) h =
    let k : b ∷ r ≡ 92 ∷ 120 ∷ (hex_byte c ++ s) = ap (λ l. l ++ r) (sym p.2) ∙ h ∙ ap (λ l. l ++ s) q in
    absurd (p.1 (ap (λ l. get_or l 0 0) k))
escapes_one b c e f r s x y (inr (inr p)) (inl q) h =
    let k : 92 ∷ 120 ∷ (hex_byte b ++ r) ≡ 92 ∷ c ∷ s = ap (λ l. l ++ r) (sym p) ∙ h ∙ ap (λ l. l ++ s) q.1 in
    absurd (never_mark c q.0 (sym (ap (λ l. get_or l 1 0) k)))
escapes_one b c e f r s x y (inr (inr p)) (inr (inl q)) h =
    let k : 92 ∷ 120 ∷ (hex_byte b ++ r) ≡ c ∷ s = ap (λ l. l ++ r) (sym p) ∙ h ∙ ap (λ l. l ++ s) q.2 in
    absurd (q.1 (sym (ap (λ l. get_or l 0 0) k)))
escapes_one b c e f r s x y (inr (inr p)) (inr (inr q)) h =
    let k : 92 ∷ 120 ∷ (hex_byte b ++ r) ≡ 92 ∷ 120 ∷ (hex_byte c ++ s) = ap (λ l. l ++ r) (sym p) ∙ h ∙ ap (λ l. l ++ s) q in
    hex_one b c r s x y (ap (drop 2) k)

-- no byte is escaped by what begins with a quote
escape_begins : (b : ℕ) (e r s : List ℕ) → Escape b e → e ++ r ≡ 34 ∷ s → ⊥
escape_begins b e r s (inl p) h = let k : 92 ∷ b ∷ r ≡ 34 ∷ s = ap (λ l. l ++ r) (sym p.1) ∙ h in let n : 92 ≡ 34 = ap (λ l. get_or l 0 0) k in absurd (omega (arith, n))
escape_begins b e r s (inr (inl p)) h = let k : b ∷ r ≡ 34 ∷ s = ap (λ l. l ++ r) (sym p.2) ∙ h in absurd (p.0 (ap (λ l. get_or l 0 0) k))
escape_begins b e r s (inr (inr p)) h = let k : 92 ∷ 120 ∷ (hex_byte b ++ r) ≡ 34 ∷ s = ap (λ l. l ++ r) (sym p) ∙ h in let n : 92 ≡ 34 = ap (λ l. get_or l 0 0) k in absurd (omega (arith, n))

-- ---- texts

abbrev pub AreBytes : List ℕ → Type 0
AreBytes bytes = AllByRecursion (λ b. b < 256) bytes

-- The bytes, each escaped in one of these ways. No bytes but these come to what is shown so.
data Spells : List ℕ → List ℕ → Type 0 where
  NoBytes : Spells [] []
  OneByte : {bs out : List ℕ} (b : ℕ) (e : List ℕ) → Escape b e → Spells bs out → Spells (b ∷ bs) (e ++ out)

spells_join : {xs a : List ℕ} {ys b : List ℕ} → Spells xs a → Spells ys b → Spells (xs ++ ys) (a ++ b)
spells_join NoBytes t = t
spells_join {ys = ys} {b = b} (OneByte {bs} {out} x e way s) t = subst (Spells (x ∷ (bs ++ ys))) (sym (append_assoc e out b)) (OneByte x e way (spells_join s t))

-- bytes, each by itself
spells_each : (f : ℕ → List ℕ) → ((b : ℕ) → Escape b (f b)) → (bs : List ℕ) → Spells bs (flat_map f bs)
spells_each f all [] = NoBytes
spells_each f all (b ∷ bs) = subst (Spells (b ∷ bs)) (sym (flat_map-cons f b bs)) (OneByte b (f b) (all b) (spells_each f all bs))

-- bytes that stand as they are
spells_same : (bs : List ℕ) → AllByRecursion (λ b. (b ≢ 34) × (b ≢ 92)) bs → Spells bs bs
spells_same [] all = NoBytes
spells_same (b ∷ bs) all = OneByte b (b ∷ []) (inr (inl (all.0.0, all.0.1, refl))) (spells_same bs all.1)

-- bytes of which none is a mark
pub unmarked_all : (bs : List ℕ) → ((k : ℕ) → k < length bs → (get_or bs k 0 ≢ 34) × (get_or bs k 0 ≢ 92)) → AllByRecursion (λ b. (b ≢ 34) × (b ≢ 92)) bs
unmarked_all [] h = tt
unmarked_all (b ∷ bs) h = (h 0 (omega arith), unmarked_all bs (λ k lt. h (suc k) (omega (arith, lt))))

-- a character of which a byte is one of ASCII is that byte
pub never_inside : (c k m : ℕ) → m < 128 → k < length (encode_utf8 c) → c ≢ m → get_or (encode_utf8 c) k 0 ≢ m
never_inside c k m low lt other e = other (inside_one c [] (encode_utf8 c) k (sym (append-nil (encode_utf8 c))) lt (omega (arith, e, low)) ∙ e)

spells_char_by : (c : ℕ) (m p : Bool) → is_mark c ≡ m → Spells (encode_utf8 c) (if m then 92 ∷ c ∷ [] else if p then encode_utf8 c else unprinted Columns c)
spells_char_by c true p e =
    let mark = mark_by c (c == 34) (c == 92) refl refl e in
    subst (λ l. Spells l (92 ∷ c ∷ [])) (sym (encode_ascii c (low_mark c mark))) (OneByte c (92 ∷ c ∷ []) (inl (mark, refl)) NoBytes)
spells_char_by c false true e =
    let none = unmarked_by c (c == 34) (c == 92) refl refl e in
    spells_same (encode_utf8 c) (unmarked_all (encode_utf8 c) (λ k lt. (never_inside c k 34 (omega arith) lt none.0, never_inside c k 92 (omega arith) lt none.1)))
spells_char_by c false false e = spells_each (hex_escape Columns) (λ b. inr (inr refl)) (encode_utf8 c)

spells_char : (c : ℕ) → Spells (encode_utf8 c) (escaped_char Columns c)
spells_char c = spells_char_by c (is_mark c) (is_printable c) refl

spells_chars : (cs : List ℕ) → Spells (encode_utf8_all cs) (flat_map (escaped_char Columns) cs)
spells_chars [] = NoBytes
spells_chars (c ∷ cs) = subst (Spells (encode_utf8 c ++ encode_utf8_all cs)) (sym (flat_map-cons (escaped_char Columns) c cs)) (spells_join (spells_char c) (spells_chars cs))

spells_text : (bytes : List ℕ) → IsUtf8 bytes → Spells bytes (flat_map (escaped_char Columns) (chars bytes))
spells_text bytes u = subst (λ l. Spells l (flat_map (escaped_char Columns) (chars bytes))) (encodes-chars bytes u) (spells_chars (chars bytes))

-- what is escaped spells the bytes
spells_escaped : (bytes : List ℕ) → Spells bytes (escaped Columns bytes)
unfolding escaped
spells_escaped bytes =
    let n = utf8_valid_len bytes in
    subst (λ l. Spells l (escaped Columns bytes)) (take-append-drop n bytes) (spells_join (spells_text (take n bytes) (front_utf8 bytes)) (spells_each (escaped_byte Columns) escape_of (drop n bytes)))

abbrev pub Same : List ℕ → List ℕ → List ℕ → List ℕ → Type 0
Same xs ys r s = (xs ≡ ys) × (r ≡ s)

-- what spells bytes up to a quote spells no others
spelled_one : {xs ys a b : List ℕ} (r s : List ℕ) → Spells xs a → Spells ys b → AreBytes xs → AreBytes ys → a ++ 34 ∷ r ≡ b ++ 34 ∷ s → Same xs ys r s
spelled_one r s NoBytes NoBytes x y e = (refl, ap (drop 1) e)
spelled_one r s NoBytes (OneByte {bs} {out} c f way t) x y e = absurd (escape_begins c f (out ++ 34 ∷ s) r way (sym (append_assoc f out (34 ∷ s)) ∙ sym e))
spelled_one r s (OneByte {bs} {out} c f way t) NoBytes x y e = absurd (escape_begins c f (out ++ 34 ∷ r) s way (sym (append_assoc f out (34 ∷ r)) ∙ e))
spelled_one r s (OneByte {bs} {out} c f way t) (OneByte {bs = cs} {out = more} d g path u) x y e =
    let first = escapes_one c d f g (out ++ 34 ∷ r) (more ++ 34 ∷ s) x.0 y.0 way path (sym (append_assoc f out (34 ∷ r)) ∙ e ∙ append_assoc g more (34 ∷ s)) in
    let rest = spelled_one r s t u x.1 y.1 first.1 in
    (ap (λ h. h ∷ bs) first.0 ∙ ap (λ l. d ∷ l) rest.0, rest.1)

pub quoted_tail : (form : Form) (xs r : List ℕ) → quoted form xs ++ r ≡ 34 ∷ (escaped form xs ++ 34 ∷ r)
quoted_tail form xs r = ap (λ l. 34 ∷ l) (append_assoc (escaped form xs) (34 ∷ []) r)

-- one text is quoted so, whatever follows it
pub quoted_one : (xs ys r s : List ℕ) → AreBytes xs → AreBytes ys → quoted Columns xs ++ r ≡ quoted Columns ys ++ s → Same xs ys r s
quoted_one xs ys r s a b e = spelled_one r s (spells_escaped xs) (spells_escaped ys) a b (ap (drop 1) (sym (quoted_tail Columns xs r) ∙ e ∙ quoted_tail Columns ys s))

nil_cons : (x : ℕ) (xs : List ℕ) → [] ≡ x ∷ xs → ⊥
nil_cons x xs e = absurd cc

pub digits_all : (xs ys : List ℕ) → AreBytes xs → AreBytes ys → flat_map hex_byte xs ≡ flat_map hex_byte ys → xs ≡ ys
digits_all [] [] a b e = refl
digits_all [] (y ∷ ys) a b e = absurd (nil_cons _ _ (e ∙ flat_map-cons hex_byte y ys))
digits_all (x ∷ xs) [] a b e = absurd (nil_cons _ _ (sym e ∙ flat_map-cons hex_byte x xs))
digits_all (x ∷ xs) (y ∷ ys) a b e =
    let first = hex_one x y (flat_map hex_byte xs) (flat_map hex_byte ys) a.0 b.0 (sym (flat_map-cons hex_byte x xs) ∙ e ∙ flat_map-cons hex_byte y ys) in
    ap (λ h. h ∷ xs) first.0 ∙ ap (λ l. y ∷ l) (digits_all xs ys a.1 b.1 first.1)

-- ---- values

-- up to a limit
abbrev pub upto : Bool → ℕ → (List ℕ → List ℕ) → List ℕ → List ℕ
upto short limit show bytes = if short then show bytes else show (take limit bytes) ++ codes " of " ++ decimal (length bytes) ++ codes " bytes"

uncut : (limit : ℕ) (show : List ℕ → List ℕ) (xs : List ℕ) → length xs ≤ limit → up_to limit show xs ≡ show xs
unfolding up_to
uncut limit show xs le = ap (λ (b : Bool). upto b limit show xs) (le-leb (length xs) limit le)

value_by : (p q : Bool) (limit : ℕ) (xs ys : List ℕ) → AreBytes xs → AreBytes ys → length xs ≤ limit → length ys ≤ limit
    → (if p then up_to limit (quoted Columns) xs else up_to limit digits xs) ≡ (if q then up_to limit (quoted Columns) ys else up_to limit digits ys) → xs ≡ ys
value_by true true limit xs ys a b x y e = (quoted_one xs ys [] [] a b (ap (λ l. l ++ []) (sym (uncut limit (quoted Columns) xs x) ∙ e ∙ uncut limit (quoted Columns) ys y))).0
value_by true false limit xs ys a b x y e = let n : 34 ≡ 92 = ap (λ l. get_or l 0 0) (sym (uncut limit (quoted Columns) xs x) ∙ e ∙ uncut limit digits ys y) in absurd (omega (arith, n))
value_by false true limit xs ys a b x y e = let n : 92 ≡ 34 = ap (λ l. get_or l 0 0) (sym (uncut limit digits xs x) ∙ e ∙ uncut limit (quoted Columns) ys y) in absurd (omega (arith, n))
value_by false false limit xs ys a b x y e = digits_all xs ys a b (ap (drop 2) (sym (uncut limit digits xs x) ∙ e ∙ uncut limit digits ys y))

pub short_values : (limit : ℕ) (xs ys : List ℕ) → AreBytes xs → AreBytes ys → length xs ≤ limit → length ys ≤ limit → shown limit (Value (Some xs)) ≡ shown limit (Value (Some ys)) → xs ≡ ys
unfolding value
short_values limit xs ys a b x y e = value_by (is_text xs) (is_text ys) limit xs ys a b x y e

-- the first character of what is shown
begins : (short : Bool) (limit d : ℕ) (show : List ℕ → List ℕ) (xs : List ℕ) → ((bytes : List ℕ) → get_or (show bytes) 0 0 ≡ d) → ((bytes : List ℕ) → 0 < length (show bytes)) → get_or (upto short limit show xs) 0 0 ≡ d
begins true limit d show xs all some = all xs
begins false limit d show xs all some =
    ap (λ l. get_or l 0 0) (append_assoc (show (take limit xs) ++ codes " of ") (decimal (length xs)) (codes " bytes") ∙ append_assoc (show (take limit xs)) (codes " of ") (decimal (length xs) ++ codes " bytes"))
    ∙ get_or-append (show (take limit xs)) (codes " of " ++ (decimal (length xs) ++ codes " bytes")) 0 0 (some (take limit xs)) ∙ all (take limit xs)

never_null : (text : Bool) (limit : ℕ) (xs : List ℕ) → (if text then up_to limit (quoted Columns) xs else up_to limit digits xs) ≡ codes "NULL" → ⊥
unfolding up_to
never_null true limit xs e = let n : 34 ≡ 78 = sym (begins (nat_le (length xs) limit) limit 34 (quoted Columns) xs (λ b. refl) (λ b. omega arith)) ∙ ap (λ l. get_or l 0 0) e in absurd (omega (arith, n))
never_null false limit xs e = let n : 92 ≡ 78 = sym (begins (nat_le (length xs) limit) limit 92 digits xs (λ b. refl) (λ b. omega arith)) ∙ ap (λ l. get_or l 0 0) e in absurd (omega (arith, n))

pub never_shown_null : (limit : ℕ) (xs : List ℕ) → shown limit (Value (Some xs)) ≡ shown limit (Value None) → ⊥
unfolding value
never_shown_null limit xs e = never_null (is_text xs) limit xs e
