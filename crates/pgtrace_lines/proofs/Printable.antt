-- A line has printable characters alone, and a newline at its end.
use Rattle.pgtrace_lines.proofs.Common.{◌≡◌, ℕ, zero, suc, ◌+◌, ◌-◌, ◌<◌, ◌≤◌, Bool, true, false, List, [], ◌∷◌, ◌++◌, length, take, drop, Option, Some, None, Result, Ok, Err, ℤ, pos, negsuc, refl, sym, ap, subst, ◌∙◌, arith, inl, inr, slice_get, ◌/◌, ◌%◌, ◌||◌, nat_le, nat_lt, ◌==◌, if◌then◌else◌, codes, decimal, flat_map, list_all, eqb-true, leb-true, le-leb, lt-ltb, and_from, and_parts, append-nil, flat_map-cons, Error, AuthenticationMd5Password, AuthenticationGssContinue, AuthenticationSasl, AuthenticationSaslContinue, AuthenticationSaslFinal, Message, NotificationResponse, CommandComplete, DataRow, ErrorResponse, CopyInResponse, CopyOutResponse, BackendKeyData, NegotiateProtocolVersion, NoticeResponse, Authentication, ParameterStatus, RowDescription, ReadyForQuery, CopyData, ParameterDescription, payload_of, Frame, frame_bytes, Columns, Json, Style, Part, Length, Tag, Name, Refusal, Key, Member, Count, ListBegins, ListEnds, ObjectBegins, ObjectEnds, Word, Number, Lsn, Oid, Text, Value, Binary, Hidden, added, added_by, blanks, closing, closing_by, comma, extended, followed, is_opening, json, json_name, lsn, named, opening, opening_by, right, separator, space, spelt, string, type_name, state_of, TextSpelled, TextRefused, FormatSpelled, FormatRefused, TypeSpelled, TypeRefused, RangeSpelled, RangeRefused, FieldSpelled, FieldRefused, ErrorFieldSpelled, ErrorFieldRefused, IsAscii, IsUtf8, all_scalars, chars, encode_utf8_all, ShowsInner, data_parts, inner_parts, Says, Shows, ShowsCounted, ShowsMarked, ShowsTexts, bare, called, closed, column_parts, field_parts, inner_data, list_of, name_or, number_part, refused, text_part, type_part, value_part, ShowsCopyBoth, ShowsResult, ShowsUnread, CallResult, CopyBoth, Rejected, copy_parts, result_parts, ClientMessage, ClientError, ClientSays, client_called, client_data, client_groups, client_line, grouped, refusal_parts, GoesOn, IsLineOf, LineOf, answer_name, front, client_front, client_tag, Side, Server, Client, is_reported, Beginning, Messages, Replicating, Encrypted}
use Rattle.std.specs.Prelude.{◌^◌}
use lib.Utf8.{scalar as is_scalar}
use Rattle.std.specs.Char.{encode_utf8, IsScalar}
use Rattle.std.specs.Fmt.{digits as numerals, digits_onto, digit_glyph, signed_decimal}
use Rattle.std.proofs.lemmas.Str.{chars-IsAscii, encodes-append, encodes-IsAscii, IsUtf8-from_ascii, scalars-chars}
use Rattle.std.proofs.lemmas.Str.Ascii.{IsAscii-nil, IsAscii-cons}
use Rattle.pgtool_line.specs.declared.style.Form.{Form}
use Rattle.pgtool_line.specs.Quoting.{IsPrinted, broken, digits, hex_digit, hex_byte, hex_escape, is_mark, is_printable, is_text, is_visible, escaped_byte, escaped_char, escaped, json_digits, json_hex, json_text, json_value, long, quoted, unit, units, unprinted, value, up_to}
use Rattle.pgtool_line.proofs.Escapes.{front_utf8}
use Rattle.pgtool_line.specs.Line.{key as keyed, shown}
use Rattle.pgtool_line.specs.Types.{type_of}
use Rattle.std.specs.Str.Lossy.{utf8_valid_len}
use Rattle.pgtool_line.specs.Secret.{secret}

-- ASCII that is printed
abbrev pub Plain : List ℕ → Type 0
Plain text = list_all is_visible text ≡ true

pub plain_join : (xs ys : List ℕ) → Plain xs → Plain ys → Plain (xs ++ ys)
plain_join [] ys a b = b
plain_join (x ∷ xs) ys a b = let parts = and_parts (is_visible x) (list_all is_visible xs) a in and_from (is_visible x) (list_all is_visible (xs ++ ys)) parts.0 (plain_join xs ys parts.1 b)

cons : (x : ℕ) (xs : List ℕ) → is_visible x ≡ true → Plain xs → Plain (x ∷ xs)
cons x xs a b = and_from (is_visible x) (list_all is_visible xs) a b

between : (b : ℕ) → 32 ≤ b → b ≤ 126 → is_visible b ≡ true
between b low high = and_from (nat_le 32 b) (nat_le b 126) (le-leb 32 b low) (le-leb b 126 high)

each : (f : ℕ → List ℕ) → ((b : ℕ) → Plain (f b)) → (xs : List ℕ) → Plain (flat_map f xs)
each f all [] = refl
each f all (x ∷ xs) = subst Plain (sym (flat_map-cons f x xs)) (plain_join (f x) (flat_map f xs) (all x) (each f all xs))

-- ---- numbers

digit_by : (n : ℕ) (low : Bool) → nat_le n 9 ≡ low → n < 16 → is_visible (if low then 48 + n else 87 + n) ≡ true
digit_by n true e h = between (48 + n) (omega arith) (omega (arith, leb-true n 9 e))
digit_by n false e h = between (87 + n) (omega arith) (omega (arith, h))

digit : (n : ℕ) → n < 16 → is_visible (hex_digit n) ≡ true
digit n h = digit_by n (nat_le n 9) refl h

hex : (b : ℕ) → Plain (hex_byte b)
hex b =
    let high : b / 16 % 16 < 16 = omega arith in
    let low : b % 16 < 16 = omega arith in
    cons (hex_digit (b / 16 % 16)) (hex_digit (b % 16) ∷ []) (digit (b / 16 % 16) high) (cons (hex_digit (b % 16)) [] (digit (b % 16) low) refl)

escape : (form : Form) (b : ℕ) → Plain (hex_escape form b)
escape Columns b = cons 92 (120 ∷ hex_byte b) refl (cons 120 (hex_byte b) refl (hex b))
escape Json b = cons 92 (117 ∷ 48 ∷ 48 ∷ hex_byte b) refl (cons 117 (48 ∷ 48 ∷ hex_byte b) refl (cons 48 (48 ∷ hex_byte b) refl (cons 48 (hex_byte b) refl (hex b))))

one_unit : (u : ℕ) → Plain (unit u)
one_unit u =
    let digits : List ℕ = hex_byte (u / 256) ++ hex_byte (u % 256) in
    cons 92 (117 ∷ digits) refl (cons 117 digits refl (plain_join (hex_byte (u / 256)) (hex_byte (u % 256)) (hex (u / 256)) (hex (u % 256))))

glyph_by : (d : ℕ) (low : Bool) → d < 10 → is_visible (if low then 48 + d else 87 + d) ≡ true
glyph_by d true h = between (48 + d) (omega arith) (omega (arith, h))
glyph_by d false h = between (87 + d) (omega arith) (omega (arith, h))

glyph : (d : ℕ) → d < 10 → is_visible (digit_glyph false d) ≡ true
glyph d h = glyph_by d (nat_lt d 10) h

plain_either : (b : Bool) (xs ys : List ℕ) → Plain xs → Plain ys → Plain (if b then xs else ys)
plain_either true xs ys a c = a
plain_either false xs ys a c = c

onto : (k n : ℕ) (acc : List ℕ) → Plain acc → Plain (digits_onto k 10 false n acc)
onto zero n acc a = a
onto (suc k) n acc a =
    let small : n % 10 < 10 = omega arith in
    let here : Plain (digit_glyph false (n % 10) ∷ acc) = cons (digit_glyph false (n % 10)) acc (glyph (n % 10) small) a in
    plain_either (n / 10 == 0) _ _ here (onto k (n / 10) _ here)

pub plain_number : (n : ℕ) → Plain (decimal n)
unfolding numerals
plain_number n = onto 64 n [] refl

upper_by : (d : ℕ) (low : Bool) → d < 16 → is_visible (if low then 48 + d else 55 + d) ≡ true
upper_by d true h = between (48 + d) (omega arith) (omega (arith, h))
upper_by d false h = between (55 + d) (omega arith) (omega (arith, h))

upper : (d : ℕ) → d < 16 → is_visible (digit_glyph true d) ≡ true
upper d h = upper_by d (nat_lt d 10) h

upper_onto : (k n : ℕ) (acc : List ℕ) → Plain acc → Plain (digits_onto k 16 true n acc)
upper_onto zero n acc a = a
upper_onto (suc k) n acc a =
    let small : n % 16 < 16 = omega arith in
    let here : Plain (digit_glyph true (n % 16) ∷ acc) = cons (digit_glyph true (n % 16)) acc (upper (n % 16) small) a in
    plain_either (n / 16 == 0) _ _ here (upper_onto k (n / 16) _ here)

plain_hex : (n : ℕ) → Plain (numerals 16 true n)
unfolding numerals
plain_hex n = upper_onto 64 n [] refl

plain_lsn : (n : ℕ) → Plain (lsn n)
unfolding lsn
plain_lsn n =
    let low = numerals 16 true (n % 2 ^ 32) in
    plain_join (numerals 16 true (n / 2 ^ 32)) (47 ∷ low) (plain_hex (n / 2 ^ 32)) (cons 47 low refl (plain_hex (n % 2 ^ 32)))

plain_signed : (z : ℤ) → Plain (signed_decimal z)
plain_signed (pos n) = plain_number n
plain_signed (negsuc n) = cons 45 (decimal (suc n)) refl (plain_number (suc n))

by_units : (c : ℕ) → Plain (units c)
by_units c =
    let high : ℕ = 0xD800 + (c - 0x10000) / 1024 in
    let low : ℕ = 0xDC00 + (c - 0x10000) % 1024 in
    plain_either (nat_lt c 0x10000) (unit c) (unit high ++ unit low) (one_unit c) (plain_join (unit high) (unit low) (one_unit high) (one_unit low))

by_digits : (form : Form) (c : ℕ) → Plain (unprinted form c)
by_digits Columns c = each (hex_escape Columns) (escape Columns) (encode_utf8 c)
by_digits Json c = by_units c

-- ---- characters

low : (b : ℕ) → is_visible b ≡ true → b < 128
low b e = let parts = and_parts (nat_le 32 b) (nat_le b 126) e in omega (arith, leb-true b 126 parts.1)

ascii : (xs : List ℕ) → Plain xs → IsAscii xs
ascii [] a = IsAscii-nil
ascii (x ∷ xs) a = let parts = and_parts (is_visible x) (list_all is_visible xs) a in IsAscii-cons x xs (low x parts.0) (ascii xs parts.1)

printed_by : (c : ℕ) (below v h : Bool) → below ≡ true → v ≡ true → (if below then v else h) ≡ true
printed_by c true v h e f = f
printed_by c false v h e f = absurd cc

printed : (c : ℕ) → is_visible c ≡ true → is_printable c ≡ true
printed c e = printed_by c (nat_lt c 128) (is_visible c) _ (lt-ltb c 128 (low c e)) e

all_printed : (xs : List ℕ) → Plain xs → list_all is_printable xs ≡ true
all_printed [] a = refl
all_printed (x ∷ xs) a = let parts = and_parts (is_visible x) (list_all is_visible xs) a in and_from (is_printable x) (list_all is_printable xs) (printed x parts.0) (all_printed xs parts.1)

pub plain : (xs : List ℕ) → Plain xs → IsPrinted xs
plain xs a =
    let same = chars-IsAscii xs (ascii xs a) in
    let utf8 = IsUtf8-from_ascii xs (ascii xs a) in
    record { characters = xs; scalars = subst (λ l. all_scalars l ≡ true) same (scalars-chars xs utf8); spelled = sym (encodes-IsAscii xs (ascii xs a)); printed = all_printed xs a }

list_join : (f : ℕ → Bool) (xs ys : List ℕ) → list_all f xs ≡ true → list_all f ys ≡ true → list_all f (xs ++ ys) ≡ true
list_join f [] ys a b = b
list_join f (x ∷ xs) ys a b = let parts = and_parts (f x) (list_all f xs) a in and_from (f x) (list_all f (xs ++ ys)) parts.0 (list_join f xs ys parts.1 b)

scalars_join : (xs ys : List ℕ) → all_scalars xs ≡ true → all_scalars ys ≡ true → all_scalars (xs ++ ys) ≡ true
scalars_join [] ys a b = b
scalars_join (x ∷ xs) ys a b = let parts = and_parts (is_scalar x) (all_scalars xs) a in and_from (is_scalar x) (all_scalars (xs ++ ys)) parts.0 (scalars_join xs ys parts.1 b)

pub join : (xs ys : List ℕ) → IsPrinted xs → IsPrinted ys → IsPrinted (xs ++ ys)
join xs ys a b = record {
  characters = a.characters ++ b.characters;
  scalars = scalars_join a.characters b.characters a.scalars b.scalars;
  spelled = ap (λ l. l ++ ys) a.spelled ∙ ap (λ l. encode_utf8_all a.characters ++ l) b.spelled ∙ sym (encodes-append a.characters b.characters);
  printed = list_join is_printable a.characters b.characters a.printed b.printed;
}

number : (n : ℕ) → IsPrinted (decimal n)
number n = plain (decimal n) (plain_number n)

either : (b : Bool) (xs ys : List ℕ) → IsPrinted xs → IsPrinted ys → IsPrinted (if b then xs else ys)
either true xs ys a c = a
either false xs ys a c = c

-- ---- bytes and texts

mark_by : (b : ℕ) (x y : Bool) → (b == 34) ≡ x → (b == 92) ≡ y → (x || y) ≡ true → is_visible b ≡ true
mark_by b true y e f h = between b (omega (arith, eqb-true b 34 e)) (omega (arith, eqb-true b 34 e))
mark_by b false true e f h = between b (omega (arith, eqb-true b 92 f)) (omega (arith, eqb-true b 92 f))
mark_by b false false e f h = absurd cc

mark_printed : (b : ℕ) → is_mark b ≡ true → Plain (92 ∷ b ∷ [])
mark_printed b e = cons 92 (b ∷ []) refl (cons b [] (mark_by b (b == 34) (b == 92) refl refl e) refl)

byte_by : (form : Form) (b : ℕ) (m p : Bool) → is_mark b ≡ m → is_visible b ≡ p → Plain (if m then 92 ∷ b ∷ [] else if p then b ∷ [] else hex_escape form b)
byte_by form b true p e f = mark_printed b e
byte_by form b false true e f = cons b [] f refl
byte_by form b false false e f = escape form b

byte : (form : Form) (b : ℕ) → Plain (escaped_byte form b)
byte form b = byte_by form b (is_mark b) (is_visible b) refl refl

char_by : (form : Form) (c : ℕ) (m p : Bool) → IsScalar c → is_mark c ≡ m → is_printable c ≡ p → IsPrinted (if m then 92 ∷ c ∷ [] else if p then encode_utf8 c else unprinted form c)
char_by form c true p s e f = plain (92 ∷ c ∷ []) (mark_printed c e)
char_by form c false true s e f = record { characters = c ∷ []; scalars = and_from (is_scalar c) true s refl; spelled = sym (append-nil (encode_utf8 c)); printed = and_from (is_printable c) true f refl }
char_by form c false false s e f = plain (unprinted form c) (by_digits form c)

each_char : (form : Form) (cs : List ℕ) → all_scalars cs ≡ true → IsPrinted (flat_map (escaped_char form) cs)
each_char form [] s = plain [] refl
each_char form (c ∷ cs) s =
    let parts = and_parts (is_scalar c) (all_scalars cs) s in
    subst IsPrinted (sym (flat_map-cons (escaped_char form) c cs)) (join (escaped_char form c) (flat_map (escaped_char form) cs) (char_by form c (is_mark c) (is_printable c) parts.0 refl refl) (each_char form cs parts.1))

no_character : (form : Form) (bytes : List ℕ) → Plain (broken form bytes)
no_character Columns bytes = each (escaped_byte Columns) (byte Columns) bytes
no_character Json bytes = refl

escapes : (form : Form) (bytes : List ℕ) → IsPrinted (escaped form bytes)
unfolding escaped
escapes form bytes =
    let n = utf8_valid_len bytes in
    join (flat_map (escaped_char form) (chars (take n bytes))) (broken form (drop n bytes))
    (each_char form (chars (take n bytes)) (scalars-chars (take n bytes) (front_utf8 bytes))) (plain (broken form (drop n bytes)) (no_character form (drop n bytes)))

pub quote : (form : Form) (bytes : List ℕ) → IsPrinted (quoted form bytes)
quote form bytes = join (34 ∷ []) (escaped form bytes ++ 34 ∷ []) (plain (34 ∷ []) refl) (join (escaped form bytes) (34 ∷ []) (escapes form bytes) (plain (34 ∷ []) refl))

hexes : (bytes : List ℕ) → IsPrinted (digits bytes)
hexes bytes = plain (digits bytes) (cons 92 (120 ∷ flat_map hex_byte bytes) refl (cons 120 (flat_map hex_byte bytes) refl (each hex_byte hex bytes)))

pub cut : (show : List ℕ → List ℕ) → ((bytes : List ℕ) → IsPrinted (show bytes)) → (limit : ℕ) (bytes : List ℕ) → IsPrinted (up_to limit show bytes)
unfolding up_to
cut show all limit bytes = either (nat_le (length bytes) limit) (show bytes) (show (take limit bytes) ++ codes " of " ++ decimal (length bytes) ++ codes " bytes") (all bytes)
    (join (show (take limit bytes) ++ codes " of " ++ decimal (length bytes)) (codes " bytes")
    (join (show (take limit bytes) ++ codes " of ") (decimal (length bytes)) (join (show (take limit bytes)) (codes " of ") (all (take limit bytes)) (plain (codes " of ") refl)) (number (length bytes))) (plain (codes " bytes") refl))

val : (limit : ℕ) (bytes : List ℕ) → IsPrinted (value limit bytes)
unfolding value
val limit bytes = either (is_text bytes) (up_to limit (quoted Columns) bytes) (up_to limit digits bytes) (cut (quoted Columns) (quote Columns) limit bytes) (cut digits hexes limit bytes)

-- ---- in JSON

-- between two texts
around : (before xs behind : List ℕ) → Plain before → Plain behind → IsPrinted xs → IsPrinted (before ++ xs ++ behind)
around before xs behind a b p = join (before ++ xs) behind (join before xs (plain before a) p) (plain behind b)

how_long : (n : ℕ) → IsPrinted (long n)
how_long n = around (codes ",\"bytes\":") (decimal n) (codes "}") refl refl (number n)

json_texts : (limit : ℕ) (bytes : List ℕ) → IsPrinted (json_text limit bytes)
unfolding json_text
json_texts limit bytes =
    either (nat_le (length bytes) limit) (quoted Json bytes) (codes "{\"text\":" ++ quoted Json (take limit bytes) ++ long (length bytes)) (quote Json bytes)
    (join (codes "{\"text\":" ++ quoted Json (take limit bytes)) (long (length bytes)) (join (codes "{\"text\":") (quoted Json (take limit bytes)) (plain (codes "{\"text\":") refl) (quote Json (take limit bytes))) (how_long (length bytes)))

json_hexes : (bytes : List ℕ) → IsPrinted (json_digits bytes)
json_hexes bytes = around (codes "{\"hex\":\"") (flat_map hex_byte bytes) (34 ∷ []) refl refl (plain (flat_map hex_byte bytes) (each hex_byte hex bytes))

json_digit : (limit : ℕ) (bytes : List ℕ) → IsPrinted (json_hex limit bytes)
unfolding json_hex
json_digit limit bytes =
    either (nat_le (length bytes) limit) (json_digits bytes ++ 125 ∷ []) (json_digits (take limit bytes) ++ long (length bytes))
    (join (json_digits bytes) (125 ∷ []) (json_hexes bytes) (plain (125 ∷ []) refl)) (join (json_digits (take limit bytes)) (long (length bytes)) (json_hexes (take limit bytes)) (how_long (length bytes)))

pub json_val : (limit : ℕ) (bytes : List ℕ) → IsPrinted (json_value limit bytes)
unfolding json_value
json_val limit bytes = either (is_text bytes) (json_text limit bytes) (json_hex limit bytes) (json_texts limit bytes) (json_digit limit bytes)

-- ---- lines

pub blank : (n : ℕ) → Plain (blanks n)
blank zero = refl
blank (suc n) = cons 32 (blanks n) refl (blank n)

at_right : (width n : ℕ) → IsPrinted (right width n)
at_right width n = join (blanks (width - length (decimal n))) (decimal n) (plain (blanks (width - length (decimal n))) (blank (width - length (decimal n)))) (number n)

word_of : (form : Form) (word : List ℕ) → Plain (flat_map (escaped_byte form) word)
word_of form word = each (escaped_byte form) (byte form) word

string_of : (word : List ℕ) → IsPrinted (string word)
string_of word = plain (string word) (cons 34 (flat_map (escaped_byte Json) word ++ 34 ∷ []) refl (plain_join (flat_map (escaped_byte Json) word) (34 ∷ []) (word_of Json word) refl))

named_by : (alone : Bool) (name : List ℕ) → IsPrinted (named alone name)
named_by true name = plain (spelt name) (word_of Columns name)
named_by false name = join (spelt name) (blanks (20 - length name)) (plain (spelt name) (word_of Columns name)) (plain (blanks (20 - length name)) (blank (20 - length name)))

type_by : (name : Option (List ℕ)) → IsPrinted (type_name name)
type_by None = plain [] refl
type_by (Some name) = plain (32 ∷ spelt name) (cons 32 (spelt name) refl (word_of Columns name))

json_type_by : (name : Option (List ℕ)) → IsPrinted (json_name name)
json_type_by None = plain (codes "}") refl
json_type_by (Some name) = around (codes ",\"name\":") (string name) (codes "}") refl refl (string_of name)

part : (limit : ℕ) (p : Part) → IsPrinted (shown limit p)
part limit (Length n) = at_right 8 n
part limit (Tag tag) = plain (escaped_byte Columns tag) (byte Columns tag)
part limit (Name alone name) = named_by alone name
part limit (Refusal n) = join (codes "fault ") (decimal n) (plain (codes "fault ") refl) (number n)
part limit (Key word name) = plain (spelt word) (word_of Columns word)
part limit (Count n) = number n
part limit (Word word) = plain (spelt word) (word_of Columns word)
part limit (Number n) = plain (signed_decimal n) (plain_signed n)
part limit (Lsn n) = plain (lsn n) (plain_lsn n)
part limit (Oid oid) = join (decimal oid) (type_name (type_of oid)) (number oid) (type_by (type_of oid))
part limit (Text bytes) = cut (quoted Columns) (quote Columns) limit bytes
part limit (Value None) = plain (codes "NULL") refl
part limit (Value (Some bytes)) = val limit bytes
part limit (Binary bytes) = cut digits hexes limit bytes
part limit (Hidden n) = around (codes "(") (decimal n) (codes " bytes)") refl refl (number n)
part limit p = plain [] refl

json_part : (limit : ℕ) (p : Part) → IsPrinted (json limit p)
json_part limit (Length n) = join (codes "\"length\":") (decimal n) (plain (codes "\"length\":") refl) (number n)
json_part limit (Tag tag) = join (codes "\"tag\":") (string (tag ∷ [])) (plain (codes "\"tag\":") refl) (string_of (tag ∷ []))
json_part limit (Name alone name) = join (codes "\"name\":") (string name) (plain (codes "\"name\":") refl) (string_of name)
json_part limit (Refusal n) = around (codes "\"fault\":{\"number\":") (decimal n) (codes ",\"name\":") refl refl (number n)
json_part limit (Key word name) = join (string name) (codes ":") (string_of name) (plain (codes ":") refl)
json_part limit (Member name) = join (string name) (codes ":") (string_of name) (plain (codes ":") refl)
json_part limit (Count n) = plain (codes "[") refl
json_part limit ListBegins = plain (codes "[") refl
json_part limit ListEnds = plain (codes "]") refl
json_part limit ObjectBegins = plain (codes "{") refl
json_part limit ObjectEnds = plain (codes "}") refl
json_part limit (Word word) = string_of word
json_part limit (Number n) = plain (signed_decimal n) (plain_signed n)
json_part limit (Lsn n) = around (34 ∷ []) (lsn n) (34 ∷ []) refl refl (plain (lsn n) (plain_lsn n))
json_part limit (Oid oid) = join (codes "{\"oid\":" ++ decimal oid) (json_name (type_of oid)) (join (codes "{\"oid\":") (decimal oid) (plain (codes "{\"oid\":") refl) (number oid)) (json_type_by (type_of oid))
json_part limit (Text bytes) = json_val limit bytes
json_part limit (Value None) = plain (codes "null") refl
json_part limit (Value (Some bytes)) = json_val limit bytes
json_part limit (Binary bytes) = json_digit limit bytes
json_part limit (Hidden n) = around (codes "{\"bytes\":") (decimal n) (codes "}") refl refl (number n)

blank_before : (p : Part) → IsPrinted (space p)
blank_before (Member name) = plain [] refl
blank_before ListBegins = plain [] refl
blank_before ListEnds = plain [] refl
blank_before ObjectBegins = plain [] refl
blank_before ObjectEnds = plain [] refl
blank_before part = plain (32 ∷ []) refl

one_comma : (line : List ℕ) → IsPrinted (comma line)
unfolding comma
one_comma line = either (is_opening (slice_get line (length line - 1))) [] (44 ∷ []) (plain [] refl) (plain (44 ∷ []) refl)

comma_before : (line : List ℕ) (p : Part) → IsPrinted (separator line p)
comma_before line ListEnds = plain [] refl
comma_before line ObjectEnds = plain [] refl
comma_before line part = one_comma line

one_part : (form : Form) (limit : ℕ) (line : List ℕ) (p : Part) → IsPrinted (added_by form limit line p)
one_part Columns limit line p = join (space p) (shown limit p) (blank_before p) (part limit p)
one_part Json limit line p = join (separator line p) (json limit p) (comma_before line p) (json_part limit p)

longer : (style : Style) (line : List ℕ) (p : Part) → IsPrinted line → IsPrinted (extended style line p)
unfolding extended
longer style line p a = join line (added style line p) a (one_part style.form style.limit line p)

first : (form : Form) (place : ℕ) → IsPrinted (opening_by form place)
first Columns place = at_right 10 place
first Json place = join (codes "{\"offset\":") (decimal place) (plain (codes "{\"offset\":") refl) (number place)

last : (form : Form) → IsPrinted (closing_by form)
last Columns = plain [] refl
last Json = plain (codes "}") refl

parts : (style : Style) (line : List ℕ) (ps : List Part) → IsPrinted line → IsPrinted (followed style line ps)
parts style line [] a = a
parts style line (p ∷ ps) a = parts style (extended style line p) ps (longer style line p a)

-- what goes on by parts
goes : (style : Style) (old new : List ℕ) (ps : List Part) → IsPrinted old → new ≡ followed style old ps → IsPrinted new
goes style old new ps a e = subst IsPrinted (sym e) (parts style old ps a)

texts : (style : Style) (utf8 : Type 0) (ps : List Part) (body old new : List ℕ) → IsPrinted old → ShowsTexts style utf8 ps body old new → IsPrinted new
texts style utf8 ps body old new a (inl h) = goes style old new ps a h.1
texts style utf8 ps body old new a (inr h) = goes style old new (bare body) a h.1

counted : {V : Type 0} (Spelled : ℕ → V → List ℕ → Type 0) (Refused : List ℕ → Error → Type 0) (each : V → List Part) (style : Style) (count : ℕ) (bytes old new : List ℕ) → IsPrinted old → ShowsCounted Spelled Refused each style count bytes old new → IsPrinted new
counted Spelled Refused each style count bytes old new a s = goes style old new (Count count ∷ list_of each s.items s.end) a s.text

marked : {V : Type 0} (Spelled : ℕ → V → List ℕ → Type 0) (Refused : List ℕ → Error → Type 0) (close : Part) (each : V → List Part) (style : Style) (bytes old new : List ℕ) → IsPrinted old → ShowsMarked Spelled Refused close each style bytes old new → IsPrinted new
marked Spelled Refused close each style bytes old new a s = goes style old new (closed close each s.items s.end) a s.text

says : (style : Style) (m : Message) (old new : List ℕ) → IsPrinted old → Shows style m old new → IsPrinted new
says style (Authentication (AuthenticationMd5Password salt)) old new a s = goes style old new (keyed (codes "salt") ∷ secret style salt ∷ []) a s
says style (Authentication (AuthenticationGssContinue bytes)) old new a s = goes style old new (keyed (codes "data") ∷ secret style bytes ∷ []) a s
says style (Authentication (AuthenticationSasl bytes)) old new a s =
    marked TextSpelled TextRefused ListEnds text_part style bytes (followed style old (keyed (codes "mechanisms") ∷ ListBegins ∷ [])) new (parts style old (keyed (codes "mechanisms") ∷ ListBegins ∷ []) a) s
says style (Authentication (AuthenticationSaslContinue bytes)) old new a s = goes style old new (keyed (codes "data") ∷ secret style bytes ∷ []) a s
says style (Authentication (AuthenticationSaslFinal bytes)) old new a s = goes style old new (keyed (codes "data") ∷ secret style bytes ∷ []) a s
says style (NotificationResponse n) old new a s = texts style (IsUtf8 n.channel × IsUtf8 n.message)
    (Key (codes "process") (codes "process_id") ∷ Number n.process_id ∷ keyed (codes "channel") ∷ Text n.channel ∷ keyed (codes "payload") ∷ Text n.message ∷ []) (payload_of (NotificationResponse n)) old new a s
says style (CommandComplete tag) old new a s = texts style (IsUtf8 tag) (Key (codes "tag") (codes "command_tag") ∷ Text tag ∷ []) (payload_of (CommandComplete tag)) old new a s
says style (DataRow row) old new a s =
    counted RangeSpelled RangeRefused (value_part row.storage) style row.count row.storage (followed style old (keyed (codes "values") ∷ [])) new (parts style old (keyed (codes "values") ∷ []) a) s
says style (ErrorResponse bytes) old new a s = marked ErrorFieldSpelled ErrorFieldRefused ObjectEnds field_parts style bytes (followed style old (Member (codes "fields") ∷ ObjectBegins ∷ [])) new (parts style old (Member (codes "fields") ∷ ObjectBegins ∷ []) a) s
says style (CopyInResponse copy) old new a s =
    counted FormatSpelled FormatRefused number_part style copy.count copy.storage (followed style old (keyed (codes "format") ∷ Number (pos copy.format) ∷ Key (codes "columns") (codes "column_formats") ∷ [])) new (parts style old (keyed (codes "format") ∷ Number (pos copy.format) ∷ Key (codes "columns") (codes "column_formats") ∷ []) a) s
says style (CopyOutResponse copy) old new a s =
    counted FormatSpelled FormatRefused number_part style copy.count copy.storage (followed style old (keyed (codes "format") ∷ Number (pos copy.format) ∷ Key (codes "columns") (codes "column_formats") ∷ [])) new (parts style old (keyed (codes "format") ∷ Number (pos copy.format) ∷ Key (codes "columns") (codes "column_formats") ∷ []) a) s
says style (BackendKeyData key) old new a s = goes style old new (Key (codes "process") (codes "process_id") ∷ Number key.process_id ∷ Key (codes "key") (codes "secret_key") ∷ secret style key.secret_key ∷ []) a s
says style (NegotiateProtocolVersion n) old new a s =
    counted TextSpelled TextRefused text_part style n.count n.options (followed style old (keyed (codes "version") ∷ Number n.version ∷ keyed (codes "options") ∷ [])) new (parts style old (keyed (codes "version") ∷ Number n.version ∷ keyed (codes "options") ∷ []) a) s
says style (NoticeResponse bytes) old new a s = marked ErrorFieldSpelled ErrorFieldRefused ObjectEnds field_parts style bytes (followed style old (Member (codes "fields") ∷ ObjectBegins ∷ [])) new (parts style old (Member (codes "fields") ∷ ObjectBegins ∷ []) a) s
says style (ParameterStatus setting) old new a s = texts style (IsUtf8 setting.name × IsUtf8 setting.value)
    (Key (codes "name") (codes "parameter") ∷ Text setting.name ∷ keyed (codes "value") ∷ Text setting.value ∷ []) (payload_of (ParameterStatus setting)) old new a s
says style (RowDescription row) old new a s =
    counted FieldSpelled FieldRefused column_parts style row.count row.storage (followed style old (keyed (codes "columns") ∷ [])) new (parts style old (keyed (codes "columns") ∷ []) a) s
says style (ReadyForQuery status) old new a s = goes style old new (Member (codes "status") ∷ Word (name_or (state_of status) status) ∷ []) a s
says style (CopyData bytes) old new a s = goes style old new (keyed (codes "data") ∷ Value (Some bytes) ∷ []) a s
says style (ParameterDescription row) old new a s =
    counted TypeSpelled TypeRefused type_part style row.count row.storage (followed style old (keyed (codes "types") ∷ [])) new (parts style old (keyed (codes "types") ∷ []) a) s
says style m old new a s = subst IsPrinted (sym s) a

result_printed : (style : Style) (body old new : List ℕ) → IsPrinted old → ShowsResult style body old new → IsPrinted new
result_printed style body old new a (inl s) = goes style old new (result_parts s.0) a s.2
result_printed style body old new a (inr s) = goes style old new (bare body) a s.1

copy_printed : (style : Style) (body old new : List ℕ) → IsPrinted old → ShowsCopyBoth style body old new → IsPrinted new
copy_printed style body old new a (inl s) = goes style old new (copy_parts s.0 s.1) a s.3
copy_printed style body old new a (inr s) = goes style old new (bare body) a s.1

unread_printed : (style : Style) (tag : ℕ) (body : List ℕ) (e : Error) (old new : List ℕ) → IsPrinted old → ShowsUnread style tag body e old new → IsPrinted new
unread_printed style tag body e old new a (CallResult t s) =
    let names = Name false (codes "FunctionCallResponse") ∷ [] in result_printed style body (followed style old names) new (parts style old names a) s
unread_printed style tag body e old new a (CopyBoth t s) =
    let names = Name false (codes "CopyBothResponse") ∷ [] in copy_printed style body (followed style old names) new (parts style old names a) s
unread_printed style tag body e old new a (Rejected t u s) = goes style old new (refused e) a s

inside : (standby : Bool) (style : Style) (bytes old new : List ℕ) → IsPrinted old → ShowsInner standby style bytes old new → IsPrinted new
inside standby style bytes old new a (inl s) = goes style old new (inner_parts s.0) a s.2
inside standby style bytes old new a (inr s) = goes style old new (data_parts bytes) a s.1

says_so : (inside_of : Option (List ℕ)) (style : Style) (m : Message) (old new : List ℕ) → IsPrinted old → Says inside_of style m old new → IsPrinted new
says_so (Some bytes) style m old new a s = inside false style bytes old new a s
says_so None style m old new a s = says style m old new a s

result : (style : Style) (replicating : Bool) (tag : ℕ) (body : List ℕ) (r : Result Message Error) (old new : List ℕ) → IsPrinted old → GoesOn style replicating tag body r old new → IsPrinted new
result style replicating tag body (Ok m) old new a g = says_so (inner_data replicating m) style m (followed style old (called m ∷ [])) new (parts style old (called m ∷ []) a) g
result style replicating tag body (Err e) old new a g = unread_printed style tag body e old new a g

server_line : (style : Style) (place : ℕ) (replicating : Bool) (f : Frame) (line : List ℕ) → IsLineOf style place replicating f line → (text : List ℕ) × (line ≡ text ++ 10 ∷ []) × IsPrinted text
server_line style place replicating f line is = (is.text ++ closing style, is.ended, join is.text (closing style) (result style replicating f.tag f.payload is.result (front style place f) is.text (parts style (opening style place) (Length (length (frame_bytes f)) ∷ Tag f.tag ∷ []) (first style.form place)) is.reported) (last style.form))

groups : (style : Style) (line : List ℕ) (gs : List (List Part)) → IsPrinted line → IsPrinted (grouped style line gs)
groups style line [] a = a
groups style line (ps ∷ gs) a = groups style (followed style line ps) gs (parts style line ps a)

client : (style : Style) (reported : Bool) (r : Result ClientMessage ClientError) (old : List ℕ) → IsPrinted old → IsPrinted (client_line style reported r old)
client style reported (Ok x) old a = groups style (followed style old (client_called reported x ∷ [])) (client_groups style reported x) (parts style old (client_called reported x ∷ []) a)
client style reported (Err e) old a = parts style old (refusal_parts e) a

client_so : (inside_of : Option (List ℕ)) (style : Style) (reported : Bool) (r : Result ClientMessage ClientError) (old new : List ℕ) → IsPrinted old → ClientSays inside_of style reported r old new → IsPrinted new
client_so (Some bytes) style reported r old new a s = inside true style bytes (followed style old (Name false (codes "CopyData") ∷ [])) new (parts style old (Name false (codes "CopyData") ∷ []) a) s
client_so None style reported r old new a s = subst IsPrinted (sym s) (client style reported r old a)

begun : (style : Style) (place : ℕ) (opened : Bool) (frame : List ℕ) → IsPrinted (client_front style place opened frame)
begun style place opened frame = parts style (opening style place) (Length (length frame) ∷ Tag (client_tag opened frame) ∷ []) (first style.form place)

-- what begins a line, goes on by parts, and ends it
pub opening_printable : (form : Form) (place : ℕ) → IsPrinted (opening_by form place)
opening_printable = first

pub parts_printable : (style : Style) (line : List ℕ) (ps : List Part) → IsPrinted line → IsPrinted (followed style line ps)
parts_printable = parts

pub closing_printable : (form : Form) → IsPrinted (closing_by form)
closing_printable = last

pub line_printable : (style : Style) (place : ℕ) (from to : Side) (frame line : List ℕ) → LineOf style place from frame line to → (text : List ℕ) × (line ≡ text ++ 10 ∷ []) × IsPrinted text
line_printable style place (Server Beginning) to frame line (inl is) =
    let parts_of = Length 1 ∷ Tag is.reported.byte ∷ Name true (answer_name is.reported.byte) ∷ [] in (
      followed style (opening style place) parts_of ++ closing style,
      is.reported.reported,
      join (followed style (opening style place) parts_of) (closing style) (parts style (opening style place) parts_of (first style.form place)) (last style.form),
    )
line_printable style place (Server Beginning) to frame line (inr is) = server_line style place false is.reported.first line is.reported.reported
line_printable style place (Server Messages) to frame line is = server_line style place false is.0.first line is.0.reported
line_printable style place (Server Replicating) to frame line is = server_line style place true is.0.first line is.0.reported
line_printable style place (Server Encrypted) to frame line is = absurd is
line_printable style place (Client opened kinds replicating) to frame line is =
    let ends = is.reported.reported in (
      ends.text ++ closing style,
      ends.ended,
      join ends.text (closing style) (client_so (client_data replicating is.reported.result) style (is_reported kinds) is.reported.result (client_front style place opened frame) ends.text (begun style place opened frame) ends.says) (last style.form),
    )
