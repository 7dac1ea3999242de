-- How bytes stand in a line: by characters that a terminal prints.
use Rattle.std.specs.Prelude.{◌≡◌, ℕ, ◌+◌, ◌-◌, ◌/◌, ◌%◌, Bool, true, false, not, ◌||◌, ◌&&◌, nat_le, nat_lt, ◌==◌, if◌then◌else◌, List, [], ◌∷◌, ◌++◌, length, take, drop, codes, decimal}
use Rattle.std.specs.Char.{encode_utf8}
use Rattle.std.specs.List.{flat_map, list_all, list_any}
use Rattle.std.specs.Str.{all_scalars, chars, encode_utf8_all, is_utf8}
use Rattle.std.specs.Str.Lossy.{utf8_valid_len}
use Rattle.ucd_category.specs.GeneralCategory.{general_category, general_category_eq}
use Rattle.ucd_category.specs.declared.GeneralCategory.TheVariants.{Unassigned}
use Rattle.pgtool_line.specs.declared.style.Form.{Form}
use Rattle.pgtool_line.specs.declared.style.Form.TheVariants.{Columns, Json}

abbrev pub is_within : ℕ → ℕ → ℕ → Bool
is_within first last c = nat_le first c && nat_le c last

-- Beyond ASCII: what prints nothing, or a blank, or turns the direction, and what means nothing outside of one program. These are the controls, and
-- the characters that Unicode calls White_Space, Bidi_Control, Default_Ignorable_Code_Point and private (PropList and DerivedCoreProperties), with what stands between them where that prints nothing either.
abbrev pub is_spacing : ℕ → Bool
is_spacing c =
    is_within 0x7F 0xA0 c  -- controls, a blank
    || is_within 0xAD 0xAD c  -- a hyphen that isn't shown
    || is_within 0x1680 0x1680 c  -- a blank
    || is_within 0x2000 0x200F c  -- blanks, and marks of width and direction
    || is_within 0x2028 0x202F c  -- separators of lines and paragraphs, directions, a blank
    || is_within 0x205F 0x206F c  -- a blank, joiners, directions
    || is_within 0x2800 0x2800 c  -- a blank of Braille
    || is_within 0x3000 0x3000 c  -- a blank

abbrev pub is_ignorable : ℕ → Bool
is_ignorable c =
    is_within 0x034F 0x034F c  -- a joiner
    || is_within 0x061C 0x061C c  -- a mark of direction
    || is_within 0x115F 0x1160 c  -- fillers
    || is_within 0x17B4 0x17B5 c  -- vowels that aren't shown
    || is_within 0x180B 0x180F c  -- selectors of variants, a separator
    || is_within 0x3164 0x3164 c  -- a filler
    || is_within 0xFE00 0xFE0F c  -- selectors of variants
    || is_within 0xFEFF 0xFEFF c  -- the mark of a byte order
    || is_within 0xFFA0 0xFFA0 c  -- a filler

abbrev pub is_special : ℕ → Bool
is_special c =
    is_within 0xE000 0xF8FF c  -- private
    || is_within 0xFFF0 0xFFFF c  -- notes between lines, what stands for an unknown character, and no characters
    || is_within 0x13430 0x1345F c  -- how hieroglyphs stand
    || is_within 0x1BCA0 0x1BCA3 c  -- how shorthand stands
    || is_within 0x1D173 0x1D17A c  -- how music stands
    || is_within 0xE0000 0x10FFFF c  -- tags, selectors of variants, private

-- what Unicode 18 assigns no character to
abbrev pub is_unassigned : ℕ → Bool
is_unassigned c = general_category_eq (general_category c) Unassigned

-- from the space to the tilde
abbrev pub is_visible : ℕ → Bool
is_visible b = nat_le 32 b && nat_le b 126

-- a character that a terminal prints, in its place
abbrev pub is_printable : ℕ → Bool
is_printable c = if nat_lt c 128 then is_visible c else not (is_spacing c || is_ignorable c || is_special c) && not (is_unassigned c)

-- a quote or a backslash
abbrev pub is_mark : ℕ → Bool
is_mark b = (b == 34) || (b == 92)

abbrev pub hex_digit : ℕ → ℕ
hex_digit n = if nat_le n 9 then 48 + n else 87 + n

-- the two of a byte
abbrev pub hex_byte : ℕ → List ℕ
hex_byte b = hex_digit (b / 16 % 16) ∷ hex_digit (b % 16) ∷ []

-- `\x` and the digits of a byte; JSON knows characters alone, and has there the one of that number
abbrev pub hex_escape : Form → ℕ → List ℕ
hex_escape Columns b = 92 ∷ 120 ∷ hex_byte b
hex_escape Json b = 92 ∷ 117 ∷ 48 ∷ 48 ∷ hex_byte b

-- `\u` and the four digits of a number
abbrev pub unit : ℕ → List ℕ
unit u = 92 ∷ 117 ∷ (hex_byte (u / 256) ++ hex_byte (u % 256))

-- a character of JSON by its units of UTF-16
abbrev pub units : ℕ → List ℕ
units c = if nat_lt c 0x10000 then unit c else unit (0xD800 + (c - 0x10000) / 1024) ++ unit (0xDC00 + (c - 0x10000) % 1024)

-- a character that isn't printed: each of its bytes
abbrev pub unprinted : Form → ℕ → List ℕ
unprinted Columns c = flat_map (hex_escape Columns) (encode_utf8 c)
unprinted Json c = units c

-- A character: a mark after a backslash, another that is printed as it is, and what isn't by its digits.
abbrev pub escaped_char : Form → ℕ → List ℕ
escaped_char form c = if is_mark c then 92 ∷ c ∷ [] else if is_printable c then encode_utf8 c else unprinted form c

-- a byte outside of a text, which is a character of ASCII or none
abbrev pub escaped_byte : Form → ℕ → List ℕ
escaped_byte form b = if is_mark b then 92 ∷ b ∷ [] else if is_visible b then b ∷ [] else hex_escape form b

-- what is no character; JSON doesn't say it
abbrev pub broken : Form → List ℕ → List ℕ
broken Columns bytes = flat_map (escaped_byte Columns) bytes
broken Json bytes = []

-- the characters of so many bytes, and then bytes
abbrev pub escaped_at : Form → ℕ → List ℕ → List ℕ
escaped_at form n bytes = flat_map (escaped_char form) (chars (take n bytes)) ++ broken form (drop n bytes)

-- characters as far as the bytes are UTF-8, and bytes from there on
unfoldable pub escaped : Form → List ℕ → List ℕ
escaped form bytes = escaped_at form (utf8_valid_len bytes) bytes

abbrev pub quoted : Form → List ℕ → List ℕ
quoted form bytes = 34 ∷ (escaped form bytes ++ 34 ∷ [])

abbrev pub digits : List ℕ → List ℕ
digits bytes = 92 ∷ 120 ∷ flat_map hex_byte bytes

-- UTF-8 without a byte 0, which no text has
abbrev pub is_text : List ℕ → Bool
is_text bytes = if list_any (λ b. b == 0) bytes then false else is_utf8 bytes

-- of what is longer than the limit the front alone, and how long it is
unfoldable pub up_to : ℕ → (List ℕ → List ℕ) → List ℕ → List ℕ
up_to limit show bytes = if nat_le (length bytes) limit then show bytes else show (take limit bytes) ++ codes " of " ++ decimal (length bytes) ++ codes " bytes"

-- a value: a text in quotes, and what is none as `\x` and its digits
unfoldable pub value : ℕ → List ℕ → List ℕ
value limit bytes = if is_text bytes then up_to limit (quoted Columns) bytes else up_to limit digits bytes

-- and in JSON: a string; or an object that has the front of a text, or hex digits, and how long the whole is where that isn't all
abbrev pub long : ℕ → List ℕ
long n = codes ",\"bytes\":" ++ decimal n ++ codes "}"

unfoldable pub json_text : ℕ → List ℕ → List ℕ
json_text limit bytes = if nat_le (length bytes) limit then quoted Json bytes else codes "{\"text\":" ++ quoted Json (take limit bytes) ++ long (length bytes)

abbrev pub json_digits : List ℕ → List ℕ
json_digits bytes = codes "{\"hex\":\"" ++ flat_map hex_byte bytes ++ 34 ∷ []

unfoldable pub json_hex : ℕ → List ℕ → List ℕ
json_hex limit bytes = if nat_le (length bytes) limit then json_digits bytes ++ 125 ∷ [] else json_digits (take limit bytes) ++ long (length bytes)

unfoldable pub json_value : ℕ → List ℕ → List ℕ
json_value limit bytes = if is_text bytes then json_text limit bytes else json_hex limit bytes

-- characters that a terminal prints, in UTF-8
pub record IsPrinted (text : List ℕ) : Type 0 where
  pub characters : List ℕ
  pub scalars : all_scalars characters ≡ true
  pub spelled : text ≡ encode_utf8_all characters
  pub printed : list_all is_printable characters ≡ true
