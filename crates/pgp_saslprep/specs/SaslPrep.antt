-- The preparation of a password: RFC 4013, over the tables of RFC 3454. Texts are lists of code points.
use Rattle.std.specs.Prelude.{ℕ, Bool, false, not, ◌&&◌, ◌||◌, List, [], ◌∷◌, flat_map, Option, Some, None, option_map, chars, encode_utf8_all, if◌then◌else◌}
use Rattle.std.specs.List.{list_any}
use Rattle.unicode_normalization.specs.Forms.{nfkc}
use Rattle.pgp_saslprep.specs.Table.{Range, in_table}
use Rattle.pgp_saslprep.specs.Tables.{a_1, b_1, c_1_2, c_2_1, c_2_2, c_3, c_4, c_5, c_6, c_7, c_8, c_9, d_1, d_2}

-- section 2.1: a space past ASCII is mapped to a space (32), and what is commonly mapped to nothing to nothing
unfoldable pub mapped_char : ℕ → List ℕ
mapped_char c = if in_table c_1_2 c then 32 ∷ [] else (if in_table b_1 c then [] else c ∷ [])

abbrev pub mapped_text : List ℕ → List ℕ
mapped_text text = flat_map mapped_char text

-- the table lists a character of the text
abbrev pub has : List Range → List ℕ → Bool
has table text = list_any (in_table table) text

-- the table lists the first character
unfoldable pub begins : List Range → List ℕ → Bool
begins table [] = false
begins table (c ∷ text) = in_table table c

-- the table lists the last character
unfoldable pub ends : List Range → List ℕ → Bool
ends table [] = false
ends table (c ∷ []) = in_table table c
ends table (c ∷ d ∷ text) = ends table (d ∷ text)

-- section 2.3: the tables of prohibited output
unfoldable pub is_prohibited : List ℕ → Bool
is_prohibited text =
    has c_1_2 text || has c_2_1 text || has c_2_2 text || has c_3 text || has c_4 text || has c_5 text || has c_6 text
    || has c_7 text || has c_8 text || has c_9 text

-- section 2.4, which is section 6 of RFC 3454: where a character is written from right to left, so are the first and the
-- last, and none is written from left to right
unfoldable pub is_one_way : List ℕ → Bool
is_one_way text = not (has d_1 text) || (not (has d_2 text) && begins d_1 text && ends d_1 text)

-- sections 2.3 to 2.5, the last for stored strings: they have no code point that Unicode 3.2 doesn't assign
unfoldable pub is_refused : List ℕ → Bool
is_refused text = is_prohibited text || not (is_one_way text) || has a_1 text

-- Section 2: map, normalize, reject. What Unicode 3.2 doesn't assign is rejected before the normal form too, which may be that
-- of a later Unicode and know such a code point.
unfoldable pub prepared_text : List ℕ → Option (List ℕ)
prepared_text text =
    let mapped = mapped_text text in
    let normal = nfkc mapped in
    if has a_1 mapped || is_refused normal then None else Some normal

-- the same of the bytes of UTF-8
abbrev pub prepared_bytes : List ℕ → Option (List ℕ)
prepared_bytes bytes = option_map encode_utf8_all (prepared_text (chars bytes))
