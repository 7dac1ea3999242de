-- The names of other crates and of this one's specs that several proofs cite, passed on from one place. Declares nothing.
pub use Rattle.std.proofs.Common.{◌≡◌, ℕ, zero, suc, ◌+◌, ◌-◌, false, List, [], ◌∷◌, ◌++◌, length, refl, ap, ◌∙◌, arith, ◌<◌, ◌≤◌, Bool, true, take, drop, get_or, Result, Ok, Err, sym, subst, append_assoc, take-append-drop, ◌≢◌, ◌⊎◌, Some, None, inl, inr, ◌*◌, Option, rules, length-append, map}
pub use Rattle.std.proofs.lemmas.Bool.{leb-true, le-ltb, lt-ltb, and_from, and_parts, le-leb, ltb-true, ltb-false, eqb-true, false_from_ne_true, leb-false, eqb-false}
pub use Rattle.std.proofs.lemmas.Grind.{flat_map-append}
pub use Rattle.std.proofs.lemmas.List.{append-nil, take_more, take_all, drop_all, append_cancel_left, append_cancel_right, take_rest, map-append}
pub use Rattle.std.proofs.lemmas.List.Concat.{flat_map-cons}
pub use Rattle.std.proofs.lemmas.Str.{encode_ascii, IsCharBoundary-from_take, IsUtf8-nil, chars-nil, is_utf8-from_IsUtf8, IsUtf8-from_is_utf8, IsUtf8-from_ascii, chars-append, chars-IsAscii, chars_past_char, utf8_valid_len-IsUtf8, encodes-chars, scalars-chars, digit_value-digit_char, inside_one}
pub use Rattle.std.specs.Char.{encode_utf8, IsScalar, digit_value, is_digit}
pub use Rattle.std.specs.Fmt.{format_spec, styled_decimal}
unfoldable pub use Rattle.std.specs.Fmt.{char_count, padded_integral}
pub use Rattle.std.specs.Io.KnownBytes.{Keeps, Appends}
pub use Rattle.std.specs.List.{repeat, flat_map, list_all, list_any, AllByRecursion, prefix_len}
pub use Rattle.std.specs.Prelude.{decimal, ◌/◌, ◌%◌, OnOk, ◌==◌, nat_le, nat_lt, if◌then◌else◌, ◌&&◌, codes, cond, option_and_then, ◌||◌, string_bytes}
pub use Rattle.std.specs.Str.{IsUtf8, IsAscii, IsCharBoundary, chars, is_utf8, all_scalars, encode_utf8_all}
pub use Rattle.std.specs.Str.Lossy.{valid_len_up_to}
unfoldable pub use Rattle.std.specs.Str.Lossy.{utf8_valid_len}
pub use Rattle.pgtool_line.specs.Line.{blanks, right, Value, added, added_by, comma, shown}
pub use Rattle.pgtool_line.specs.Plain.{escaped_text, is_plain}
pub use Rattle.pgtool_line.specs.Quoting.{broken, escaped_at, escaped_char, is_mark, is_printable, is_text, is_visible, unit, units, unprinted, hex_byte, json_digits, long, quoted, hex_digit, digits, hex_escape, escaped_byte}
unfoldable pub use Rattle.pgtool_line.specs.Quoting.{escaped, json_hex, json_text, json_value, value, up_to}
pub use Rattle.pgtool_line.specs.Words.{TextsFrom, greatest}
pub use Rattle.pgtool_line.specs.declared.style.Form.{Form}
pub use Rattle.pgtool_line.specs.declared.style.Form.TheVariants.{Columns, Json}
