-- The names of other crates and of this one's specs that several proofs cite, passed on from one place. Declares nothing.
pub use Rattle.std.proofs.Common.{◌≡◌, ℕ, ◌<◌, ◌≤◌, true, false, cond, List, [], ◌∷◌, refl, ap, ◌∙◌, arith, encode_utf8_all, inl, inr, ◌++◌, zero, suc, ◌+◌, ◌&&◌, nat_le, length, drop, get_or, sym, add-one, le_of_suc-le-suc, not-suc-le-zero, drop_of_length-le, append-nil, Bool, Option, Some, chars, map-id, ◌-◌, ◌/◌, string_bytes}
pub use Rattle.std.proofs.StrCases.{chars_of_empty}
pub use Rattle.std.proofs.lemmas.Bool.{cases_Bool, or_left, or_from, not_from_false, and_right, and_left, lt-leb, and_parts, and_from, or_right, leb-true, le-leb, cases_lt}
pub use Rattle.std.proofs.lemmas.Iterator.{YieldsList-from_chars}
pub use Rattle.std.proofs.lemmas.Iterator.Consumers.{YieldsList-end}
pub use Rattle.std.proofs.lemmas.Str.{chars-IsAscii, encodes-IsAscii, chars_from_encodes, chars_past_char, IsUtf8-past_char, encodes-append}
pub use Rattle.std.specs.Str.{IsAscii, IsUtf8}
pub use Rattle.unicode_normalization.specs.Forms.{Nfkc, nfkc}
pub use Rattle.pgp_saslprep.specs.SaslPrep.{mapped_text, has, prepared_bytes}
unfoldable pub use Rattle.pgp_saslprep.specs.SaslPrep.{mapped_char, is_prohibited, is_one_way, is_refused, prepared_text, ends, begins}
pub use Rattle.pgp_saslprep.specs.Table.{Range}
unfoldable pub use Rattle.pgp_saslprep.specs.Table.{in_table, ranges_rise}
unfoldable pub use Rattle.pgp_saslprep.specs.Tables.{a_1, b_1, c_1_2, c_2_1, c_2_2, c_3, c_4, c_5, c_6, c_7, c_8, c_9, d_1}
