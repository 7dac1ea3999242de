-- Texts of ASCII are prepared as they are, or rejected.
use Rattle.pgp_saslprep.proofs.Common.{◌≡◌, ℕ, ◌<◌, ◌≤◌, true, false, cond, List, [], ◌∷◌, refl, ap, ◌∙◌, arith, encode_utf8_all, inl, inr, IsAscii, cases_Bool, or_left, or_from, not_from_false, and_right, and_left, lt-leb, chars-IsAscii, encodes-IsAscii, Nfkc, Range, in_table, ranges_rise, a_1, b_1, c_1_2, c_2_1, c_2_2, c_3, c_4, c_5, c_6, c_7, c_8, c_9, d_1, mapped_char, mapped_text, has, is_prohibited, is_one_way, is_refused, prepared_text, prepared_bytes}
use Rattle.std.specs.Prelude.{Some, None, option_map, unwrap_or, All}
use Rattle.std.proofs.lemmas.List.Elements.{All-head, All-tail, All-weaker}
use Rattle.std.proofs.lemmas.List.Folds.{list_any_none}
use Rattle.std.proofs.lemmas.Str.Ascii.{All-from_ascii, IsAscii-from_all}
use Rattle.unicode_normalization.proofs.FormsLemmas.{normalize-ascii}
use Rattle.pgp_saslprep.proofs.Halving.{below}

abbrev pub IsPlain : ℕ → Type 0
IsPlain c = (32 ≤ c) × (c ≤ 126)

-- a table that begins after ASCII lists none of it
no_ascii : (table : List Range) (c : ℕ) → ranges_rise 128 table ≡ true → c < 128 → in_table table c ≡ false
no_ascii table c up low = below 128 table c up low

has_none : (table : List Range) (text : List ℕ) → ranges_rise 128 table ≡ true → All (λ c. c < 128) text → has table text ≡ false
has_none table text up low =
    list_any_none (in_table table) text (All-weaker (λ c. c < 128) (λ c. in_table table c ≡ false) (λ c h. no_ascii table c up h) text low)

spaces_behind : ranges_rise 128 c_1_2 ≡ true
unfolding ranges_rise c_1_2
spaces_behind = refl

nothings_behind : ranges_rise 128 b_1 ≡ true
unfolding ranges_rise b_1
nothings_behind = refl

char_stays : (c : ℕ) → c < 128 → mapped_char c ≡ c ∷ []
unfolding mapped_char
char_stays c low = rw (no_ascii c_1_2 c spaces_behind low, no_ascii b_1 c nothings_behind low) refl

text_stays : (text : List ℕ) → All (λ c. c < 128) text → mapped_text text ≡ text
text_stays [] low = refl
text_stays (c ∷ text) low =
    rw (char_stays c (All-head (λ c. c < 128) c text low), text_stays text (All-tail (λ c. c < 128) c text low)) refl

-- Unicode 3.2 assigns all of it
all_assigned : (text : List ℕ) → All (λ c. c < 128) text → has a_1 text ≡ false
unfolding ranges_rise a_1
all_assigned text low = has_none a_1 text refl low

-- nothing changes ASCII, but it may be rejected
text_prepared : (text : List ℕ) → All (λ c. c < 128) text → prepared_text text ≡ cond (is_refused text) None (Some text)
unfolding prepared_text
text_prepared text low = rw (text_stays text low, all_assigned text low, normalize-ascii Nfkc text low) refl

bytes_prepared : (text : List ℕ) → IsAscii text → prepared_bytes text ≡ cond (is_refused text) None (Some text)
bytes_prepared text low =
    ap (λ t. option_map encode_utf8_all (prepared_text t)) (chars-IsAscii text low)
    ∙ ap (option_map encode_utf8_all) (text_prepared text (All-from_ascii text low))
    ∙ elim (cases_Bool (is_refused text)) [
      | inl yes_ ↦ rw yes_ refl
      | inr no_ ↦ rw (no_, encodes-IsAscii text low) refl
    ]

pub used_as_it_is : (text : List ℕ) → IsAscii text → unwrap_or (prepared_bytes text) text ≡ text
used_as_it_is text low =
    ap (λ o. unwrap_or o text) (bytes_prepared text low)
    ∙ elim (cases_Bool (is_refused text)) [
      | inl yes_ ↦ rw yes_ refl
      | inr no_ ↦ rw no_ refl
    ]

no_control : (c : ℕ) → IsPlain c → in_table c_2_1 c ≡ false
unfolding in_table c_2_1
no_control c plain =
    or_from _ _ (and_right _ _ (lt-leb c 31 (omega (arith, plain.0)))) (or_from _ _ (and_left _ _ (lt-leb 127 c (omega (arith, plain.1)))) refl)

below_128 : (c : ℕ) → IsPlain c → c < 128
below_128 c plain = omega (arith, plain.1)

module _ (text : List ℕ) (low : All (λ c. c < 128) text) where
  goes_one_way : is_one_way text ≡ true
  unfolding is_one_way ranges_rise d_1
  goes_one_way = or_left _ _ (not_from_false _ (has_none d_1 text refl low))

  is_allowed : has c_2_1 text ≡ false → is_prohibited text ≡ false
  unfolding is_prohibited ranges_rise c_1_2 c_2_2 c_3 c_4 c_5 c_6 c_7 c_8 c_9
  is_allowed no_controls =
      rw (
        has_none c_1_2 text refl low,
        no_controls,
        has_none c_2_2 text refl low,
        has_none c_3 text refl low,
        has_none c_4 text refl low,
        has_none c_5 text refl low,
        has_none c_6 text refl low,
        has_none c_7 text refl low,
        has_none c_8 text refl low,
        has_none c_9 text refl low,
      ) refl

plain_passes : (text : List ℕ) → All IsPlain text → is_refused text ≡ false
unfolding is_refused
plain_passes text plain =
    let low = All-weaker IsPlain (λ c. c < 128) below_128 text plain in
    let controls : has c_2_1 text ≡ false = list_any_none (in_table c_2_1) text (All-weaker IsPlain (λ c. in_table c_2_1 c ≡ false) no_control text plain) in
    rw (is_allowed text low controls, goes_one_way text low, all_assigned text low) refl

pub plain_stays : (text : List ℕ) → All IsPlain text → prepared_bytes text ≡ Some text
plain_stays text plain =
    let low = All-weaker IsPlain (λ c. c < 128) below_128 text plain in
    rw (bytes_prepared text (IsAscii-from_all text low), plain_passes text plain) refl
