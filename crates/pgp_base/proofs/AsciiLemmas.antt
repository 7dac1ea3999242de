-- Bytes below 128 are text, and a text may be cut after them.
use Rattle.pgp_base.proofs.Common.{◌≡◌, ◌≢◌, ℕ, ◌+◌, ◌^◌, ◌-◌, ◌%◌, ◌≤◌, leb, leb-false, cond, List, length, get_or, take, drop, replicate, map, IsUtf8, sym, ap, subst, ◌∙◌, inl, inr, arith, take-append-drop, length-take, w8, IsAscii, zip2, mask_l, chunk, top, cases_lt, get_or_past, get_or-take, bitmask_splat, zip2_splat, zip2_splat_left, length-chunk, none_from_empty_mask, trailing_mask_l, run_in_chunk_le, run_in_chunk_fails, IsUtf8-append, IsUtf8-drop, IsUtf8-from_ascii, IsCharBoundary-from_take, count_trailing_zeros, AreAscii}

-- a look at n lanes: which of them are at least 128
module _ (bytes : List ℕ) (at n : ℕ) (room : at + n ≤ length bytes) (short : n ≤ 64) where
  abbrev pub high : ℕ
  high = mask_l (map (top 7) (zip2 (λ a b. cond (leb a b) (2 ^ 8 - 1) 0) (replicate n 128) (chunk at n bytes))) % 2 ^ 64

  high_is : high ≡ mask_l (map (λ x. leb 128 x) (chunk at n bytes))
  high_is =
      let long = length-chunk at n bytes room in
      let turned = zip2_splat_left (λ a b. cond (leb a b) (2 ^ 8 - 1) 0) 128 n (chunk at n bytes) long ∙ sym (zip2_splat (λ a b. cond (leb b a) (2 ^ 8 - 1) 0) (chunk at n bytes) n 128 long) in
      ap (λ l. mask_l (map (top 7) l) % 2 ^ 64) turned ∙ bitmask_splat w8 (λ a b. leb b a) (chunk at n bytes) n 128 long short

  -- where there is none
  pub ascii_of_mask : high ≡ 0 → AreAscii bytes at (at + n)
  ascii_of_mask none k low up = leb-false 128 (get_or bytes k 0) (none_from_empty_mask (λ x. leb 128 x) bytes at n 0 room (sym high_is ∙ none) k low up)

  -- those before the first
  pub ascii_before : high ≢ 0 → (count_trailing_zeros 64 high ≤ n) × AreAscii bytes at (at + count_trailing_zeros 64 high)
  ascii_before some =
      let p = λ (x : ℕ). leb 128 x in
      let xs = chunk at n bytes in
      let long = length-chunk at n bytes room in
      let m = mask_l (map p xs) in
      let set : m ≢ 0 = λ z. some (high_is ∙ z) in
      let counted = ap (count_trailing_zeros 64) high_is ∙ trailing_mask_l p 64 xs (omega (arith, long)) (omega (arith, set)) in
      let r = count_trailing_zeros 64 high in
      (run_in_chunk_le p bytes at n r 0 room counted, λ k low up. leb-false 128 (get_or bytes k 0) (run_in_chunk_fails p bytes at n r 0 room counted k low up))

pub all_ascii : (bytes : List ℕ) → AreAscii bytes 0 (length bytes) → IsAscii bytes
all_ascii bytes all i = elim (cases_lt i (length bytes)) [ inl l ↦ all i (omega arith) l | inr g ↦ omega (arith, get_or_past bytes i 0 g) ]

-- ASCII in front, and what follows it
module _ (bytes : List ℕ) (at : ℕ) (within : at ≤ length bytes) (front : AreAscii bytes 0 at) where
  pub front_is_text : IsUtf8 (take at bytes)
  front_is_text = IsUtf8-from_ascii (take at bytes) (λ i. elim (cases_lt i at) [
    | inl l ↦ omega (arith, get_or-take at bytes i 0 l, front i (omega arith) l)
    | inr g ↦ omega (arith, get_or_past (take at bytes) i 0 (omega (arith, length-take at bytes)))
  ])

  pub text_joined : IsUtf8 (drop at bytes) → IsUtf8 bytes
  text_joined rest = subst IsUtf8 (take-append-drop at bytes) (IsUtf8-append _ _ front_is_text rest)

  pub text_cut_behind : IsUtf8 bytes → IsUtf8 (drop at bytes)
  text_cut_behind whole = IsUtf8-drop bytes at whole (IsCharBoundary-from_take bytes at whole within front_is_text)

-- bytes of which no place is left
pub ascii_is_text : (bytes : List ℕ) (at : ℕ) → AreAscii bytes 0 at → AreAscii bytes at (length bytes) → IsUtf8 bytes
ascii_is_text bytes at front rest = IsUtf8-from_ascii bytes (all_ascii bytes (λ k low high. elim (cases_lt k at) [ inl l ↦ front k low l | inr g ↦ rest k g high ]))
