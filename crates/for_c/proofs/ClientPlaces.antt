-- What stands at places of bytes, and the places of the parts of a message in its frame.
use Rattle.for_c.proofs.Common.{◌≡◌, ℕ, ℤ, ◌+◌, ◌*◌, ◌-◌, ◌≤◌, List, [], ◌∷◌, ◌++◌, length, take, drop, refl, sym, ap, ◌∙◌, arith, length-append, append_assoc, nat_le, flat_map, take-append_seam, drop-append_seam, le-leb, int16, text, uint16, uint16_number, int16_length, after_text, numbers_at, past, rest_of}
use Rattle.for_c.proofs.Walks.{chosen, drop-drop}

module _ (bytes new : List ℕ) where
  -- these bytes stand from a place on, before what is left
  abbrev pub At : ℕ → List ℕ → Type 0
  At n l = drop n bytes ≡ l ++ new

  pub next : (n k : ℕ) (x more : List ℕ) → k ≡ n + length x → At n (x ++ more) → At k more
  next n k x more is at =
      ap (λ k. drop k bytes) is ∙ (sym (drop-drop (length x) n bytes) ∙ (ap (λ l. drop (length x) l) (at ∙ append_assoc x more new) ∙ drop-append_seam x (more ++ new)))

  pub here : (n : ℕ) (x more : List ℕ) → At n (x ++ more) → take (length x) (drop n bytes) ≡ x
  here n x more at = ap (λ l. take (length x) l) (at ∙ append_assoc x more new) ∙ take-append_seam x (more ++ new)

  pub text_here : (n : ℕ) (x more : List ℕ) → At n (text x ++ more) → take (length x) (drop n bytes) ≡ x
  text_here n x more at = here n x (0 ∷ more) (at ∙ ap (λ l. l ++ new) (append_assoc x (0 ∷ []) more))

  -- items after their count
  pub items_at : (n count : ℕ) (items more : List ℕ) → At n ((uint16 count ++ items) ++ more) → At (n + 2) (items ++ more)
  items_at n count items more at =
      next n (n + 2) (uint16 count) (items ++ more) (ap (λ k. n + k) (sym (uint16_number.len count))) (at ∙ ap (λ l. l ++ new) (append_assoc (uint16 count) items more))

  pub listed : (at end n : ℕ) (items more : List ℕ) → at ≡ n → At n (items ++ more) → end ≡ n + length items → end ≤ length bytes → rest_of bytes at end ≡ items
  listed at end n items more place h is few =
      let size : end - n ≡ length items = omega (arith, is) in
      ap (λ a. rest_of bytes a end) place
      ∙ (chosen (nat_le end (length bytes)) _ [] (le-leb end (length bytes) few)
      ∙ (chosen (nat_le n end) _ [] (le-leb n end (omega (arith, is)))
      ∙ (ap (λ k. take k (drop n bytes)) size ∙ here n items more h)))

  -- the same of all that is left of the frame
  pub all_here : (n k : ℕ) (x : List ℕ) → k ≡ length x → At n x → take k (drop n bytes) ≡ x
  all_here n k x is at = ap (λ k. take k (drop n bytes)) is ∙ (ap (λ l. take (length x) l) at ∙ take-append_seam x new)

pub int16s_length : (zs : List ℤ) → length (flat_map int16 zs) ≡ 2 * length zs
int16s_length [] = refl
int16s_length (z ∷ zs) = omega (arith, int16s_length zs, int16_length z, length-append (int16 z) (flat_map int16 zs))

pub past_is : (frame at len : ℕ) → at + len ≤ frame → past frame at len ≡ at + len
past_is frame at len h = omega (arith, h)

pub after_text_is : (frame at n len : ℕ) → at ≡ n → n + len + 1 ≤ frame → after_text frame at len ≡ n + len + 1
after_text_is frame at n len is h =
    let first : past frame at len ≡ n + len = ap (λ a. past frame a len) is ∙ past_is frame n len (omega (arith, h)) in
    ap (λ a. past frame a 1) first ∙ past_is frame (n + len) 1 h

pub numbers_begin : (frame at n count : ℕ) → at ≡ n → n + 2 ≤ frame → (numbers_at frame at count).at ≡ n + 2
numbers_begin frame at n count is h = ap (λ a. past frame a 2) is ∙ past_is frame n 2 h

pub numbers_end : (frame at n count : ℕ) → at ≡ n → n + 2 + 2 * count ≤ frame → (numbers_at frame at count).end ≡ n + 2 + 2 * count
numbers_end frame at n count is h =
    let begins = numbers_begin frame at n count is (omega (arith, h)) in
    let half : past frame (past frame at 2) count ≡ n + 2 + count = ap (λ a. past frame a count) begins ∙ past_is frame (n + 2) count (omega (arith, h)) in
    let whole : past frame (n + 2 + count) count ≡ n + 2 + count + count = past_is frame (n + 2 + count) count (omega (arith, h)) in
    ap (λ a. past frame a count) half ∙ whole ∙ omega arith
