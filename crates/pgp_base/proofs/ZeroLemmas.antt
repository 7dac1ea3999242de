-- The first byte 0, by looks at some lanes.
use Rattle.pgp_base.proofs.Common.{◌≡◌, ◌≢◌, ℕ, ◌+◌, ◌*◌, ◌^◌, ◌-◌, ◌%◌, ◌≤◌, ◌<◌, Bool, true, false, not, eqb, cond, List, [], ◌∷◌, length, get_or, replicate, map, refl, sym, ap, ◌∙◌, inl, inr, arith, w8, zip2, mask_l, chunk, top, cases_lt, bitmask_splat, length-chunk, none_from_empty_mask, trailing_mask_l, run_in_chunk_le, run_in_chunk_fails, run_in_chunk_stops, count_trailing_zeros}
use Rattle.std.specs.List.{prefix_len}
use Rattle.std.proofs.lemmas.List.Sums.{prefix_len-le-length}
use Rattle.memchr.specs.Find.{Nowhere, NoneBefore, Passes, is_byte}

none_fails : (b : Bool) (n l m : ℕ) → n ≤ l → cond (not b) (1 + n) 0 ≡ 1 + l → (n ≡ l → m ≡ 0) → cond b 1 0 + 2 * m ≡ 0
none_fails true n l m le e ih = let no : 0 ≡ 1 + l = e in absurd (omega arith)
none_fails false n l m le e ih = let z = ih (omega arith) in omega arith

-- where no lane passes, the mask is empty
all_fail : (p : ℕ → Bool) (xs : List ℕ) → prefix_len (λ x. not (p x)) xs ≡ length xs → mask_l (map p xs) ≡ 0
all_fail p [] e = refl
all_fail p (x ∷ xs) e = none_fails (p x) _ (length xs) _ (prefix_len-le-length (λ y. not (p y)) xs) (omega arith) (all_fail p xs)

not_both : (b : Bool) → b ≡ false → b ≡ true → ⊥
not_both b e f = cc

module _ (bytes : List ℕ) (at n : ℕ) (room : at + n ≤ length bytes) (short : n ≤ 64) where
  is_zero : ℕ → Bool
  is_zero x = eqb x 0

  abbrev pub zeros : ℕ
  zeros = mask_l (map (top 7) (zip2 (λ a b. cond (eqb a b) (2 ^ 8 - 1) 0) (chunk at n bytes) (replicate n 0))) % 2 ^ 64

  word_is : zeros ≡ mask_l (map (λ x. eqb x 0) (chunk at n bytes))
  word_is = bitmask_splat w8 (λ a b. eqb a b) (chunk at n bytes) n 0 (length-chunk at n bytes room) short

  pub no_zero : zeros ≡ 0 → Nowhere (Passes (is_byte 0) bytes) at (at + n)
  no_zero none k low high is = not_both (eqb (get_or bytes k 0) 0) (none_from_empty_mask (λ x. eqb x 0) bytes at n 0 room (sym word_is ∙ none) k low high) is

  pub some_zero : zeros ≢ 0 → NoneBefore (Passes (is_byte 0) bytes) at (at + n) (at + count_trailing_zeros 64 zeros) × Passes (is_byte 0) bytes (at + count_trailing_zeros 64 zeros)
  some_zero some =
      let p = λ (x : ℕ). eqb x 0 in
      let xs = chunk at n bytes in
      let long = length-chunk at n bytes room in
      let m = mask_l (map p xs) in
      let set : m ≢ 0 = λ z. some (word_is ∙ z) in
      let counted = ap (count_trailing_zeros 64) word_is ∙ trailing_mask_l p 64 xs (omega (arith, long)) (omega (arith, set)) in
      let r = count_trailing_zeros 64 zeros in
      let le = run_in_chunk_le p bytes at n r 0 room counted in
      let lt : r < n = elim (cases_lt r n) [ inl l ↦ l | inr g ↦ absurd (set (all_fail p xs (sym counted ∙ (omega (arith, le, long))))) ] in (
        record {
          low = omega arith;
          high = omega (arith, lt);
          before = λ k low high is. not_both (eqb (get_or bytes k 0) 0) (run_in_chunk_fails p bytes at n r 0 room counted k low high) is;
        },
        run_in_chunk_stops p bytes at n r 0 room counted lt,
      )
