-- What stands at the front by its length, in the grammar's terms and as the code reads it.
use Rattle.pgp_frontend_read.proofs.Common.{◌≡◌, ℕ, ◌+◌, ◌<◌, ◌≤◌, ◌^◌, Bool, true, false, List, [], ◌∷◌, ◌++◌, length, get_or, take, drop, Some, None, refl, sym, ap, ◌∙◌, append_assoc, arith, length-append, length-take, length-drop, inr, ◌⊎◌, w32, from_be_bytes, take-append-drop, uint32, IsBytes, length-uint32, fronts, IsBytes-take, IsBytes-drop, framed, place, least, announced, BeginsWithLength, IsLengthFault, IsPartial, IsFront}
use Rattle.std.proofs.lemmas.Nat.{be_bytes_4}

pub cells : (b c d e n : ℕ) → IsBytes (b ∷ c ∷ d ∷ e ∷ []) → n ≡ from_be_bytes w32 (b ∷ c ∷ d ∷ e ∷ []) → (uint32 n ≡ b ∷ c ∷ d ∷ e ∷ []) × (n < 2 ^ 32)
unfolding uint32
cells b c d e n bytes is = (be_bytes_4 (b ∷ c ∷ d ∷ e ∷ []) n refl bytes is, omega (arith, is, bytes 0, bytes 1, bytes 2, bytes 3))

-- the length that the code reads is the length that stands there
pub length_there : (opened : Bool) (bytes : List ℕ) (len : ℕ) → IsBytes bytes → place opened + 4 ≤ length bytes → len ≡ announced opened bytes → BeginsWithLength opened bytes len
length_there false (b ∷ c ∷ d ∷ e ∷ rest) len each long is =
    let four : IsBytes (b ∷ c ∷ d ∷ e ∷ []) = IsBytes-take 4 (b ∷ c ∷ d ∷ e ∷ rest) each in
    let k = cells b c d e len four is in
    record { front = []; rest = rest; at = refl; fits = k.1; parts = ap (λ l. l ++ rest) (sym k.0) }
length_there true (a ∷ b ∷ c ∷ d ∷ e ∷ rest) len each long is =
    let four : IsBytes (b ∷ c ∷ d ∷ e ∷ []) = IsBytes-take 4 (b ∷ c ∷ d ∷ e ∷ rest) (IsBytes-drop 1 (a ∷ b ∷ c ∷ d ∷ e ∷ rest) each) in
    let k = cells b c d e len four is in
    record { front = a ∷ []; rest = rest; at = refl; fits = k.1; parts = ap (λ l. a ∷ l ++ rest) (sym k.0) }
length_there opened bytes len each long is = absurd (omega (arith, long))

-- how much stands after it
pub behind_length : (opened : Bool) (bytes : List ℕ) (len : ℕ) (b : BeginsWithLength opened bytes len) → length bytes ≡ place opened + 4 + length b.rest
behind_length opened bytes len b =
    omega (arith, ap length b.parts, length-append b.front (uint32 len ++ b.rest), length-append b.front (uint32 len), length-append (b.front ++ uint32 len) b.rest, length-append (uint32 len) b.rest, length-uint32 len, b.at)

pub fault_there : (opened : Bool) (bytes : List ℕ) (len : ℕ) → BeginsWithLength opened bytes len → (len < least opened) ⊎ (2 ^ 31 ≤ len) → IsLengthFault opened bytes
fault_there opened bytes len b wrong = record { len = len; begins = b; wrong = wrong }

pub unfinished_there : (opened : Bool) (bytes : List ℕ) (len : ℕ) → BeginsWithLength opened bytes len → least opened ≤ len → len < 2 ^ 31 → length bytes < len + place opened → IsPartial opened bytes
unfinished_there opened bytes len b enough fits short =
    inr (record { len = len; begins = b; enough = enough; fits = fits; missing = omega (arith, short, behind_length opened bytes len b) })

-- what is cut at two places
record IsCut (bytes head payload rest : List ℕ) (place total : ℕ) : Type 0 where
  pub whole : bytes ≡ head ++ (payload ++ rest)
  pub head_length : length head ≡ place
  pub length_is : length payload + place ≡ total

cut_there : (bytes front payload rest : List ℕ) (place total : ℕ) → front ≡ take total bytes → rest ≡ drop total bytes → payload ≡ drop place front → total ≤ length bytes → place ≤ total → IsCut bytes (take place front) payload rest place total
cut_there bytes front payload rest place total f r p le lp =
    let n : length front ≡ total = omega (arith, ap length f, length-take total bytes) in
    let all : front ++ rest ≡ bytes = ap (λ l. l ++ rest) f ∙ ap (λ l. take total bytes ++ l) r ∙ take-append-drop total bytes in
    let parts : take place front ++ payload ≡ front = ap (λ l. take place front ++ l) p ∙ take-append-drop place front in
    record {
      whole = sym all ∙ ap (λ l. l ++ rest) (sym parts) ∙ append_assoc (take place front) payload rest;
      head_length = omega (arith, length-take place front, n);
      length_is = omega (arith, ap length p, length-drop place front, n);
    }

-- the payload stands after the length
module _ (opened : Bool) (bytes : List ℕ) (len : ℕ) (b : BeginsWithLength opened bytes len) (head payload rest : List ℕ) (cut : IsCut bytes head payload rest (place opened + 4) (len + place opened)) where
  head_is : (head ≡ b.front ++ uint32 len) × (payload ++ rest ≡ b.rest)
  head_is = fronts head (b.front ++ uint32 len) (payload ++ rest) b.rest (omega (arith, cut.head_length, length-append b.front (uint32 len), length-uint32 len, b.at)) (sym cut.whole ∙ b.parts)

  len_is : length payload + 4 ≡ len
  len_is = omega (arith, cut.length_is)

  stands_behind : bytes ≡ (b.front ++ uint32 (length payload + 4)) ++ (payload ++ rest)
  stands_behind = cut.whole ∙ ap (λ h. h ++ (payload ++ rest)) (head_is.0 ∙ ap (λ n. b.front ++ uint32 n) (sym len_is))

frame_of : (bytes front payload rest : List ℕ) (tag : ℕ) → length front ≡ 1 → tag ≡ get_or bytes 0 0 → bytes ≡ (front ++ uint32 (length payload + 4)) ++ (payload ++ rest) → bytes ≡ framed (Some tag) payload ++ rest
frame_of bytes [] payload rest tag one is whole = absurd (omega (arith, one))
frame_of bytes (t ∷ []) payload rest tag one is whole =
    let first : get_or bytes 0 0 ≡ t = ap (λ l. get_or l 0 0) whole in
    rw (is, first) (whole ∙ sym (append_assoc (t ∷ uint32 (length payload + 4)) payload rest))
frame_of bytes (t ∷ u ∷ front) payload rest tag one is whole = absurd (omega (arith, one))

packet_there : (bytes front payload rest : List ℕ) → length front ≡ 0 → bytes ≡ (front ++ uint32 (length payload + 4)) ++ (payload ++ rest) → bytes ≡ framed None payload ++ rest
packet_there bytes [] payload rest none whole = whole ∙ sym (append_assoc (uint32 (length payload + 4)) payload rest)
packet_there bytes (t ∷ front) payload rest none whole = absurd (omega (arith, none))

module _ (bytes front payload rest : List ℕ) (len total : ℕ) (each : IsBytes bytes) (f : front ≡ take total bytes) (r : rest ≡ drop total bytes) (le : total ≤ length bytes) (small : len < 2 ^ 31) where
  pub whole_frame : (tag : ℕ) → 5 ≤ length bytes → len ≡ announced true bytes → 4 ≤ len → total ≡ len + 1 → payload ≡ drop 5 front → tag ≡ get_or bytes 0 0 → IsFront (Some tag) payload rest bytes
  whole_frame tag long is enough t p at =
      let b = length_there true bytes len each long is in
      let cut = cut_there bytes front payload rest 5 (len + 1) (f ∙ ap (λ n. take n bytes) t) (r ∙ ap (λ n. drop n bytes) t) p (omega (arith, t, le)) (omega (arith, enough)) in
      record {
        whole = frame_of bytes b.front payload rest tag b.at at (stands_behind true bytes len b (take 5 front) payload rest cut);
        fits = omega (arith, small, len_is true bytes len b (take 5 front) payload rest cut);
      }

  pub whole_packet : 4 ≤ length bytes → len ≡ announced false bytes → 8 ≤ len → total ≡ len → payload ≡ drop 4 front → IsFront None payload rest bytes × (4 ≤ length payload)
  whole_packet long is enough t p =
      let b = length_there false bytes len each long is in
      let zero_more : len ≡ len + 0 = omega arith in
      let cut = cut_there bytes front payload rest 4 (len + 0) (f ∙ ap (λ n. take n bytes) (t ∙ zero_more)) (r ∙ ap (λ n. drop n bytes) (t ∙ zero_more)) p (omega (arith, t, le)) (omega (arith, enough)) in
      let size : length payload + 4 ≡ len = len_is false bytes len b (take 4 front) payload rest cut in (
        record {
          whole = packet_there bytes b.front payload rest b.at (stands_behind false bytes len b (take 4 front) payload rest cut);
          fits = omega (arith, small, size);
        },
        omega (arith, size, enough),
      )
