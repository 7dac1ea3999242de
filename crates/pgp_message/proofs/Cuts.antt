-- A frame cut from the front of the bytes.
use Rattle.pgp_message.proofs.Common.{◌≡◌, ℕ, zero, suc, ◌+◌, ◌<◌, ◌≤◌, ◌^◌, List, [], ◌∷◌, ◌++◌, length, get_or, take, drop, refl, sym, ap, ◌∙◌, arith, w32, from_be_bytes, take-append-drop, length-take, be_bytes_4, uint32, IsBytes, IsBytes-take, IsBytes-drop, Front, IsFront, announced, frame_bytes}

-- the front of n + 1 bytes
abbrev pub front_of : List ℕ → ℕ → Front
front_of old n = record { tag = get_or old 0 0; total = n + 1 }

pub cells : (b c d e n : ℕ) → IsBytes (b ∷ c ∷ d ∷ e ∷ []) → n ≡ from_be_bytes w32 (b ∷ c ∷ d ∷ e ∷ []) → uint32 n ≡ b ∷ c ∷ d ∷ e ∷ []
unfolding uint32
cells b c d e n bytes is = be_bytes_4 (b ∷ c ∷ d ∷ e ∷ []) n refl bytes is

-- the front of cells that announce n is a frame
whole_cells : (a b c d e : ℕ) (rest : List ℕ) (k : ℕ) → k ≤ length rest → uint32 (k + 4) ≡ b ∷ c ∷ d ∷ e ∷ []
    → a ∷ b ∷ c ∷ d ∷ e ∷ rest ≡ frame_bytes (record { tag = a; payload = take k rest }) ++ drop k rest
whole_cells a b c d e rest k le is =
    let len : length (take k rest) ≡ k = omega (arith, length-take k rest) in
    let front : uint32 (length (take k rest) + 4) ≡ b ∷ c ∷ d ∷ e ∷ [] = ap (λ j. uint32 (j + 4)) len ∙ is in
    let tail : rest ≡ take k rest ++ drop k rest = sym (take-append-drop k rest) in
    rw front (ap (λ (r : List ℕ). a ∷ b ∷ c ∷ d ∷ e ∷ r) tail)

pub cut : (old : List ℕ) (n : ℕ) → IsBytes old → n < 2 ^ 32 → n ≡ announced old → 4 ≤ n → n + 1 ≤ length old → IsFront (front_of old n) old
cut (a ∷ b ∷ c ∷ d ∷ e ∷ rest) (suc (suc (suc (suc k)))) bytes small is le fits =
    let room : k ≤ length rest = omega arith in
    let four : k + 4 ≡ suc (suc (suc (suc k))) = omega arith in
    let one : suc (suc (suc (suc k))) + 1 ≡ suc (suc (suc (suc (suc k)))) = omega arith in
    let spelled : uint32 (k + 4) ≡ b ∷ c ∷ d ∷ e ∷ [] = ap uint32 four ∙ cells b c d e _ (λ i. head_bytes i) is in
    record {
      whole = rw one (whole_cells a b c d e rest k room spelled);
      fits = rw one (record {
        tag = bytes 0;
        payload = IsBytes-take k rest (IsBytes-drop 5 (a ∷ b ∷ c ∷ d ∷ e ∷ rest) bytes);
        fits = omega (arith, length-take k rest);
      });
      least = omega arith;
      most = omega arith;
    }
  where
    head_bytes : (i : ℕ) → get_or (b ∷ c ∷ d ∷ e ∷ []) i 0 < 256
    head_bytes zero = bytes 1
    head_bytes (suc zero) = bytes 2
    head_bytes (suc (suc zero)) = bytes 3
    head_bytes (suc (suc (suc zero))) = bytes 4
    head_bytes (suc (suc (suc (suc i)))) = omega arith
cut old n bytes small is le fits = absurd (omega arith)

-- the front that was found, whatever its parts are called
pub found : (old : List ℕ) (n tag total : ℕ) → IsFront (front_of old n) old → tag ≡ get_or old 0 0 → total ≡ n + 1 → IsFront (record { tag = tag; total = total }) old
found old n tag total front t e = rw (t, e) front
