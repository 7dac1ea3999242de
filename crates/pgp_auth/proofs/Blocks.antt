-- Steps of the loops over a key's block and over two lists that are joined by xor.
use Rattle.pgp_auth.proofs.Common.{◌≡◌, ℕ, zero, suc, ◌+◌, ◌-◌, ◌<◌, ◌≤◌, List, [], ◌∷◌, ◌++◌, length, get_or, set, take, map, replicate, refl, sym, ap, ◌∙◌, arith, bit_xor, set_at, take_more, map-append, length-map, length-take-le, append_assoc, ext_get_or, take_all, length-zip2, get_or-zip2, length-chunk, get_or-chunk, get_or-put_chunk_at, put_chunk, chunk, padded, xor_bytes}

-- a block with i bytes of the key in it takes one more
pub block_step : (f : ℕ → ℕ) (k : List ℕ) (i : ℕ) → i < length k → length k ≤ 64
    → set (map f (take i k) ++ replicate (64 - i) (f 0)) i (f (get_or k i 0)) ≡ map f (take (i + 1) k) ++ replicate (64 - (i + 1)) (f 0)
block_step f k i lt le =
    let split : 64 - i ≡ suc (64 - (i + 1)) = omega arith in
    let front : length (map f (take i k)) ≡ i = length-map (take i k) f ∙ length-take-le i k (omega arith) in
    rw (split, take_more k i 0 lt, map-append f (take i k) (get_or k i 0 ∷ []), append_assoc)
    (set_at (map f (take i k)) (f 0) (replicate (64 - (i + 1)) (f 0)) (f (get_or k i 0)) i front)

map_replicate : (f : ℕ → ℕ) (n x : ℕ) → map f (replicate n x) ≡ replicate n (f x)
map_replicate f zero x = refl
map_replicate f (suc n) x = ap (λ l. f x ∷ l) (map_replicate f n x)

-- the whole key in its block
pub block_whole : (f : ℕ → ℕ) (k : List ℕ) → map f (take (length k) k) ++ replicate (64 - length k) (f 0) ≡ map f (padded k)
block_whole f k =
    rw (map-append f k (replicate (64 - length k) 0), map_replicate f (64 - length k) 0, take_all (length k) k (omega arith)) refl

-- two lists that were joined byte by byte
pub xor_from_places : (a b r : List ℕ) → length a ≡ length b → length r ≡ length a
    → ((k : ℕ) → k < length a → get_or r k 0 ≡ bit_xor (get_or a k 0) (get_or b k 0)) → r ≡ xor_bytes a b
xor_from_places a b r same len each =
    let whole : length r ≡ length (xor_bytes a b) = len ∙ sym (length-zip2 bit_xor a b same) in
    ext_get_or 0 r (xor_bytes a b) whole
    (λ k lt. let la : k < length a = omega arith in
    let lb : k < length b = omega arith in
    each k la ∙ sym (get_or-zip2 bit_xor a b k 0 0 0 la lb))

-- ---- the xor of 32 bytes

-- a place of the block that was joined
pub block_at : (xs ys : List ℕ) (at k : ℕ) → length xs ≡ length ys → at + 32 ≤ length xs → at ≤ k → k < at + 32
    → get_or (put_chunk at xs (xor_bytes (chunk at 32 xs) (chunk at 32 ys))) k 0 ≡ bit_xor (get_or xs k 0) (get_or ys k 0)
block_at xs ys at k same room low high =
    let j : ℕ = k - at in
    let k_is : k ≡ at + j = omega arith in
    let cx : length (chunk at 32 xs) ≡ 32 = length-chunk at 32 xs room in
    let cy : length (chunk at 32 ys) ≡ 32 = length-chunk at 32 ys (omega arith) in
    let whole : length (xor_bytes (chunk at 32 xs) (chunk at 32 ys)) ≡ 32 = length-zip2 bit_xor (chunk at 32 xs) (chunk at 32 ys) (cx ∙ sym cy) ∙ cx in
    let lt : j < 32 = omega arith in
    let put = get_or-put_chunk_at at xs (xor_bytes (chunk at 32 xs) (chunk at 32 ys)) j 0 (omega arith) (omega arith) in
    let joined = get_or-zip2 bit_xor (chunk at 32 xs) (chunk at 32 ys) j 0 0 0 (omega arith) (omega arith) in
    let x = get_or-chunk at 32 xs j 0 lt in
    let y = get_or-chunk at 32 ys j 0 lt in
    let all : get_or (put_chunk at xs (xor_bytes (chunk at 32 xs) (chunk at 32 ys))) (at + j) 0 ≡ bit_xor (get_or xs (at + j) 0) (get_or ys (at + j) 0) = put ∙ joined ∙ rw (x, y) refl in
    rw (← k_is) at all
