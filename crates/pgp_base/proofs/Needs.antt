-- How many bytes parts take, and growths that were refused on the way.
use Rattle.pgp_base.proofs.Common.{◌≡◌, ◌⊎◌, ℕ, ◌+◌, ◌≤◌, ◌<◌, List, [], ◌∷◌, ◌++◌, length, Option, Some, None, Result, Ok, Err, ap, ◌∙◌, arith, inl, inr, length-append, true, false, IfErr, negsuc, w32, cast_unsigned, flat_map, IsErr, IsErrAnd, GName, append-nil, uint16, uint32, nullable, counted, Cause, Wants, WantsMemory, Writes, Held, ◌⊕◌, Leaves, window_lacks, Error}
use Rattle.std.proofs.lemmas.List.Concat.{flat_map-append}
use Rattle.pgp_base.proofs.Parts.{length-uint16, length-uint32, int32_spelled, wants_more, wants_then, wants_same, more_twice}

-- Lengths.

pub sized_length : (z : List ℕ) → length (nullable (Some z)) ≡ length z + 4
sized_length z = omega (arith, length-append (uint32 (length z)) z, length-uint32 (length z))

pub flat_more : {A : Type 0} (f : A → List ℕ) (xs : List A) (x : A) → length (flat_map f (xs ++ x ∷ [])) ≡ length (flat_map f xs) + length (f x)
flat_more f xs x = ap length (flat_map-append f xs (x ∷ [])) ∙ (length-append (flat_map f xs) (f x ++ []) ∙ ap (λ z. length (flat_map f xs) + length z) (append-nil (f x)))

pub counted_length : {A : Type 0} (f : A → List ℕ) (xs : List A) → length (counted f xs) ≡ length (flat_map f xs) + 2
counted_length f xs = omega (arith, length-append (uint16 (length xs)) (flat_map f xs), length-uint16 (length xs))

-- a value takes four bytes at least
pub nullable_least : (v : Option (List ℕ)) → 4 ≤ length (nullable v)
nullable_least None = omega (arith, ap length (int32_spelled (negsuc 0)), length-uint32 (cast_unsigned w32 (negsuc 0)))
nullable_least (Some z) = omega (arith, sized_length z)

-- Errors.

pub if_err_map : {T E : Type 0} (r : Result T E) (P Q : E → Type 0) → ((e : E) → P e → Q e) → IfErr r P → IfErr r Q
if_err_map (Ok x) P Q f p = tt
if_err_map (Err e) P Q f p = f e p

module _ {K : Type 0} {lacks : Held K → ℕ → Type 0} where
  pub memory_more : (a : Held K) (n m : ℕ) (e : Error) → n ≤ m → WantsMemory (Wants lacks a n) e → WantsMemory (Wants lacks a m) e
  memory_more a n m e h w = (w.0, wants_more a n m h w.1)

  pub memory_then : (a b : Held K) (p : List ℕ) (n m : ℕ) (e : Error) → b ≡ a ⊕ p → length p + n ≤ m → WantsMemory (Wants lacks b n) e → WantsMemory (Wants lacks a m) e
  memory_then a b p n m e h k w = (w.0, wants_then a b p n m h k w.1)

  -- the same, of a buffer that holds the same
  pub refused_same : (a b : Held K) (n : ℕ) (e : Error) (C : Type 0) → b ≡ a → WantsMemory (Wants lacks b n) e ⊎ C → WantsMemory (Wants lacks a n) e ⊎ C
  refused_same a b n e C h (inl m) = inl (m.0, wants_same a b n h m.1)
  refused_same a b n e C h (inr c) = inr c

  pub refused_then : (a b : Held K) (p : List ℕ) (n m : ℕ) (e : Error) (C : Type 0) → b ≡ a ⊕ p → length p + n ≤ m → WantsMemory (Wants lacks b n) e ⊎ C → WantsMemory (Wants lacks a m) e ⊎ C
  refused_then a b p n m e C h k (inl w) = inl (memory_then a b p n m e h k w)
  refused_then a b p n m e C h k (inr c) = inr c

  -- a writer hands on an error for lack of memory
  pub writes_memory : (r : Result (Unit {0}) Error) (x : Error) (p : List ℕ) (cause : Cause) (old new : Held K) → IsErr r → IsErrAnd r (λ e. e ≡ x) → WantsMemory (Wants lacks old (length p)) x → Leaves old new → Writes p cause lacks old new r
  writes_memory (Ok u) x p cause old new is h w l = let e : false ≡ true = is in cc
  writes_memory (Err e) x p cause old new is h w l = (inl (h ∙ w.0, w.1), l)

  -- after the length of bytes
  pub sized_wants : (z : List ℕ) (s : ℕ) (a b : Held K) → b ≡ a ⊕ uint32 s → Wants lacks b (length z) → Wants lacks a (length (nullable (Some z)))
  sized_wants z s a b h w = let size = sized_length z in wants_then a b (uint32 s) (length z) _ h (omega (arith, size, length-uint32 s)) w

  -- after a count's place, and the items before
  pub counted_wants : {A : Type 0} (f : A → List ℕ) (xs : List A) (x : A) (old b : Held K) (n : ℕ) → b ≡ old ⊕ uint16 0 ⊕ flat_map f xs → n ≤ length (f x) → Wants lacks b n → Wants lacks old (length (counted f (xs ++ x ∷ [])))
  counted_wants f xs x old b n h k w =
      wants_then old b (uint16 0 ++ flat_map f xs) n _ (h ∙ more_twice old (uint16 0) (flat_map f xs))
      (let c = counted_length f (xs ++ x ∷ []) in let m = flat_more f xs x in omega (arith, c, m, k, length-append (uint16 0) (flat_map f xs), length-uint16 0)) w

-- In a window a growth that n bytes need was refused: they don't fit.
pub wants_window : (old : Held (GName × ℕ)) (n : ℕ) → Wants window_lacks old n → window_lacks old n
wants_window old n w = let same = ap (λ (k : GName × ℕ). k.1) w.front.kept in omega (arith, w.refused, w.within, same)

-- In a `BytesMut` one was, by its memory.
pub memory_lacks : {K L C : Type 0} (old : Held K) (n : ℕ) (e : Error) → WantsMemory (Wants (λ (h : Held K) (m : ℕ). L × (0 < m)) old n) e ⊎ C → WantsMemory L e ⊎ C
memory_lacks old n e (inl memory) = inl (memory.0, memory.1.refused.0)
memory_lacks old n e (inr c) = inr c
