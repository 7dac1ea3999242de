-- A key as a number, and an answer about versions.
use Rattle.pgp_message.proofs.Common.{◌≡◌, ℕ, ℤ, pos, negsuc, ◌<◌, ◌≤◌, List, [], ◌∷◌, ◌++◌, length, take, drop, Option, Some, None, Ok, Err, to_z, of_z, refl, sym, ap, ◌∙◌, arith, true, length-append, w32, from_be_bytes, cast_signed, append-nil, drop_at, length-take, lt-ltb, nat_lt, to_z-of_z, int32, IsBytes, ◌>>=◌, int32_at, front_takes, Error, UnexpectedEof, InvalidCount, key_of, key_data_of, count_at, options_of, negotiation_of}
use Rattle.pgp_message.specs.Reading.{count_of}
use Rattle.pgp_message.proofs.Families.{int32_takes}

nothing : (rest : List ℕ) → length rest < 1 → rest ≡ []
nothing [] h = refl
nothing (b ∷ rest) h = absurd (omega (arith, h))

-- a number, and nothing after it
pub key_number : (bytes : List ℕ) (x : ℤ × List ℕ) → IsBytes bytes → int32_at bytes ≡ Some x → length x.1 < 1 → bytes ≡ int32 (to_z w32 (of_z w32 x.0))
key_number bytes x h read none =
    let a = int32_takes bytes x h read in
    a.parts ∙ ap (λ l. int32 x.0 ++ l) (nothing x.1 none) ∙ append-nil (int32 x.0) ∙ ap int32 (sym (to_z-of_z w32 x.0 a.fits))

options_whole : (version count : ℤ) (options : List ℕ) (n : ℕ) → Ok n ≡ count_of count → options_of version count options ≡ Ok (record { version = version; count = n; options = options })
options_whole version (pos m) options n e = let s : n ≡ m = cc in ap (λ k. Ok (record { version = version; count = k; options = options })) (sym s)
options_whole version (negsuc k) options n e = cc

options_none : (version count : ℤ) (options : List ℕ) (e : Error) → Err e ≡ count_of count → options_of version count options ≡ Err e
options_none version (pos m) options e h = cc
options_none version (negsuc k) options e h = let s : e ≡ InvalidCount = cc in ap (λ x. Err x) (sym s)

-- what stands after a number
behind : (bytes : List ℕ) (x : ℤ × List ℕ) → int32_at bytes ≡ Some x → x.1 ≡ drop 4 bytes
behind bytes x read =
    let a = front_takes 4 (λ l. cast_signed w32 (from_be_bytes w32 l)) bytes x read in
    sym (ap (λ l. drop 4 l) a.2 ∙ drop_at (take 4 bytes) x.1 4 (omega (arith, length-take 4 bytes, a.0)))

-- An answer about versions that was read so.

module _ (version : ℤ) where
  counted : (part : Option (ℤ × List ℕ)) (tail : List ℕ) (n : ℕ) → ((x : ℤ × List ℕ) → part ≡ Some x → x.1 ≡ tail) → Ok n ≡ (part >>= λ c. count_of c.0) → (part >>= λ c. options_of version c.0 c.1) ≡ Ok (record { version = version; count = n; options = tail })
  counted None tail n rest h = cc
  counted (Some x) tail n rest h = options_whole version x.0 x.1 n h ∙ ap (λ l. Ok (record { version = version; count = n; options = l })) (rest x refl)

  uncounted : (part : Option (ℤ × List ℕ)) (e : Error) → Err e ≡ (part >>= λ c. count_of c.0) → (part >>= λ c. options_of version c.0 c.1) ≡ Err e
  uncounted None e h = let s : e ≡ UnexpectedEof = cc in ap (λ x. Err x) (sym s)
  uncounted (Some x) e h = options_none version x.0 x.1 e h

module _ (bytes : List ℕ) (version : ℤ) (rest : List ℕ) (first : int32_at bytes ≡ Some (version, rest)) where
  read_so : negotiation_of bytes ≡ (int32_at (drop 4 bytes) >>= λ c. options_of version c.0 c.1)
  unfolding negotiation_of
  read_so = rw first (ap (λ l. int32_at l >>= λ c. options_of version c.0 c.1) (behind bytes (version, rest) first))

  pub negotiated : (n : ℕ) → Ok n ≡ count_at (drop 4 bytes) → Ok (record { version = version; count = n; options = drop 4 (drop 4 bytes) }) ≡ negotiation_of bytes
  unfolding count_at
  negotiated n h = sym (read_so ∙ counted version (int32_at (drop 4 bytes)) (drop 4 (drop 4 bytes)) n (behind (drop 4 bytes)) h)

  pub miscounted : (e : Error) → Err e ≡ count_at (drop 4 bytes) → Err e ≡ negotiation_of bytes
  unfolding count_at
  miscounted e h = sym (read_so ∙ uncounted version (int32_at (drop 4 bytes)) e h)

-- there is room for a count that was read
pub counted_room : (bytes : List ℕ) (n : ℕ) → Ok n ≡ count_at bytes → 4 ≤ length bytes
unfolding count_at
counted_room bytes n h = go (int32_at bytes) (λ x read. (front_takes 4 (λ l. cast_signed w32 (from_be_bytes w32 l)) bytes x read).0) h
  where
    go : (part : Option (ℤ × List ℕ)) → ((x : ℤ × List ℕ) → part ≡ Some x → 4 ≤ length bytes) → Ok n ≡ (part >>= λ c. count_of c.0) → 4 ≤ length bytes
    go None room h = cc
    go (Some x) room h = room x refl

-- ---- what is cut short

number_cut : (bytes : List ℕ) → length bytes < 4 → int32_at bytes ≡ None
number_cut bytes short = rw (lt-ltb (length bytes) 4 short) refl

-- what is left after a number
left_short : (bytes : List ℕ) (x : ℤ × List ℕ) → int32_at bytes ≡ Some x → length bytes < 8 → length x.1 < 4
left_short bytes x read short =
    let a = front_takes 4 (λ l. cast_signed w32 (from_be_bytes w32 l)) bytes x read in
    omega (arith, a.0, short, ap length a.2, length-append (take 4 bytes) x.1, length-take 4 bytes)

pub key_cut : (payload : List ℕ) → length payload < 8 → key_data_of payload ≡ Err UnexpectedEof
unfolding key_data_of
key_cut payload short = go (int32_at payload) (λ x read. lt-ltb (length x.1) 4 (left_short payload x read short))
  where
    go : (part : Option (ℤ × List ℕ)) → ((x : ℤ × List ℕ) → part ≡ Some x → nat_lt (length x.1) 4 ≡ true) → (part >>= λ id. key_of id.0 id.1) ≡ Err UnexpectedEof
    go None few = refl
    go (Some x) few = rw (few x refl) refl

pub negotiation_cut : (payload : List ℕ) → length payload < 8 → negotiation_of payload ≡ Err UnexpectedEof
unfolding negotiation_of
negotiation_cut payload short = go (int32_at payload) (λ x read. number_cut x.1 (left_short payload x read short))
  where
    go : (part : Option (ℤ × List ℕ)) → ((x : ℤ × List ℕ) → part ≡ Some x → int32_at x.1 ≡ None) → (part >>= λ v. int32_at v.1 >>= λ c. options_of v.0 c.0 c.1) ≡ Err UnexpectedEof
    go None few = refl
    go (Some x) few = rw (few x refl) refl
