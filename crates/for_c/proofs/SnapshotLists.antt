-- A snapshot of the transactions that an iterator over a list gave.
use Rattle.for_c.proofs.Common.{◌≡◌, ℕ, ◌+◌, ◌*◌, ◌≤◌, List, [], ◌∷◌, ◌++◌, length, Option, None, Some, OnOk, Result, Ok, Err, refl, sym, ap, subst, ◌∙◌, inl, inr, arith, length-append, IfErr, flat_map, cases_lt, SoFar, length_cause, Wants, WantsMemory, Held, ◌⊕◌, uint32, uint64, Error, length_fits, length_past, length-uint32, wants_more, bounds_bytes, snapshot, snapshot_of}
use Rattle.std.specs.Prelude.{◌⊎◌, option_to_list}
use Rattle.pgp_types.specs.Given.{WritesAll}
use Rattle.for_c.proofs.PointLists.{length-uint64}

ids_length : (xs : List ℕ) → length (flat_map uint64 xs) ≡ 8 * length xs
ids_length [] = refl
ids_length (x ∷ xs) = omega (arith, length-append (uint64 x) (flat_map uint64 xs), length-uint64 x, ids_length xs)

-- what is too long for the field stays so
still_long : (n m : ℕ) (e : Error) → n ≤ m → length_cause n ≡ Some e → length_cause m ≡ Some e
still_long n m e le is = elim (cases_lt 2147483647 n) [
  | inl long ↦ length_past m (omega (arith, long, le)) ∙ (sym (length_past n (omega (arith, long))) ∙ is)
  | inr few ↦ absurd (let none : length_cause n ≡ None = length_fits n (omega (arith, few)) in let e = sym none ∙ is in cc)
]

module _ (xmin xmax : ℕ) (all : List ℕ) (given : List ℕ → Option ℕ → Type 0) (whole : (xs : List ℕ) → given xs None → xs ≡ all) (front : (xs : List ℕ) (x : ℕ) → given xs (Some x) → (more : List ℕ) × (all ≡ xs ++ x ∷ more)) where
  abbrev spelling : List ℕ → List ℕ
  spelling xs = snapshot.written (snapshot_of xmin xmax xs)

  size : (xs : List ℕ) → length (spelling xs) ≡ 20 + 8 * length xs
  size xs =
      omega (arith, length-append (uint32 (length xs)) (bounds_bytes xmin xmax ++ flat_map uint64 xs), length-append (bounds_bytes xmin xmax) (flat_map uint64 xs), length-append (uint64 xmin) (uint64 xmax), length-uint32 (length xs), length-uint64 xmin, length-uint64 xmax, ids_length xs)

  front_few : (xs : List ℕ) (x : ℕ) → given xs (Some x) → length (xs ++ x ∷ []) ≤ length all
  front_few xs x came = let k = front xs x came in omega (arith, ap length k.1, length-append xs (x ∷ []), length-append xs (x ∷ k.0))

  asked_few : (before : List ℕ) (next : Option ℕ) (xs : List ℕ) → given before next → xs ≡ before ++ option_to_list next → length xs ≤ length all
  asked_few before None xs came are = omega (arith, ap length are, ap length (whole before came), length-append before [])
  asked_few before (Some x) xs came are = omega (arith, ap length are, front_few before x came)

  few : (xs : List ℕ) → SoFar given xs → length xs ≤ length all
  few xs (inl none) = omega (arith, ap length none)
  few xs (inr asked) = asked_few asked.before asked.next xs asked.received asked.are

  pub wrote_all : {K : Type 0} (lacks : Held K → ℕ → Type 0) (old new : Held K) (r : Result (Unit {0}) Error) → WritesAll given snapshot (snapshot_of xmin xmax) lacks old r new
      → OnOk r ((snapshot.cause (snapshot_of xmin xmax all) ≡ None) × (new ≡ old ⊕ spelling all))
  wrote_all lacks old new (Ok done) w = subst (λ xs. (snapshot.cause (snapshot_of xmin xmax xs) ≡ None) × (new ≡ old ⊕ spelling xs)) (whole w.items w.all) (w.fits, w.appended)
  wrote_all lacks old new (Err e) w = tt

  pub why_none : {K : Type 0} (lacks : Held K → ℕ → Type 0) (old new : Held K) (r : Result (Unit {0}) Error) → WritesAll given snapshot (snapshot_of xmin xmax) lacks old r new
      → IfErr r (λ e. WantsMemory (Wants lacks old (length (spelling all))) e ⊎ (snapshot.cause (snapshot_of xmin xmax all) ≡ Some e))
  why_none lacks old new (Ok done) w = tt
  why_none lacks old new (Err e) w =
      elim w.0 [
        | inl m ↦ let xs = m.1.0 in inl (m.0, wants_more old (length (spelling xs)) _ (omega (arith, size xs, size all, few xs m.1.1)) m.1.2)
        | inr s ↦ inr (still_long _ _ e (front_few s.before s.last s.reached) s.passes)
      ]
