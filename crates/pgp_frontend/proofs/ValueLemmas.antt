-- The values that were made have no cause, and the one after them may.
use Rattle.pgp_frontend.proofs.Common.{◌≡◌, ℕ, ◌<◌, List, [], ◌∷◌, ◌++◌, Result, Option, Some, None, refl, sym, ap, ◌∙◌, map, take, length, length-append, arith, inl, inr, MutBor, subst, flat_map, map-append, take_all, take_at, nullable, uint16, uint32, counted_wants, first, nullable_cause, count_cause, Gives, Runs, Yielded, ValueRefused, either_none, either_first, either_then, first_here, count_fits, count_past, Puts-at, Runs-length, Held, ◌⊕◌, Error, TooLarge, BindError, Conversion, Serialization, IsNull, Serves, part_cause, Values, ValuesRefused, length-int32}
use Rattle.std.specs.Prelude.{negsuc}

module _ {F T E B K : Type 0} (held : B → Held K) (step : F → T → MutBor B → Result IsNull E → MutBor B → F → Type 0) where
  -- each value that was made fits its field
  pub Runs-fit : (here : Held K) (f : F) (xs : List T) (vs : List (Option (List ℕ))) (t : F) → Runs (Gives held step) nullable here f xs vs t → first (map nullable_cause vs) ≡ None
  Runs-fit here f [] [] t r = refl
  Runs-fit here f [] (v ∷ vs) t r = absurd r
  Runs-fit here f (x ∷ xs) [] t r = absurd r
  Runs-fit here f (x ∷ xs) (v ∷ vs) t r = either_none (nullable_cause v) (first (map nullable_cause vs)) r.1.fits (Runs-fit (here ⊕ nullable v) r.0 xs vs t r.2)

-- as many as the count's field can hold
pub values_fit : (vs : List (Option (List ℕ))) → length vs < 65536 → first (map nullable_cause vs) ≡ None → part_cause (Values vs) ≡ None
values_fit vs n h =
    either_none (first (map nullable_cause (take 65535 vs))) (count_cause (length vs)) (ap (λ ws. first (map nullable_cause ws)) (take_all 65535 vs (omega arith)) ∙ h) (count_fits (length vs) n)

-- one more than that
pub values_past : (vs : List (Option (List ℕ))) (v : Option (List ℕ)) → length vs ≡ 65535 → first (map nullable_cause vs) ≡ None → part_cause (Values (vs ++ v ∷ [])) ≡ Some TooLarge
values_past vs v n h =
    either_then (first (map nullable_cause (take 65535 (vs ++ v ∷ [])))) (count_cause (length (vs ++ v ∷ []))) (ap (λ ws. first (map nullable_cause ws)) (take_at vs (v ∷ []) 65535 n) ∙ h)
    ∙ count_past (length (vs ++ v ∷ [])) (omega (arith, length-append vs (v ∷ [])))

-- a value that is too long after those that fit
pub values_long : (vs : List (Option (List ℕ))) (v : Option (List ℕ)) (e : Error) → length vs < 65535 → first (map nullable_cause vs) ≡ None → nullable_cause v ≡ Some e → part_cause (Values (vs ++ v ∷ [])) ≡ Some e
values_long vs v e n h k =
    let all = take_all 65535 (vs ++ v ∷ []) (omega (arith, length-append vs (v ∷ []))) in
    either_first (first (map nullable_cause (take 65535 (vs ++ v ∷ [])))) (count_cause (length (vs ++ v ∷ []))) e
    (ap (λ ws. first (map nullable_cause ws)) all ∙ (ap first (map-append nullable_cause vs (v ∷ [])) ∙ first_here (map nullable_cause vs) (nullable_cause v) [] e h k))

module _ {F T E B K : Type 0} (held : B → Held K) (step : F → T → MutBor B → Result IsNull E → MutBor B → F → Type 0) {U S : Type 0} (into_iter_gives : U → S → Type 0) (next_gives : S → Option T → S → Type 0) (source : U) (f : F) (here old : Held K) (at_count : here ≡ old ⊕ uint16 0) (lacks : Held K → ℕ → Type 0) where
  -- a value that was rejected after those that were made
  pub value_stops : (xs : List T) (x : T) (vs : List (Option (List ℕ))) (at u : F) (b : Held K) (e : BindError E)
      → Yielded into_iter_gives next_gives source xs (Some x) → Runs (Gives held step) nullable here f xs vs at → length xs < 65535 → b ≡ here ⊕ flat_map nullable vs
      → ValueRefused held step lacks b at x e u → ValuesRefused (Yielded into_iter_gives next_gives source) (Serves held step f u) here lacks old e
  value_stops xs x vs at u b (Conversion e) received runs few h r =
      record { xs = xs; x = x; received = received; few = few; before = vs; bytes = r.0; made = (at, runs, Puts-at _ _ (ap (λ b. b ⊕ uint32 0) h) r.1) }
  value_stops xs x vs at u b (Serialization e) received runs few h r =
      let n = Runs-length (Gives held step) nullable here f xs vs at runs in
      let few' : length vs < 65535 = omega (arith, n) in
      let made = Runs-fit held step here f xs vs at runs in
      let none = values_fit vs (omega arith) made in
      elim r [
        | inl memory ↦
            let runs' : Runs (Gives held step) nullable here f xs vs u = subst (λ (t : F). Runs (Gives held step) nullable here f xs vs t) (sym memory.1) runs in
            inr (
              vs ++ None ∷ [],
              record { xs = xs; x = x; received = received; before = vs; none = none; value = None; are = refl; made = inl (runs', refl) },
              inl (memory.0.0, counted_wants nullable vs None old b 4 (h ∙ ap (λ k. k ⊕ flat_map nullable vs) at_count) (omega (arith, length-int32 (negsuc 0))) memory.0.1),
            )
        | inr long ↦ inr (
          vs ++ Some long.0 ∷ [],
          record { xs = xs; x = x; received = received; before = vs; none = none; value = Some long.0; are = refl; made = inr (few, (long.0, (at, runs, Puts-at _ _ (ap (λ b. b ⊕ uint32 0) h) long.1), refl)) },
          inr (values_long vs (Some long.0) e few' made long.2),
        )
      ]

  -- an item past the count's field
  pub count_stops : (xs : List T) (x : T) (vs : List (Option (List ℕ))) (at : F) → Yielded into_iter_gives next_gives source xs (Some x) → Runs (Gives held step) nullable here f xs vs at → length xs ≡ 65535
      → (let e : BindError E = Serialization TooLarge in ValuesRefused (Yielded into_iter_gives next_gives source) (Serves held step f at) here lacks old e)
  count_stops xs x vs at received runs n =
      let k = Runs-length (Gives held step) nullable here f xs vs at runs in
      let full : length vs ≡ 65535 = sym k ∙ n in
      let made = Runs-fit held step here f xs vs at runs in
      inr (
        vs ++ None ∷ [],
        record { xs = xs; x = x; received = received; before = vs; none = values_fit vs (omega arith) made; value = None; are = refl; made = inl (runs, refl) },
        inr (values_past vs None full made),
      )
