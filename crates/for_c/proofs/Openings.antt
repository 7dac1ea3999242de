-- The packet of the names and values that C hands over.
use Rattle.for_c.proofs.Common.{◌≡◌, ◌⊎◌, ℕ, ◌≤◌, List, [], ◌∷◌, ◌++◌, map, length, Option, Some, None, Bor, refl, sym, ap, subst, ◌∙◌, inl, inr, arith, length-append, append_assoc, Mut, GName, Called, map_source, map_callee, Map, maps, YieldsList, YieldsList-from_map_by, flat_map, option_to_list, append-nil, map-append, flat_map-append, Yielded, first, Wants, WantsMemory, Held, window_lacks, Error, either_first, first-append, wants_more, Startup, Arrived, StartupWhole, StartupSoFar, Refused, shown_pairs, Int32, minor_of, version_code, pair, pair_cause, parts, parts_cause, bytes_of, cause, ProtocolVersion, last_cause, refused_pairs, startup_length, all_given, some_given, PgpPair, pair_of, FromItself}
use Rattle.pgp_frontend.specs.Given.{shown}

module _ (v : ProtocolVersion) (all : List (List ℕ × List ℕ)) where
  module _ (xs : List (Bor (List ℕ) × Bor (List ℕ))) (more : List (List ℕ × List ℕ)) (is : all ≡ map shown xs ++ more) where
    -- the packet of the first pairs is no longer
    longer : length (bytes_of (Startup (minor_of v) (map shown xs))) ≤ length (bytes_of (Startup (minor_of v) all))
    longer =
        let e : flat_map pair all ≡ flat_map pair (map shown xs) ++ flat_map pair more = ap (λ l. flat_map pair l) is ∙ flat_map-append pair (map shown xs) more in
        omega (arith, startup_length (minor_of v) (map shown xs), startup_length (minor_of v) all, ap length e, length-append (flat_map pair (map shown xs)) (flat_map pair more), length-append (flat_map pair (map shown xs)) (0 ∷ []), length-append (flat_map pair all) (0 ∷ []))

    -- a cause of theirs is that of the packet
    caused : (e : Error) → parts_cause (Int32 (version_code v) ∷ shown_pairs xs ∷ []) ≡ Some e → cause (Startup (minor_of v) all) ≡ Some e
    caused e h =
        let one : first (map pair_cause (map shown xs)) ≡ Some e = last_cause (first (map pair_cause (map shown xs))) e h in
        let whole : first (map pair_cause all) ≡ Some e =
        ap (λ l. first (map pair_cause l)) is ∙ ap first (map-append pair_cause (map shown xs) more) ∙ first-append (map pair_cause (map shown xs)) (map pair_cause more) ∙ either_first (first (map pair_cause (map shown xs))) (first (map pair_cause more)) e one in
        refused_pairs (first (map pair_cause all)) _ e whole

  module _ (given : List (Bor (List ℕ) × Bor (List ℕ)) → Option (Bor (List ℕ) × Bor (List ℕ)) → Type 0) (given_all : (xs : List (Bor (List ℕ) × Bor (List ℕ))) → given xs None → map shown xs ≡ all)
      (given_some : (xs : List (Bor (List ℕ) × Bor (List ℕ))) (x : Bor (List ℕ) × Bor (List ℕ)) → given xs (Some x) → (more : List (List ℕ × List ℕ)) × (all ≡ map shown xs ++ shown x ∷ more)) where
    asked : (xs before : List (Bor (List ℕ) × Bor (List ℕ))) (next : Option (Bor (List ℕ) × Bor (List ℕ))) → given before next → xs ≡ before ++ option_to_list next → (more : List (List ℕ × List ℕ)) × (all ≡ map shown xs ++ more)
    asked xs before None received are =
        let e : map shown xs ≡ all = ap (λ l. map shown l) (are ∙ append-nil before) ∙ given_all before received in
        ([], sym (append-nil (map shown xs) ∙ e))
    asked xs before (Some x) received are =
        let k = given_some before x received in
        (k.0, k.1 ∙ sym (ap (λ l. map shown l ++ k.0) are ∙ ap (λ l. l ++ k.0) (map-append shown before (x ∷ [])) ∙ append_assoc (map shown before) (shown x ∷ []) k.0))

    arrived : (xs : List (Bor (List ℕ) × Bor (List ℕ))) → Arrived given shown_pairs xs → (more : List (List ℕ × List ℕ)) × (all ≡ map shown xs ++ more)
    arrived xs (inl none) = (all, sym (ap (λ l. map shown l ++ all) none))
    arrived xs (inr a) = asked xs a.before a.next a.received a.are

    pub startup_refused : (old : Held (GName × ℕ)) (e : Error) → Refused (StartupWhole (λ text. text.now) v given) (StartupSoFar (λ text. text.now) v given) window_lacks old e → WantsMemory (Wants window_lacks old (length (bytes_of (Startup (minor_of v) all)))) e ⊎ (cause (Startup (minor_of v) all) ≡ Some e)
    startup_refused old e (inl k) =
        let xs = k.1.0 in
        let f = arrived xs k.1.1 in
        elim k.2 [
          | inl memory ↦ inl (memory.0, wants_more old _ _ (let size = ap (λ m. length (bytes_of m)) k.1.2 in let long = longer xs f.0 f.1 in omega (arith, size, long)) memory.1)
          | inr c ↦ inr (caused xs f.0 f.1 e (ap (λ m. parts_cause (parts m)) (sym k.1.2) ∙ c))
        ]
    startup_refused old e (inr r) = inr (ap (λ l. cause (Startup (minor_of v) l)) (sym (given_all r.1.0 r.1.1)) ∙ ap cause (sym r.1.2) ∙ r.3)

pub pair_is : (r : Bor (List ℕ) × Bor (List ℕ)) (p : PgpPair) → r.0.now ≡ p.name.now → r.1.now ≡ p.value.now → shown r ≡ pair_of p
pair_is r p e f = rw (e, f) refl

-- the texts that a closure makes of the names and values
module _ {S F : Type 0} (steps : S → Option (Bor PgpPair) → S → Type 0) (g : Mut F (Bor PgpPair × Unit {0}) (Bor (List ℕ) × Bor (List ℕ))) (source : Map S F) where
  module _ (all : List PgpPair) (road : YieldsList steps (λ (x : Bor PgpPair). x.now) (map_source source) all) (f : F) (callee : map_callee source ≡ f)
      (called : (x : Bor PgpPair) (r : Bor (List ℕ) × Bor (List ℕ)) (q : F) → Called g f (x, tt) r q → (q ≡ f) × (shown r ≡ pair_of x.now)) where
    roads : (it : Map S F) → FromItself source it → YieldsList (maps steps g) shown it (map pair_of all)
    roads it from = subst (λ s. YieldsList (maps steps g) shown s (map pair_of all)) (sym from) (YieldsList-from_map_by g shown pair_of road callee called)

    all_pairs : (xs : List (Bor (List ℕ) × Bor (List ℕ))) → Yielded FromItself (maps steps g) source xs None → map shown xs ≡ map pair_of all
    all_pairs xs k = all_given FromItself (maps steps g) source shown (map pair_of all) roads xs k

    some_pairs : (xs : List (Bor (List ℕ) × Bor (List ℕ))) (x : Bor (List ℕ) × Bor (List ℕ)) → Yielded FromItself (maps steps g) source xs (Some x) → (more : List (List ℕ × List ℕ)) × (map pair_of all ≡ map shown xs ++ shown x ∷ more)
    some_pairs xs x k = some_given FromItself (maps steps g) source shown (map pair_of all) roads xs x k

  pub pairs_given : (xs : List (Bor (List ℕ) × Bor (List ℕ))) → Yielded FromItself (maps steps g) source xs None → (all : List PgpPair) → YieldsList steps (λ (x : Bor PgpPair). x.now) (map_source source) all → (f : F) → map_callee source ≡ f
      → ((x : Bor PgpPair) (r : Bor (List ℕ) × Bor (List ℕ)) (q : F) → Called g f (x, tt) r q → (q ≡ f) × (shown r ≡ pair_of x.now)) → map shown xs ≡ map pair_of all
  pairs_given xs k all road f callee called = all_pairs all road f callee called xs k

  pub pairs_refused : (v : ProtocolVersion) (old : Held (GName × ℕ)) (e : Error) → Refused (StartupWhole (λ text. text.now) v (Yielded FromItself (maps steps g) source)) (StartupSoFar (λ text. text.now) v (Yielded FromItself (maps steps g) source)) window_lacks old e
      → (all : List PgpPair) → YieldsList steps (λ (x : Bor PgpPair). x.now) (map_source source) all → (f : F) → map_callee source ≡ f
      → ((x : Bor PgpPair) (r : Bor (List ℕ) × Bor (List ℕ)) (q : F) → Called g f (x, tt) r q → (q ≡ f) × (shown r ≡ pair_of x.now))
      → WantsMemory (Wants window_lacks old (length (bytes_of (Startup (minor_of v) (map pair_of all))))) e ⊎ (cause (Startup (minor_of v) (map pair_of all)) ≡ Some e)
  pairs_refused v old e r all road f callee called =
      startup_refused v (map pair_of all) (Yielded FromItself (maps steps g) source) (all_pairs all road f callee called) (some_pairs all road f callee called) old e r
