-- What the writer of an array leaves.
use Rattle.pgp_types.proofs.Common.{◌≡◌, ℕ, ◌+◌, ◌≤◌, Bool, true, false, List, [], ◌∷◌, ◌++◌, map, length, Result, Option, Some, None, MutBor, refl, sym, ap, subst, ◌∙◌, arith, length-append, ◌*◌, w32, cast_unsigned, from_bool, flat_map, IsNull, Yes, No, BindError, uint32, int32, oid, nullable, first, length_cause, nullable_cause, Held, ◌⊕◌, overwritten, null_of, Gives, Runs, ValueRefused, either_none, more_twice, more_bytes, int32_spelled, length-uint32, sized4, filled4, ArrayDimension, Array, has_null, flag_of, dimension_bytes, array_bytes, array_cause, length-int32}
use Rattle.pgp_types.specs.ArrayWriting.{before_elements, Made, MadeUpTo}

pub dimension_put : {K : Type 0} (a b d : Held K) (x : ArrayDimension) → b ≡ a ⊕ uint32 (cast_unsigned w32 x.len) → d ≡ b ⊕ uint32 (cast_unsigned w32 x.lower_bound)
    → d ≡ a ⊕ dimension_bytes x
dimension_put a b d x e f = rw (f, e, int32_spelled x.len, int32_spelled x.lower_bound) (more_twice a (uint32 (cast_unsigned w32 x.len)) (uint32 (cast_unsigned w32 x.lower_bound)))

-- one element more
pub null_then : (vs : List (Option (List ℕ))) (v : Option (List ℕ)) → Yes ≡ null_of v → true ≡ has_null (vs ++ v ∷ [])
null_then [] None e = refl
null_then [] (Some w) e = absurd cc
null_then (None ∷ vs) v e = refl
null_then (Some w ∷ vs) v e = null_then vs v e

pub value_then : (vs : List (Option (List ℕ))) (v : Option (List ℕ)) → No ≡ null_of v → has_null vs ≡ has_null (vs ++ v ∷ [])
value_then [] None e = absurd cc
value_then [] (Some w) e = refl
value_then (None ∷ vs) v e = refl
value_then (Some w ∷ vs) v e = value_then vs v e

-- an element that was rejected after those that were made
pub value_stops : {F T E B K : Type 0} (held : B → Held K) (step : F → T → MutBor B → Result IsNull E → MutBor B → F → Type 0) (given : List T → Option T → Type 0) (f : F) (here : Held K) (lacks : Held K → ℕ → Type 0)
    (xs : List T) (x : T) (vs : List (Option (List ℕ))) (at u : F) (b : Held K) (e : BindError E)
    → given xs (Some x) → Runs (Gives held step) nullable here f xs vs at → b ≡ here ⊕ flat_map nullable vs
    → ValueRefused held step lacks b at x e u → MadeUpTo held step given f u here lacks e
value_stops {K = K} held step given f here lacks xs x vs at u b e received runs h r =
    record { xs = xs; x = x; received = received; made = vs; at = at; runs = runs; refused = subst (λ (b : Held K). ValueRefused held step lacks b at x e u) h r }

module _ {F T E B K : Type 0} (held : B → Held K) (step : F → T → MutBor B → Result IsNull E → MutBor B → F → Type 0) (given : List T → Option T → Type 0) (f last : F) where
  -- the same, before which a buffer held the same
  pub stops_at : (here there : Held K) (lacks : Held K → ℕ → Type 0) (e : BindError E) → here ≡ there → MadeUpTo held step given f last here lacks e → MadeUpTo held step given f last there lacks e
  stops_at here there lacks e h r = subst (λ (here : Held K). MadeUpTo held step given f last here lacks e) h r

  pub made_at : (here there : Held K) (vs : List (Option (List ℕ))) → here ≡ there → Made held step given f last here vs → Made held step given f last there vs
  made_at here there vs h r = subst (λ (here : Held K). Made held step given f last here vs) h r

-- each element that was made fits its field
pub Runs-fit : {F T E B K : Type 0} (held : B → Held K) (step : F → T → MutBor B → Result IsNull E → MutBor B → F → Type 0) (here : Held K) (f : F) (xs : List T) (vs : List (Option (List ℕ))) (t : F) → Runs (Gives held step) nullable here f xs vs t → first (map nullable_cause vs) ≡ None
Runs-fit held step here f [] [] t r = refl
Runs-fit held step here f [] (v ∷ vs) t r = absurd r
Runs-fit held step here f (x ∷ xs) [] t r = absurd r
Runs-fit held step here f (x ∷ xs) (v ∷ vs) t r = either_none (nullable_cause v) (first (map nullable_cause vs)) r.1.fits (Runs-fit held step (here ⊕ nullable v) r.0 xs vs t r.2)

module _ {K : Type 0} where
  three_more : (h : Held K) (x y z : List ℕ) → h ⊕ x ⊕ y ⊕ z ≡ h ⊕ (x ++ y ++ z)
  three_more h x y z = ap (λ a. a ⊕ z) (more_twice h x y) ∙ more_twice h (x ++ y) z

  -- a part after a place of four bytes
  placed : (a b d : Held K) (p q r : List ℕ) → b ≡ a ⊕ uint32 0 → d ≡ b ⊕ p ⊕ q ⊕ r → d ≡ b ⊕ (p ++ q ++ r)
  placed a b d p q r e f = f ∙ three_more b p q r

  -- the head, whose count is filled in at last
  module _ (a b1 b2 b3 b4 : Held K) (ds : List ArrayDimension) (type base : ℕ)
      (at : base ≡ length a.bytes) (one : b1 ≡ a ⊕ uint32 0) (two : b2 ≡ b1 ⊕ uint32 0) (three : b3 ≡ b2 ⊕ uint32 type) (four : b4 ≡ b3 ⊕ flat_map dimension_bytes ds) where
    stands : b4 ≡ b1 ⊕ (uint32 0 ++ oid type ++ flat_map dimension_bytes ds)
    stands = (four ∙ ap (λ h. h ⊕ flat_map dimension_bytes ds) (three ∙ ap (λ h. h ⊕ uint32 type) two)) ∙ three_more b1 (uint32 0) (oid type) (flat_map dimension_bytes ds)

    pub count_room : base + 4 ≤ length b4.bytes
    count_room = omega (arith, at, sized4 a (uint32 0 ++ oid type ++ flat_map dimension_bytes ds) b1 b4 one stands)

    pub head_put : (r : Held K) (n : ℕ) → n ≡ length ds → r ≡ overwritten b4 base (uint32 n) → r ≡ before_elements a ds type
    head_put r n is done =
        filled4 a (uint32 0 ++ oid type ++ flat_map dimension_bytes ds) b1 b4 r base n (length ds) one stands at is done
        ∙ sym (three_more (a ⊕ uint32 (length ds)) (uint32 0) (oid type) (flat_map dimension_bytes ds))

  -- the elements, and the flag that is filled in at last
  module _ (a b d : Held K) (x : Array) (base : ℕ) (at : base ≡ length a.bytes) (head : b ≡ before_elements a x.dimensions x.element_type) (behind : d ≡ b ⊕ flat_map nullable x.elements) where
    abbrev counted_head : Held K
    counted_head = a ⊕ uint32 (length x.dimensions)

    abbrev rest : List ℕ
    rest = oid x.element_type ++ flat_map dimension_bytes x.dimensions ++ flat_map nullable x.elements

    elements_stand : d ≡ counted_head ⊕ uint32 0 ⊕ rest
    elements_stand = (behind ∙ ap (λ h. h ⊕ flat_map nullable x.elements) head) ∙ three_more (counted_head ⊕ uint32 0) (oid x.element_type) (flat_map dimension_bytes x.dimensions) (flat_map nullable x.elements)

    flag_at : base + 4 ≡ length counted_head.bytes
    flag_at = omega (arith, at, ap (λ l. length l) (more_bytes a (uint32 (length x.dimensions))), length-append a.bytes (uint32 (length x.dimensions)), length-uint32 (length x.dimensions))

    pub flag_room : base + 4 + 4 ≤ length d.bytes
    flag_room = omega (arith, flag_at, sized4 counted_head rest (counted_head ⊕ uint32 0) d refl elements_stand)

    pub array_put : (r : Held K) (n : ℕ) → n ≡ flag_of (has_null x.elements) → r ≡ overwritten d (base + 4) (uint32 n) → r ≡ a ⊕ array_bytes x
    array_put r n is done =
        let f = flag_of (has_null x.elements) in
        let c : List ℕ = uint32 (length x.dimensions) in
        let o : List ℕ = oid x.element_type in
        let ds : List ℕ = flat_map dimension_bytes x.dimensions in
        let es : List ℕ = flat_map nullable x.elements in
        filled4 counted_head rest (counted_head ⊕ uint32 0) d r (base + 4) n f refl elements_stand flag_at is done
        ∙ (sym (three_more (counted_head ⊕ uint32 f) o ds es)
        ∙ (ap (λ h. h ⊕ ds ⊕ es) (three_more a c (uint32 f) o)
        ∙ three_more a (c ++ uint32 f ++ o) ds es))

pub flag_is : (n : ℕ) (b c : Bool) → n ≡ from_bool b → b ≡ c → n ≡ flag_of c
flag_is n false false e h = e
flag_is n true true e h = e
flag_is n false true e h = absurd cc
flag_is n true false e h = absurd cc

-- an array whose dimensions can be counted, and whose elements were made
pub no_cause : (a : Array) → length_cause (length a.dimensions) ≡ None → first (map nullable_cause a.elements) ≡ None → array_cause a ≡ None
no_cause a h k = either_none (length_cause (length a.dimensions)) (first (map nullable_cause a.elements)) h k

-- each dimension takes eight bytes
pub dimensions_length : (ds : List ArrayDimension) → length (flat_map dimension_bytes ds) ≡ 8 * length ds
dimensions_length [] = refl
dimensions_length (d ∷ ds) = let r = dimensions_length ds in omega (arith, r, length-append (dimension_bytes d) (flat_map dimension_bytes ds), length-append (int32 d.len) (int32 d.lower_bound), length-int32 d.len, length-int32 d.lower_bound)
