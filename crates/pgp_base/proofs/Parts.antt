-- What a buffer holds after parts whose lengths and counts are filled in at last.
use Rattle.pgp_base.proofs.Common.{◌≡◌, ℕ, ◌+◌, List, [], ◌∷◌, ◌++◌, length, take, drop, Result, Ok, Err, Some, None, MutBor, refl, sym, ap, ◌∙◌, subst, append_assoc, length-append, suc, OnOk, OnErr, arith, inl, inr, ◌≤◌, true, false, append-nil, drop-drop, take-append_seam, drop-append_seam, flat_map, ℤ, IfErr, w16, w32, cast_unsigned, IsErr, IsErrAnd, uint16, uint32, int16, int32, nullable, counted, Cause, length_cause, Wants, Writes, Held, ◌⊕◌, lengthened, overwritten, Leaves, IsFrontOf, value_of, length_of, null_of, Keeps, KeepsValue, Adds, Puts, Runs, ValueRefused, once, Appends, BodyRefused, NullableRefused, Error, OutOfMemory}
use Rattle.pgp_base.specs.declared.error.BindError.TheVariants.{Serialization}
use Rattle.pgp_base.specs.declared.number.IsNull.{IsNull}
use Rattle.pgp_base.specs.declared.number.IsNull.TheVariants.{Yes, No}
use Rattle.pgp_base.specs.Held.{items_held}

pub length-uint16 : (n : ℕ) → length (uint16 n) ≡ 2
unfolding uint16
length-uint16 n = refl

pub length-uint32 : (n : ℕ) → length (uint32 n) ≡ 4
unfolding uint32
length-uint32 n = refl

-- the length of a null
pub null_spelled : uint32 4294967295 ≡ nullable None
unfolding uint32 int32
null_spelled = refl

-- Bytes after what a buffer holds.

module _ {K : Type 0} where
  pub more_bytes : (h : Held K) (p : List ℕ) → (h ⊕ p).bytes ≡ h.bytes ++ p
  unfolding lengthened
  more_bytes h p = refl

  pub bytes_more : (a b : Held K) (p : List ℕ) → b ≡ a ⊕ p → b.bytes ≡ a.bytes ++ p
  bytes_more a b p e = ap (λ h. h.bytes) e ∙ more_bytes a p

  pub more_kept : (h : Held K) (p : List ℕ) → (h ⊕ p).kept ≡ h.kept
  unfolding lengthened
  more_kept h p = refl

  -- by equal parts
  held_by : (k : K) (a b c d : List ℕ) → a ≡ b → c ≡ d → (let x : Held K = record { bytes = a; behind = c; kept = k } in let y : Held K = record { bytes = b; behind = d; kept = k } in x ≡ y)
  held_by k a b c d e f = rw (e, f) refl

  pub nothing_more : (h : Held K) → h ⊕ [] ≡ h
  unfolding lengthened
  nothing_more h = held_by h.kept (h.bytes ++ []) h.bytes (drop 0 h.behind) h.behind (append-nil h.bytes) refl

  pub more_twice : (h : Held K) (p q : List ℕ) → h ⊕ p ⊕ q ≡ h ⊕ (p ++ q)
  unfolding lengthened
  more_twice h p q = held_by h.kept (h.bytes ++ p ++ q) (h.bytes ++ (p ++ q)) (drop (length q) (drop (length p) h.behind)) (drop (length (p ++ q)) h.behind) (append_assoc h.bytes p q) (drop-drop (length q) (length p) h.behind ∙ ap (λ n. drop n h.behind) (sym (length-append p q)))

-- the same of memory of its own
pub lengthened_by : (old new z : List ℕ) → items_held new ≡ items_held old ⊕ z → new ≡ old ++ z
lengthened_by old new z e = bytes_more (items_held old) (items_held new) z e

-- a number written over the part z
patched : (a z n p : List ℕ) (k m : ℕ) → k ≡ length a → m ≡ k + length z → take k (a ++ z ++ p) ++ n ++ drop m (a ++ z ++ p) ≡ a ++ n ++ p
patched a z n p k m e d =
    let t : take k (a ++ z ++ p) ≡ a = rw (e, append_assoc a z p) (take-append_seam a (z ++ p)) in
    let u : m ≡ length (a ++ z) = omega (arith, length-append a z) in
    let v : drop m (a ++ z ++ p) ≡ p = rw u (drop-append_seam (a ++ z) p) in
    rw (t, v) refl

module _ {K : Type 0} where
  -- the same in a buffer
  patched_held : (a : Held K) (z n p : List ℕ) (k : ℕ) → k ≡ length a.bytes → length z ≡ length n → overwritten (a ⊕ z ⊕ p) k n ≡ a ⊕ n ⊕ p
  unfolding lengthened overwritten
  patched_held a z n p k e l =
      held_by a.kept _ _ (drop (length p) (drop (length z) a.behind)) (drop (length p) (drop (length n) a.behind)) (patched a.bytes z n p k (k + length n) e (omega (arith, l))) (ap (λ m. drop (length p) (drop m a.behind)) l)

  -- what a buffer holds after a part, its length's place being filled at last
  filled : (a : Held K) (z n p : List ℕ) (b d : Held K) (k : ℕ) → b ≡ a ⊕ z → d ≡ b ⊕ p → k ≡ length a.bytes → length z ≡ length n → overwritten d k n ≡ a ⊕ n ⊕ p
  filled a z n p b d k f e h l = rw (e, f) (patched_held a z n p k h l)

  -- the length of a buffer after two writes
  sized : (a : Held K) (z p : List ℕ) (b d : Held K) → b ≡ a ⊕ z → d ≡ b ⊕ p → length d.bytes ≡ length a.bytes + length z + length p
  sized a z p b d e f =
      let g : d.bytes ≡ a.bytes ++ z ++ p = ap (λ h. h.bytes) f ∙ (more_bytes b p ∙ ap (λ x. x ++ p) (ap (λ h. h.bytes) e ∙ more_bytes a z)) in
      ap length g ∙ (length-append (a.bytes ++ z) p ∙ ap (λ n. n + length p) (length-append a.bytes z))

  -- a part whose place of four bytes is filled with the number n at last
  pub filled4 : (a : Held K) (p : List ℕ) (b d r : Held K) (base n m : ℕ) → b ≡ a ⊕ uint32 0 → d ≡ b ⊕ p → base ≡ length a.bytes → n ≡ m → r ≡ overwritten d base (uint32 n) → r ≡ a ⊕ uint32 m ⊕ p
  filled4 a p b d r base n m e f h i j =
      (j ∙ filled a (uint32 0) (uint32 n) p b d base e f h (length-uint32 0 ∙ sym (length-uint32 n))) ∙ ap (λ k. a ⊕ uint32 k ⊕ p) i

  pub filled2 : (a : Held K) (p : List ℕ) (b d r : Held K) (base n m : ℕ) → b ≡ a ⊕ uint16 0 → d ≡ b ⊕ p → base ≡ length a.bytes → n ≡ m → r ≡ overwritten d base (uint16 n) → r ≡ a ⊕ uint16 m ⊕ p
  filled2 a p b d r base n m e f h i j =
      (j ∙ filled a (uint16 0) (uint16 n) p b d base e f h (length-uint16 0 ∙ sym (length-uint16 n))) ∙ ap (λ k. a ⊕ uint16 k ⊕ p) i

  pub sized4 : (a : Held K) (p : List ℕ) (b d : Held K) → b ≡ a ⊕ uint32 0 → d ≡ b ⊕ p → length d.bytes ≡ length a.bytes + 4 + length p
  sized4 a p b d e f = sized a (uint32 0) p b d e f ∙ ap (λ k. length a.bytes + k + length p) (length-uint32 0)

  pub sized2 : (a : Held K) (p : List ℕ) (b d : Held K) → b ≡ a ⊕ uint16 0 → d ≡ b ⊕ p → length d.bytes ≡ length a.bytes + 2 + length p
  sized2 a p b d e f = sized a (uint16 0) p b d e f ∙ ap (λ k. length a.bytes + k + length p) (length-uint16 0)

  -- the bytes from a place on
  pub rest4 : (a : Held K) (p : List ℕ) (b d : Held K) (base : ℕ) → b ≡ a ⊕ uint32 0 → d ≡ b ⊕ p → base ≡ length a.bytes → drop (base + 4) d.bytes ≡ p
  rest4 a p b d base e f h =
      let g : d.bytes ≡ a.bytes ++ uint32 0 ++ p = ap (λ h. h.bytes) f ∙ (more_bytes b p ∙ ap (λ x. x ++ p) (ap (λ h. h.bytes) e ∙ more_bytes a (uint32 0))) in
      let u : base + 4 ≡ length (a.bytes ++ uint32 0) = omega (arith, length-append a.bytes (uint32 0), length-uint32 0) in
      rw (g, u) (drop-append_seam (a.bytes ++ uint32 0) p)

  pub front_self : (a : Held K) → IsFrontOf a a
  front_self a = record { more = []; bytes = sym (append-nil a.bytes); kept = refl }

  pub front_more : (a b : Held K) (p : List ℕ) → b ≡ a ⊕ p → IsFrontOf a b
  front_more a b p e = record { more = p; bytes = ap (λ h. h.bytes) e ∙ more_bytes a p; kept = ap (λ h. h.kept) e ∙ more_kept a p }

  pub front_trans : (a b d : Held K) → IsFrontOf a b → IsFrontOf b d → IsFrontOf a d
  front_trans a b d f h = record { more = f.more ++ h.more; bytes = h.bytes ∙ (ap (λ x. x ++ h.more) f.bytes ∙ append_assoc a.bytes f.more h.more); kept = h.kept ∙ f.kept }

  -- two fronts in a row, of which the first is known by what was appended
  pub front_then : (a b d : Held K) (p : List ℕ) → b ≡ a ⊕ p → IsFrontOf b d → IsFrontOf a d
  front_then a b d p e f = front_trans a b d (front_more a b p e) f

  pub front_twice : (a b d : Held K) (p q : List ℕ) → b ≡ a ⊕ p → d ≡ b ⊕ q → IsFrontOf a d
  front_twice a b d p q e f = front_then a b d p e (front_more b d q f)

  pub front_same : (a b : Held K) → b ≡ a → IsFrontOf a b
  front_same a b e = record { more = []; bytes = ap (λ h. h.bytes) e ∙ sym (append-nil a.bytes); kept = ap (λ h. h.kept) e }

  pub front_left : (a b : Held K) → Leaves a b → IsFrontOf a b
  front_left a b e = record { more = []; bytes = e.bytes ∙ sym (append-nil a.bytes); kept = e.kept }

  -- after what was appended, a call was rejected with more bytes
  pub front_refused : (a b d : Held K) (p q : List ℕ) → b ≡ a ⊕ p → (d.bytes ≡ b.bytes ++ q) × (d.kept ≡ b.kept) → IsFrontOf a d
  front_refused a b d p q e f = front_then a b d p e (record { more = q; bytes = f.0; kept = f.1 })

  pub left_same : (a b : Held K) → b ≡ a → Leaves a b
  left_same a b e = record { bytes = ap (λ h. h.bytes) e; kept = ap (λ h. h.kept) e }

  pub left_then : (a b d : Held K) → b ≡ a → Leaves b d → Leaves a d
  left_then a b d e f = record { bytes = f.bytes ∙ ap (λ h. h.bytes) e; kept = f.kept ∙ ap (λ h. h.kept) e }

  -- cut back to its length at entry, a buffer holds the bytes that it did
  pub cut_back : (a b d : Held K) (n : ℕ) → IsFrontOf a b → n ≡ length a.bytes → d.bytes ≡ take n b.bytes → d.kept ≡ b.kept → Leaves a d
  cut_back a b d n f e h k = record { bytes = h ∙ (rw (f.bytes, e) (take-append_seam a.bytes f.more)); kept = k ∙ f.kept }

-- A growth that was refused.
module _ {K : Type 0} {lacks : Held K → ℕ → Type 0} where
  -- here
  pub wants_here : (a : Held K) (n m : ℕ) → lacks a n → n ≤ m → Wants lacks a m
  wants_here a n m l h = record { here = a; more = n; front = front_self a; within = omega (arith, h); refused = l }

  pub wants_now : (a : Held K) (n : ℕ) → lacks a n → Wants lacks a n
  wants_now a n l = wants_here a n n l (omega arith)

  -- of fewer bytes than these
  pub wants_more : (a : Held K) (n m : ℕ) → n ≤ m → Wants lacks a n → Wants lacks a m
  wants_more a n m h w = record { here = w.here; more = w.more; front = w.front; within = omega (arith, h, w.within); refused = w.refused }

  -- after what was appended
  pub wants_then : (a b : Held K) (p : List ℕ) (n m : ℕ) → b ≡ a ⊕ p → length p + n ≤ m → Wants lacks b n → Wants lacks a m
  wants_then a b p n m e h w =
      let s : length b.bytes ≡ length a.bytes + length p = ap (λ h. length h.bytes) e ∙ (ap length (more_bytes a p) ∙ length-append a.bytes p) in
      record { here = w.here; more = w.more; front = front_then a b w.here p e w.front; within = omega (arith, h, s, w.within); refused = w.refused }

  pub wants_same : (a b : Held K) (n : ℕ) → b ≡ a → Wants lacks b n → Wants lacks a n
  wants_same a b n e w = subst (λ (b : Held K). Wants lacks b n) e w

pub on_err : {T E : Type 0} (r : Result T E) (P : Type 0) → P → OnErr r P
on_err (Ok x) P p = tt
on_err (Err e) P p = p

-- a writer's error for lack of memory
pub writes_out : {K : Type 0} (r : Result (Unit {0}) Error) (p : List ℕ) (cause : Cause) (lacks : Held K → ℕ → Type 0) (old new : Held K) → IsErr r → IsErrAnd r (λ e. e ≡ OutOfMemory) → Wants lacks old (length p) → Leaves old new → Writes p cause lacks old new r
writes_out (Ok x) p cause lacks old new is h w l = let e : false ≡ true = is in cc
writes_out (Err e) p cause lacks old new is h w l = (inl (h, w), l)

-- what the call of a closure added, by its law
pub adds_of : {X E K : Type 0} (r : Result X E) (old new : Held K) → Keeps r old new → (p : List ℕ) × Adds r p old new
adds_of (Ok x) old new k = k
adds_of (Err e) old new k = (k.more, (k.bytes, k.kept))

pub value_adds_of : {E K : Type 0} (r : Result IsNull E) (old new : Held K) → KeepsValue r old new → (p : List ℕ) × Adds r p old new × (r ≡ Ok Yes → p ≡ [])
value_adds_of (Ok Yes) old new k = ([], (k ∙ sym (nothing_more old)), λ e. refl)
value_adds_of (Ok No) old new k = (k.0, k.1, λ e. cc)
value_adds_of (Err e) old new k = (k.more, (k.bytes, k.kept), λ e. cc)

-- For the law of a closure that calls a writer.

pub keeps_put : {X E K : Type 0} (r : Result X E) (old new : Held K) (p : List ℕ) → OnOk r (new ≡ old ⊕ p) → OnErr r (new ≡ old) → Keeps r old new
keeps_put (Ok x) old new p ok err = (p, ok)
keeps_put (Err e) old new p ok err = front_same old new err

pub keeps_writes : {K : Type 0} (r : Result (Unit {0}) Error) (old new : Held K) (p : List ℕ) (cause : Cause) (lacks : Held K → ℕ → Type 0) → Writes p cause lacks old new r → Keeps r old new
keeps_writes (Ok x) old new p cause lacks w = (p, w.1)
keeps_writes (Err e) old new p cause lacks w = front_left old new w.1

-- what a buffer holds after a few calls; and the laws of closures
pub ruleset held_steps = (nothing_more, more_twice, front_self, front_same, front_left, front_more, front_then, front_trans, left_same, left_then, cut_back, keeps_put, keeps_writes)

-- the spellings of one item more
pub flat_snoc : {A : Type 0} (f : A → List ℕ) (vs : List A) (v : A) → flat_map f (vs ++ v ∷ []) ≡ flat_map f vs ++ f v
flat_snoc f [] v = append-nil (f v)
flat_snoc f (w ∷ vs) v = rw (flat_snoc f vs v, append_assoc (f w) (flat_map f vs) (f v)) refl

pub more_parts : {A K : Type 0} (f : A → List ℕ) (a b d : Held K) (vs : List A) (v : A) → b ≡ a ⊕ flat_map f vs → d ≡ b ⊕ f v → d ≡ a ⊕ flat_map f (vs ++ v ∷ [])
more_parts f a b d vs v e h = rw (h, e, flat_snoc f vs v) (more_twice a (flat_map f vs) (f v))

-- a count whose place is filled at last
pub counted_up : {A K : Type 0} (part : A → List ℕ) (vs : List A) (a d r : Held K) (base n : ℕ) → d ≡ a ⊕ uint16 0 ⊕ flat_map part vs → base ≡ length a.bytes → n ≡ length vs → r ≡ overwritten d base (uint16 n) → r ≡ a ⊕ counted part vs
counted_up part vs a d r base n e h i j =
    filled2 a (flat_map part vs) (a ⊕ uint16 0) d r base n (length vs) refl e h i j ∙ more_twice a (uint16 (length vs)) (flat_map part vs)

-- one call more at the end of a run
pub Runs-snoc : {F T V K : Type 0} (makes : Held K → F → T → V → F → Type 0) (spelling : V → List ℕ) (here b : Held K) (f : F) (xs : List T) (vs : List V) (t : F) (x : T) (v : V) (u : F)
    → Runs makes spelling here f xs vs t → b ≡ here ⊕ flat_map spelling vs → makes b t x v u → Runs makes spelling here f (xs ++ x ∷ []) (vs ++ v ∷ []) u
Runs-snoc {K = K} makes spelling here b f [] [] t x v u r e m =
    let e' : b ≡ here = e ∙ nothing_more here in
    let m' : makes here t x v u = subst (λ (b : Held K). makes b t x v u) e' m in
    let m'' : makes here f x v u = subst (λ (t : _). makes here t x v u) (sym r) m' in
    (u, m'', refl)
Runs-snoc makes spelling here b f [] (w ∷ vs) t x v u r e m = absurd r
Runs-snoc makes spelling here b f (y ∷ xs) [] t x v u r e m = absurd r
Runs-snoc makes spelling here b f (y ∷ xs) (w ∷ vs) t x v u r e m =
    (r.0, r.1, Runs-snoc makes spelling (here ⊕ spelling w) b r.0 xs vs t x v u r.2 (e ∙ sym (more_twice here (spelling w) (flat_map spelling vs))) m)

pub Runs-length : {F T V K : Type 0} (makes : Held K → F → T → V → F → Type 0) (spelling : V → List ℕ) (here : Held K) (f : F) (xs : List T) (vs : List V) (t : F) → Runs makes spelling here f xs vs t → length xs ≡ length vs
Runs-length makes spelling here f [] [] t r = refl
Runs-length makes spelling here f [] (w ∷ vs) t r = absurd r
Runs-length makes spelling here f (y ∷ xs) [] t r = absurd r
Runs-length makes spelling here f (y ∷ xs) (w ∷ vs) t r = ap suc (Runs-length makes spelling (here ⊕ spelling w) r.0 xs vs t r.2)

-- the bytes of a value, after which nothing stands yet
pub none_sized : {K : Type 0} (a : Held K) (p : List ℕ) (b d : Held K) (base : ℕ) → b ≡ a ⊕ uint32 0 → d ≡ b ⊕ p → base ≡ length a.bytes → p ≡ [] → length d.bytes ≡ base + 4
none_sized a p b d base e f h i = omega (arith, sized4 a p b d e f, ap length i)

-- a value whose length's place is filled at last
pub valued : {K : Type 0} (null : IsNull) (a : Held K) (p : List ℕ) (b d r : Held K) (base : ℕ) → b ≡ a ⊕ uint32 0 → d ≡ b ⊕ p → base ≡ length a.bytes → (null ≡ Yes → p ≡ []) → r ≡ overwritten d base (length_of null (drop (base + 4) d.bytes)) → r ≡ a ⊕ nullable (value_of null p)
valued Yes a p b d r base e f h none i =
    i ∙ (filled a (uint32 0) (uint32 4294967295) p b d base e f h (length-uint32 0 ∙ sym (length-uint32 4294967295))
    ∙ (ap (λ p. a ⊕ uint32 4294967295 ⊕ p) (none refl) ∙ (nothing_more (a ⊕ uint32 4294967295) ∙ ap (λ x. a ⊕ x) null_spelled)))
valued No a p b d r base e f h none i =
    i ∙ (filled a (uint32 0) (uint32 (length (drop (base + 4) d.bytes))) p b d base e f h (length-uint32 0 ∙ sym (length-uint32 (length (drop (base + 4) d.bytes))))
    ∙ (ap (λ (q : List ℕ). a ⊕ uint32 (length q) ⊕ p) (rest4 a p b d base e f h) ∙ more_twice a (uint32 (length p)) p))

pub none_ok : {E : Type 0} (p : List ℕ) (null : IsNull) → (let k : Result IsNull E = Ok null in k ≡ Ok Yes → p ≡ []) → null ≡ Yes → p ≡ []
none_ok {E} p null h e = h (ap (λ (n : IsNull). let k : Result IsNull E = Ok n in k) e)

-- the answer is what the value shows
pub null_again : (null : IsNull) (bytes : List ℕ) → null ≡ null_of (value_of null bytes)
null_again Yes bytes = refl
null_again No bytes = refl

-- a value whose bytes pass the length's field is rejected
pub value_refused : {F T E B K : Type 0} (held : B → Held K) (step : F → T → MutBor B → Result IsNull E → MutBor B → F → Type 0) (lacks : Held K → ℕ → Type 0) (here b : Held K) (f : F) (x : T) (u : F) (e : Error) (null : IsNull) (p q : List ℕ)
    → null ≡ No → q ≡ p → length_cause (length q) ≡ Some e → b ≡ here ⊕ uint32 0 → Puts held step b f x (Ok null) p u → ValueRefused held step lacks here f x (Serialization e) u
value_refused {K = K} held step lacks here b f x u e null p q n s c h put =
    let put' : Puts held step b f x (Ok No) p u = subst (λ (n : IsNull). Puts held step b f x (Ok n) p u) n put in
    let put'' : Puts held step (here ⊕ uint32 0) f x (Ok No) p u = subst (λ (b : Held K). Puts held step b f x (Ok No) p u) h put' in
    inr (p, put'', subst (λ (q : List ℕ). length_cause (length q) ≡ Some e) s c)

-- the same of a value that is made once
pub nullable_refused : {F E B K : Type 0} (held : B → Held K) (post : F → MutBor B → Result IsNull E → MutBor B → Type 0) (lacks : Held K → ℕ → Type 0) (old b : Held K) (f : F) (e : Error) (null : IsNull) (p q : List ℕ)
    → null ≡ No → q ≡ p → length_cause (length q) ≡ Some e → b ≡ old ⊕ uint32 0 → Appends held post b f (Ok null) p → NullableRefused held post lacks f old (Serialization e)
nullable_refused held post lacks old b f e null p q n s c h put = value_refused held (once post) lacks old b f tt f e null p q n s c h put

-- a body whose bytes pass the length's field is rejected
pub body_refused : {F E B K : Type 0} (held : B → Held K) (post : F → MutBor B → Result (Unit {0}) E → MutBor B → Type 0) (lacks : Held K → ℕ → Type 0) (old b : Held K) (f : F) (e : Error) (p : List ℕ) (n : ℕ)
    → n ≡ length p + 4 → length_cause n ≡ Some e → b ≡ old ⊕ uint32 0 → Appends held post b f (Ok tt) p → BodyRefused held post lacks f old (Serialization e)
body_refused {K = K} held post lacks old b f e p n k c h put =
    let put' : Appends held post (old ⊕ uint32 0) f (Ok tt) p = subst (λ (b : Held K). Appends held post b f (Ok tt) p) h put in
    inr (p, put', subst (λ (n : ℕ). length_cause n ≡ Some e) k c)

-- what a buffer held at a call, by an equal
module _ {F T X E B K : Type 0} {held : B → Held K} {step : F → T → MutBor B → Result X E → MutBor B → F → Type 0} where
  pub Puts-at : (b here : Held K) {f : F} {x : T} {r : Result X E} {p : List ℕ} {u : F} → b ≡ here → Puts held step b f x r p u → Puts held step here f x r p u
  Puts-at b here {f} {x} {r} {p} {u} e put = subst (λ (b : Held K). Puts held step b f x r p u) e put

module _ {F X E B K : Type 0} {held : B → Held K} {post : F → MutBor B → Result X E → MutBor B → Type 0} where
  pub Appends-at : (b here : Held K) {f : F} {r : Result X E} {p : List ℕ} → b ≡ here → Appends held post b f r p → Appends held post here f r p
  Appends-at b here {f} {r} {p} e put = subst (λ (b : Held K). Appends held post b f r p) e put

-- what holds of the error holds of the result
pub if_err_at : {T E : Type 0} (r : Result T E) (x : E) (P : E → Type 0) → IsErrAnd r (λ e. e ≡ x) → P x → IfErr r P
if_err_at (Ok y) x P h p = tt
if_err_at (Err e) x P h p = subst P (sym h) p

-- a number with a sign, by its number without
pub int16_spelled : (z : ℤ) → int16 z ≡ uint16 (cast_unsigned w16 z)
unfolding int16 uint16
int16_spelled z = refl

pub int32_spelled : (z : ℤ) → int32 z ≡ uint32 (cast_unsigned w32 z)
unfolding int32 uint32
int32_spelled z = refl

pub length-int32 : (z : ℤ) → length (int32 z) ≡ 4
length-int32 z = ap length (int32_spelled z) ∙ length-uint32 _
