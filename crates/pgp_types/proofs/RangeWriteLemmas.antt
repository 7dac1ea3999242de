-- What the writer of a range leaves.
use Rattle.pgp_types.proofs.Common.{◌≡◌, ◌⊎◌, ℕ, ◌+◌, ◌-◌, List, [], ◌∷◌, ◌++◌, length, take, drop, Some, None, Result, Ok, Err, MutBor, IfOk, OnOk, ◌≤◌, refl, sym, ap, subst, ◌∙◌, append_assoc, length-append, arith, inl, inr, bit_or, IfErr, append-nil, drop-drop, take-append_seam, drop-append_seam, drop-nil, Error, BindError, IsNull, Yes, No, Adds, value_of, length_of, length_cause, nullable_cause, Wants, WantsMemory, Held, ◌⊕◌, lengthened, inserted, overwritten, IsFrontOf, StaysBehind, uint32, nullable, null_spelled, nothing_more, more_bytes, nullable_least, sized_length, memory_then, RangeBound, Inclusive, Exclusive, Unbounded, Side, between, lower_bits, upper_bits, side_bit, side_bytes, side_cause, range_bytes, KeepsBound, IsNullBound, side_of, cut_of, Extends, Makes, SideStops}
use Rattle.pgp_types.specs.RangeSteps.{IsValueBehind, IsSideBehind}

on_ok_map : (r : Result (Unit {0}) Error) (P Q : Type 0) → (P → Q) → OnOk r P → OnOk r Q
on_ok_map (Ok u) P Q f p = f p
on_ok_map (Err e) P Q f p = tt

pub bound_adds_of : {E K : Type 0} (r : Result (RangeBound IsNull) E) (old new : Held K) → KeepsBound r old new → (p : List ℕ) × Adds r p old new × IfOk r (λ answer. IsNullBound answer → p ≡ [])
bound_adds_of (Ok (Inclusive Yes)) old new k = ([], (k ∙ sym (nothing_more old)), λ n. refl)
bound_adds_of (Ok (Exclusive Yes)) old new k = ([], (k ∙ sym (nothing_more old)), λ n. refl)
bound_adds_of (Ok (Inclusive No)) old new k = (k.0, k.1, λ n. absurd n)
bound_adds_of (Ok (Exclusive No)) old new k = (k.0, k.1, λ n. absurd n)
bound_adds_of (Ok Unbounded) old new k = (k.0, k.1, λ n. absurd n)
bound_adds_of (Err e) old new k = (k.more, (k.bytes, k.kept), tt)

-- Bytes put before those that end a buffer.

inserted_bytes : (a p z : List ℕ) (base : ℕ) → base ≡ length a → take base (a ++ p) ++ z ++ drop base (a ++ p) ≡ a ++ (z ++ p)
inserted_bytes a p z base h =
    let t : take base (a ++ p) ≡ a = rw h (take-append_seam a p) in
    let d : drop base (a ++ p) ≡ p = rw h (drop-append_seam a p) in
    rw (t, d) (append_assoc a z p)

same_held : {K : Type 0} (k : K) (a b c d : List ℕ) → a ≡ b → c ≡ d → (let x : Held K = record { bytes = a; behind = c; kept = k } in let y : Held K = record { bytes = b; behind = d; kept = k } in x ≡ y)
same_held k a b c d e f = rw (e, f) refl

inserted_more : {K : Type 0} (a : Held K) (p z : List ℕ) (base : ℕ) → base ≡ length a.bytes → inserted (a ⊕ p) base z ≡ a ⊕ (z ++ p)
unfolding lengthened inserted
inserted_more a p z base h =
    same_held a.kept _ _ (drop (length z) (drop (length p) a.behind)) (drop (length (z ++ p)) a.behind) (inserted_bytes a.bytes p z base h)
    (drop-drop (length z) (length p) a.behind ∙ ap (λ n. drop n a.behind) {x = length p + length z} {y = length (z ++ p)} (omega (arith, length-append z p)))

null_more : (n : ℕ) (p : List ℕ) → uint32 n ≡ uint32 4294967295 → p ≡ [] → uint32 n ++ p ≡ nullable None
null_more n p e h = rw (e, h) (append-nil (uint32 4294967295) ∙ null_spelled)

pub lengthed : {K : Type 0} (null : IsNull) (a : Held K) (p : List ℕ) (base n : ℕ) (here r : Held K) → IsValueBehind a p base null here → uint32 n ≡ length_of null p → r ≡ inserted here base (uint32 n) → r ≡ a ⊕ nullable (value_of null p)
lengthed Yes a p base n here r v e i = i ∙ (ap (λ h. inserted h base (uint32 n)) v.stands ∙ (inserted_more a p (uint32 n) base v.place ∙ ap (λ z. a ⊕ z) (null_more n p e (v.none refl))))
lengthed No a p base n here r v e i = i ∙ (ap (λ h. inserted h base (uint32 n)) v.stands ∙ (inserted_more a p (uint32 n) base v.place ∙ ap (λ z. a ⊕ (z ++ p)) e))

-- how many bytes the value has
pub value_sized : {K : Type 0} {null : IsNull} (a : Held K) (p : List ℕ) (base len : ℕ) (here : Held K) → IsValueBehind a p base null here → len ≡ length here.bytes → base + length p ≡ len
value_sized a p base len here v h =
    omega (arith, h, v.place, ap (λ (h : Held _). length h.bytes) v.stands, ap length (more_bytes a p), length-append a.bytes p)

-- a length past its field
pub length_refused : (null : IsNull) (p : List ℕ) (e : Error) (len : ℕ) → null ≡ No → length p ≡ len → length_cause len ≡ Some e → nullable_cause (value_of null p) ≡ Some e
length_refused Yes p e len n s c = cc
length_refused No p e len n s c = ap length_cause s ∙ c

value_needs : (null : IsNull) (p : List ℕ) → (null ≡ Yes → p ≡ []) → length p + 4 ≤ length (nullable (value_of null p))
value_needs Yes p n = let least = nullable_least None in omega (arith, least, ap length (n refl))
value_needs No p n = omega (arith, sized_length p)

-- no memory for the four bytes of a length
pub length_wants : {K : Type 0} {lacks : Held K → ℕ → Type 0} (null : IsNull) (a : Held K) (p : List ℕ) (base : ℕ) (here : Held K) (e : Error) → IsValueBehind a p base null here → WantsMemory (Wants lacks here 4) e → WantsMemory (Wants lacks a (length (nullable (value_of null p)))) e
length_wants null a p base here e v w = memory_then a here p 4 _ e v.stands (value_needs null p v.none) w

module _ {K : Type 0} (null : IsNull) (base len : ℕ) (here : Held K) (at : len ≡ length here.bytes) where
  pub length_put : (n : ℕ) (r : Held K) → ((p : List ℕ) → length p ≡ len - base → (uint32 n ≡ length_of null p) × (nullable_cause (value_of null p) ≡ None)) → r ≡ inserted here base (uint32 n)
      → (a : Held K) (p : List ℕ) → IsValueBehind a p base null here → (r ≡ a ⊕ nullable (value_of null p)) × (nullable_cause (value_of null p) ≡ None)
  length_put n r is i a p v =
      let size = value_sized a p base len here v at in
      let field = is p (omega (arith, size)) in
      (lengthed null a p base n here r v field.0 i, field.1)

  pub length_past : {lacks : Held K → ℕ → Type 0} (e : Error) → (null ≡ No) × (length_cause (len - base) ≡ Some e)
      → (a : Held K) (p : List ℕ) → IsValueBehind a p base null here → WantsMemory (Wants lacks a (length (nullable (value_of null p)))) e ⊎ (nullable_cause (value_of null p) ≡ Some e)
  length_past e c a p v =
      let size = value_sized a p base len here v at in
      inr (length_refused null p e (len - base) c.0 (omega (arith, size)) c.1)

pub length_lacks : {K : Type 0} (lacks : Held K → ℕ → Type 0) (r : Result (Unit {0}) Error) (null : IsNull) (base : ℕ) (here : Held K) → IfErr r (WantsMemory (Wants lacks here 4))
    → IfErr r (λ e. (a : Held K) (p : List ℕ) → IsValueBehind a p base null here → WantsMemory (Wants lacks a (length (nullable (value_of null p)))) e ⊎ (nullable_cause (value_of null p) ≡ Some e))
length_lacks lacks (Ok u) null base here w = tt
length_lacks lacks (Err e) null base here w = λ a p v. inl (length_wants null a p base here e v w)

pub length_put_all : {K : Type 0} (r : Result (Unit {0}) Error) (null : IsNull) (base len n : ℕ) (here b : Held K) → len ≡ length here.bytes → ((p : List ℕ) → length p ≡ len - base → (uint32 n ≡ length_of null p) × (nullable_cause (value_of null p) ≡ None))
    → OnOk r (b ≡ inserted here base (uint32 n)) → OnOk r ((a : Held K) (p : List ℕ) → IsValueBehind a p base null here → (b ≡ a ⊕ nullable (value_of null p)) × (nullable_cause (value_of null p) ≡ None))
length_put_all (Ok u) null base len n here b at is i = length_put null base len here at n b is i
length_put_all (Err e) null base len n here b at is i = tt

-- A side.

-- its value, of which the length was put
side_valued : {K : Type 0} (answer : RangeBound IsNull) (null : IsNull) (a : Held K) (p : List ℕ) (base : ℕ) (here : Held K) → ((answer ≡ Inclusive null) ⊎ (answer ≡ Exclusive null)) → IsSideBehind a p base answer here → IsValueBehind a p base null here
side_valued answer Yes a p base here (inl e) s = record { stands = s.stands; place = s.place; none = λ y. s.none (subst IsNullBound (sym e) tt) }
side_valued answer Yes a p base here (inr e) s = record { stands = s.stands; place = s.place; none = λ y. s.none (subst IsNullBound (sym e) tt) }
side_valued answer No a p base here is s = record { stands = s.stands; place = s.place; none = λ y. cc }

pub extends_more : {K : Type 0} (a r : Held K) (p : List ℕ) → r ≡ a ⊕ p → Extends 0 a p r
unfolding lengthened
extends_more a r p e = record { bytes = ap (λ h. h.bytes) e; behind = ap (λ h. h.behind) e ∙ ap (λ n. drop n a.behind) {x = length p} {y = length p + 0} (omega arith); kept = ap (λ h. h.kept) e }

-- bytes that are cut off again
behind_again : (p a d r : List ℕ) → d ≡ drop (length p) a → (r ≡ p ++ d) ⊎ ((d ≡ []) × (r ≡ [])) → drop (length p) r ≡ drop (length p) a
behind_again p a d r e (inl f) = rw f (drop-append_seam p d) ∙ e
behind_again p a d r e (inr f) = rw f.1 (drop-nil (length p)) ∙ (sym f.0 ∙ e)

pub cut_again : {K : Type 0} (a : Held K) (p : List ℕ) (base : ℕ) (here r : Held K) → here ≡ a ⊕ p → base ≡ length a.bytes → r.bytes ≡ take base here.bytes → StaysBehind base here r → r.kept ≡ here.kept → Extends (length p) a [] r
unfolding lengthened
cut_again a p base here r e h b s k =
    let whole : here.bytes ≡ a.bytes ++ p = ap (λ h. h.bytes) e in
    let t : take base here.bytes ≡ a.bytes = rw (whole, h) (take-append_seam a.bytes p) in
    let d : drop base here.bytes ≡ p = rw (whole, h) (drop-append_seam a.bytes p) in
    let s' : (r.behind ≡ p ++ here.behind) ⊎ ((here.behind ≡ []) × (r.behind ≡ [])) = elim s [ inl f ↦ inl (f ∙ ap (λ x. x ++ here.behind) d) | inr f ↦ inr f ] in
    record { bytes = b ∙ (t ∙ sym (append-nil a.bytes)); behind = behind_again p a.behind here.behind r.behind (ap (λ h. h.behind) e) s' ∙ ap (λ n. drop n a.behind) {x = length p} {y = 0 + length p} (omega arith); kept = k ∙ ap (λ h. h.kept) e }

pub extends_front : {K : Type 0} (n : ℕ) (a : Held K) (p : List ℕ) (r : Held K) → Extends n a p r → IsFrontOf a r
extends_front n a p r x = record { more = p; bytes = x.bytes; kept = x.kept }

extends_then : {K : Type 0} (n m : ℕ) (a : Held K) (p q : List ℕ) (b d : Held K) → Extends n a p b → Extends m b q d → Extends (n + m) a (p ++ q) d
extends_then n m a p q b d x y =
    let one : drop (n + m) d.behind ≡ drop n (drop m d.behind) = ap (λ k. drop k d.behind) {x = n + m} {y = m + n} (omega arith) ∙ sym (drop-drop n m d.behind) in
    let two : drop n (drop (length q + m) b.behind) ≡ drop (length q + m) (drop n b.behind) = drop-drop n (length q + m) b.behind ∙ (ap (λ k. drop k b.behind) {x = length q + m + n} {y = n + (length q + m)} (omega arith) ∙ sym (drop-drop (length q + m) n b.behind)) in
    let three : drop (length q + m) (drop (length p + n) a.behind) ≡ drop (length (p ++ q) + (n + m)) a.behind = drop-drop (length q + m) (length p + n) a.behind ∙ ap (λ k. drop k a.behind) {x = length p + n + (length q + m)} {y = length (p ++ q) + (n + m)} (omega (arith, length-append p q)) in
    record {
      bytes = y.bytes ∙ (ap (λ z. z ++ q) x.bytes ∙ append_assoc a.bytes p q);
      behind = one ∙ (ap (λ z. drop n z) y.behind ∙ (two ∙ (ap (λ z. drop (length q + m) z) x.behind ∙ three)));
      kept = y.kept ∙ x.kept;
    }

-- at an equal state
pub makes_at : {F E B K : Type 0} (held : B → Held K) (post : F → MutBor B → Result (RangeBound IsNull) E → MutBor B → Type 0) (b here : Held K) (f : F) (s : Side) (n : ℕ) → b ≡ here → Makes held post b f s n → Makes held post here f s n
makes_at {K = K} held post b here f s n e m = subst (λ (b : Held K). Makes held post b f s n) e m

pub extends_at : {K : Type 0} (n : ℕ) (p : List ℕ) (b here r : Held K) → b ≡ here → Extends n b p r → Extends n here p r
extends_at {K} n p b here r e x = subst (λ (b : Held K). Extends n b p r) e x

pub stops_at : {F E B K : Type 0} (held : B → Held K) (post : F → MutBor B → Result (RangeBound IsNull) E → MutBor B → Type 0) (lacks : Held K → ℕ → Type 0) (b here : Held K) (f : F) (e : BindError E) → b ≡ here → SideStops held post lacks b f e → SideStops held post lacks here f e
stops_at {K = K} held post lacks b here f e is m = subst (λ (b : Held K). SideStops held post lacks b f e) is m

-- the bits of both sides
pub tag_or : (l u : Side) → bit_or (side_bit lower_bits l) (side_bit upper_bits u) ≡ side_bit lower_bits l + side_bit upper_bits u
tag_or Unbounded Unbounded = refl
tag_or Unbounded (Inclusive w) = refl
tag_or Unbounded (Exclusive w) = refl
tag_or (Inclusive v) Unbounded = refl
tag_or (Inclusive v) (Inclusive w) = refl
tag_or (Inclusive v) (Exclusive w) = refl
tag_or (Exclusive v) Unbounded = refl
tag_or (Exclusive v) (Inclusive w) = refl
tag_or (Exclusive v) (Exclusive w) = refl

-- the bytes of both sides, after a tag that is written at last
module _ {K : Type 0} (a mid d : Held K) (n m : ℕ) (l u : Side) (first : Extends n (a ⊕ 0 ∷ []) (side_bytes l) mid) (second : Extends m mid (side_bytes u) d) where
  both : Extends (n + m) a (0 ∷ (side_bytes l ++ side_bytes u)) d
  both =
      let none : 0 + (n + m) ≡ n + m = omega arith in
      subst (λ (k : ℕ). Extends k a (0 ∷ (side_bytes l ++ side_bytes u)) d) none (extends_then 0 (n + m) a (0 ∷ []) (side_bytes l ++ side_bytes u) (a ⊕ 0 ∷ []) d (extends_more a _ (0 ∷ []) refl) (extends_then n m (a ⊕ 0 ∷ []) (side_bytes l) (side_bytes u) mid d first second))

  pub tag_room : (base : ℕ) → base ≡ length a.bytes → base + 1 ≤ length d.bytes
  tag_room base h = omega (arith, h, ap length both.bytes, length-append a.bytes (0 ∷ (side_bytes l ++ side_bytes u)))

  pub tag_written : (r : Held K) (base tag : ℕ) → base ≡ length a.bytes → tag ≡ side_bit lower_bits l + side_bit upper_bits u → r ≡ overwritten d base (tag ∷ []) → Extends (n + m) a (range_bytes (between l u)) r
  unfolding overwritten
  tag_written r base tag h t w =
      let rest : List ℕ = side_bytes l ++ side_bytes u in
      let front : take base d.bytes ≡ a.bytes = rw (both.bytes, h) (take-append_seam a.bytes (0 ∷ rest)) in
      let whole : a.bytes ++ 0 ∷ rest ≡ (a.bytes ++ (0 ∷ [])) ++ rest = sym (append_assoc a.bytes (0 ∷ []) rest) in
      let end : base + 1 ≡ length (a.bytes ++ (0 ∷ [])) = omega (arith, h, length-append a.bytes (0 ∷ [])) in
      let back : drop (base + 1) d.bytes ≡ rest = rw (both.bytes, whole, end) (drop-append_seam (a.bytes ++ (0 ∷ [])) rest) in
      let bytes : take base d.bytes ++ (tag ∷ []) ++ drop (base + 1) d.bytes ≡ a.bytes ++ (side_bit lower_bits l + side_bit upper_bits u) ∷ rest = rw (front, back, t) (append_assoc a.bytes ((side_bit lower_bits l + side_bit upper_bits u) ∷ []) rest) in
      record { bytes = ap (λ h. h.bytes) w ∙ bytes; behind = ap (λ h. drop (n + m) h.behind) w ∙ both.behind; kept = ap (λ h. h.kept) w ∙ both.kept }

pub unbounded_cut : {K : Type 0} (answer : RangeBound IsNull) (base : ℕ) (here b : Held K) → answer ≡ Unbounded → b.bytes ≡ take base here.bytes → StaysBehind base here b → b.kept ≡ here.kept
    → (a : Held K) (p : List ℕ) → IsSideBehind a p base answer here → Extends (cut_of answer p) a (side_bytes (side_of answer p)) b × (side_cause (side_of answer p) ≡ None)
unbounded_cut answer base here b is h s k a p v = subst (λ (x : RangeBound IsNull). Extends (cut_of x p) a (side_bytes (side_of x p)) b × (side_cause (side_of x p) ≡ None)) (sym is) (cut_again a p base here b v.stands v.place h s k, refl)

-- What a side comes to, by the value in it.
module _ {K : Type 0} (r : Result (Unit {0}) Error) (answer : RangeBound IsNull) (null : IsNull) (base : ℕ) (here b : Held K) where
  pub inclusive_put : answer ≡ Inclusive null → OnOk r ((a : Held K) (p : List ℕ) → IsValueBehind a p base null here → (b ≡ a ⊕ nullable (value_of null p)) × (nullable_cause (value_of null p) ≡ None))
      → OnOk r ((a : Held K) (p : List ℕ) → IsSideBehind a p base answer here → Extends (cut_of answer p) a (side_bytes (side_of answer p)) b × (side_cause (side_of answer p) ≡ None))
  inclusive_put is put = on_ok_map r _ _ (λ k. λ a p s. let v = k a p (side_valued answer null a p base here (inl is) s) in subst (λ (x : RangeBound IsNull). Extends (cut_of x p) a (side_bytes (side_of x p)) b × (side_cause (side_of x p) ≡ None)) (sym is) (extends_more a b _ v.0, v.1)) put

  pub exclusive_put : answer ≡ Exclusive null → OnOk r ((a : Held K) (p : List ℕ) → IsValueBehind a p base null here → (b ≡ a ⊕ nullable (value_of null p)) × (nullable_cause (value_of null p) ≡ None))
      → OnOk r ((a : Held K) (p : List ℕ) → IsSideBehind a p base answer here → Extends (cut_of answer p) a (side_bytes (side_of answer p)) b × (side_cause (side_of answer p) ≡ None))
  exclusive_put is put = on_ok_map r _ _ (λ k. λ a p s. let v = k a p (side_valued answer null a p base here (inr is) s) in subst (λ (x : RangeBound IsNull). Extends (cut_of x p) a (side_bytes (side_of x p)) b × (side_cause (side_of x p) ≡ None)) (sym is) (extends_more a b _ v.0, v.1)) put
