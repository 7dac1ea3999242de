-- What the writer of a range comes to in a window, by the room that is left there.
use Rattle.pgp_types.proofs.Common.{◌≡◌, ℕ, ◌+◌, [], ◌∷◌, length, Some, None, Result, Ok, Err, MutBor, refl, ap, subst, ◌∙◌, arith, inl, inr, length-append, IsNull, OutOfMemory, TooLarge, BindError, nat_le, if◌then◌else◌, Cause, length_cause, Held, ◌⊕◌, wants_window, more_bytes, more_kept, RangeBound, Inclusive, Exclusive, Unbounded, Side, side_bytes, side_cause, side_of, LowerMade, RangeStops, RangeWritten}
use Rattle.std.specs.Borrow.{GName}
use Rattle.pgp_base.specs.declared.error.BindError.TheVariants.{Serialization}
use Rattle.std.specs.Prelude.{Bool, true, false}
use Rattle.pgp_base.specs.Window.{window_lacks}
use Rattle.pgp_types.specs.RangeRoom.{LacksRange}

-- no side has lack of memory as its cause
too_large : (b : Bool) → (let c : Cause = if b then None else Some TooLarge in c ≡ Some OutOfMemory) → ⊥
too_large true e = cc
too_large false e = cc

length_no_memory : (n : ℕ) → length_cause n ≡ Some OutOfMemory → ⊥
length_no_memory n e = too_large (nat_le n 2147483647) e

side_no_memory : (s : Side) → side_cause s ≡ Some OutOfMemory → ⊥
side_no_memory Unbounded e = cc
side_no_memory (Inclusive None) e = cc
side_no_memory (Exclusive None) e = cc
side_no_memory (Inclusive (Some z)) e = length_no_memory (length z) e
side_no_memory (Exclusive (Some z)) e = length_no_memory (length z) e

same_refusal : {E : Type 0} (d e : BindError E) → (let r : Result (Unit {0}) (BindError E) = Err d in let s : Result (Unit {0}) (BindError E) = Err e in r ≡ s) → d ≡ e
same_refusal d e h = cc

-- what is lacked after more bytes
lacks_behind : (a b : Held (GName × ℕ)) (m n k : ℕ) → length b.bytes ≡ length a.bytes + m → b.kept ≡ a.kept → m + n ≡ k → window_lacks b n → window_lacks a k
lacks_behind a b m n k s e h w = let same : b.kept.1 ≡ a.kept.1 = ap (λ (k : GName × ℕ). k.1) e in omega (arith, s, h, same, w)

tag_size : (old : Held (GName × ℕ)) → length (old ⊕ 0 ∷ []).bytes ≡ length old.bytes + 1
tag_size old = ap length (more_bytes old (0 ∷ [])) ∙ length-append old.bytes (0 ∷ [])

module _ {F G E B : Type 0} (held : B → Held (GName × ℕ)) (post_f : F → MutBor B → Result (RangeBound IsNull) E → MutBor B → Type 0) (post_g : G → MutBor B → Result (RangeBound IsNull) E → MutBor B → Type 0) (f : F) (g : G) (old : Held (GName × ℕ)) where
  lower_size : (lower : Side) (n : ℕ) (mid : Held (GName × ℕ)) → LowerMade held post_f post_g f g old lower n mid → length mid.bytes ≡ length old.bytes + (1 + length (side_bytes lower))
  lower_size lower n mid made =
      omega (arith, ap length made.stands.bytes, length-append (old ⊕ 0 ∷ []).bytes (side_bytes lower), tag_size old)

  pub range_lacks : RangeStops held post_f post_g f g old window_lacks (Serialization OutOfMemory) → LacksRange held post_f post_g f g old window_lacks
  range_lacks (inl w) = inl (wants_window old 1 w.2.1)
  range_lacks (inr (inl w)) = elim w.3 [
    | inl memory ↦ inr (inl (w.0, w.1, w.2, lacks_behind old (old ⊕ 0 ∷ []) 1 _ _ (tag_size old) (more_kept old (0 ∷ [])) refl (wants_window (old ⊕ 0 ∷ []) _ memory.1)))
    | inr c ↦ absurd (side_no_memory (side_of w.0 w.1) c)
  ]
  range_lacks (inr (inr w)) =
      let made = w.3 in
      let u = w.4 in
      let kept : w.2.kept ≡ old.kept = made.stands.kept ∙ more_kept old (0 ∷ []) in
      elim u.3 [
        | inl memory ↦ inr (inr (w.0, w.1, w.2, made, (u.0, u.1, u.2, lacks_behind old w.2 (1 + length (side_bytes w.0)) _ _ (lower_size w.0 w.1 w.2 made) kept (omega (arith, length-append (side_bytes w.0) (side_bytes (side_of u.0 u.1)))) (wants_window w.2 _ memory.1))))
        | inr c ↦ absurd (side_no_memory (side_of u.0 u.1) c)
      ]

  pub range_lacks_at : (new : Held (GName × ℕ)) (r : Result (Unit {0}) (BindError E)) → RangeWritten held post_f post_g f g old window_lacks new r → r ≡ Err (Serialization OutOfMemory) → LacksRange held post_f post_g f g old window_lacks
  range_lacks_at new (Ok done) w e = cc
  range_lacks_at new (Err e) w is = range_lacks (subst (λ (e : BindError E). RangeStops held post_f post_g f g old window_lacks e) (same_refusal e _ is) w.0)
