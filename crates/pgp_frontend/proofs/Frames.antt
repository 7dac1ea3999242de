-- A frame whose length is filled in at last.
use Rattle.pgp_frontend.proofs.Common.{◌≡◌, ℕ, ◌+◌, ◌-◌, ◌≤◌, List, [], ◌∷◌, length, Some, None, sym, ap, ◌∙◌, arith, uint32, length_cause, either_none, either_first, either_then, Held, ◌⊕◌, overwritten, filled4, sized4, more_twice, Error, Part, parts_cause, joined, frame_cause, framed}

-- `a` was held before the frame, `b` with the place of its length, `d` with its parts after that
module _ {K : Type 0} (ps : List Part) (a b d : Held K) (base : ℕ) (e : b ≡ a ⊕ uint32 0) (f : d ≡ b ⊕ joined ps) (h : base ≡ length a.bytes) where
  size : length d.bytes - base ≡ length (joined ps) + 4
  size = omega (arith, sized4 a (joined ps) b d e f, h)

  pub frame_room : base + 4 ≤ length d.bytes
  frame_room = omega (arith, sized4 a (joined ps) b d e f, h)

  pub frame_done : (r : Held K) → r ≡ overwritten d base (uint32 (length d.bytes - base)) → r ≡ a ⊕ framed None (joined ps)
  frame_done r k = filled4 a (joined ps) b d r base (length d.bytes - base) (length (joined ps) + 4) e f h size k ∙ more_twice a (uint32 (length (joined ps) + 4)) (joined ps)

  pub frame_fits : parts_cause ps ≡ None → length_cause (length d.bytes - base) ≡ None → frame_cause ps ≡ None
  frame_fits c n = either_none (parts_cause ps) (length_cause (length (joined ps) + 4)) c (ap length_cause (sym size) ∙ n)

  pub frame_passes : (x : Error) → parts_cause ps ≡ None → length_cause (length d.bytes - base) ≡ Some x → frame_cause ps ≡ Some x
  frame_passes x c n = either_then (parts_cause ps) (length_cause (length (joined ps) + 4)) c ∙ (ap length_cause (sym size) ∙ n)

-- the first cause of the parts is that of the frame
pub frame_refused : (ps : List Part) (x : Error) → parts_cause ps ≡ Some x → frame_cause ps ≡ Some x
frame_refused ps x c = either_first (parts_cause ps) (length_cause (length (joined ps) + 4)) x c

-- a tag, and the frame's bytes after it
pub tagged : {K : Type 0} (tag : ℕ) (body : List ℕ) (a b r : Held K) → b ≡ a ⊕ tag ∷ [] → r ≡ b ⊕ framed None body → r ≡ a ⊕ framed (Some tag) body
tagged tag body a b r e f = f ∙ (ap (λ b. b ⊕ framed None body) e ∙ more_twice a (tag ∷ []) (framed None body))
