-- What the caller of a writer into a window learns of its memory.
use Rattle.pgp_base.proofs.Common.{◌≡◌, ℕ, List, [], ◌++◌, length, take, drop, refl, sym, ap, ◌∙◌, take-append-drop, GName, Held, ◌⊕◌, lengthened, window_held, Window}

-- `w` is the window as it was made on memory that held `old`, `v` as a writer of p left it, and `x` what
-- the memory holds at last
module _ (w v : Window) (old p : List ℕ) (name : GName) (size : ℕ) (new : window_held w ≡ record { bytes = []; behind = old; kept = (name, size) }) (wrote : window_held v ≡ window_held w ⊕ p) where
  is : window_held v ≡ (let h : Held (GName × ℕ) = record { bytes = []; behind = old; kept = (name, size) } in h ⊕ p)
  is = wrote ∙ ap (λ h. h ⊕ p) new

  bytes : take v.len v.room.now ≡ p
  unfolding lengthened
  bytes = ap (λ h. h.bytes) is

  behind : drop v.len v.room.now ≡ drop (length p) old
  unfolding lengthened
  behind = ap (λ h. h.behind) is

  same : name ≡ v.room.ghost_name
  unfolding lengthened
  same = sym (ap (λ h. h.kept.0) is)

  pub window_size : length (take v.len v.room.now) ≡ length p
  window_size = ap length bytes

  pub window_written : (x : List ℕ) → (name ≡ v.room.ghost_name → x ≡ v.room.now) → x ≡ p ++ drop (length p) old
  window_written x at_last = at_last same ∙ (sym (take-append-drop v.len v.room.now) ∙ rw (bytes, behind) refl)
