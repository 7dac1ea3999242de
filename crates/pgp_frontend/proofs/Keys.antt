-- A cancel request of equal numbers and keys.
use Rattle.pgp_frontend.proofs.Common.{◌≡◌, ℕ, ℤ, List, Result, subst, w32, to_be_bytes, cast_unsigned, int32, Held, Error, CancelRequest, WritesMessage}

pub number_key : (z : ℤ) (bytes : List ℕ) → bytes ≡ to_be_bytes w32 (cast_unsigned w32 z) → bytes ≡ int32 z
unfolding int32
number_key z bytes e = e

pub same_cancel : {K : Type 0} (lacks : Held K → ℕ → Type 0) (old new : Held K) (r : Result (Unit {0}) Error) {x y : ℤ} {p q : List ℕ} → x ≡ y → p ≡ q
    → WritesMessage (CancelRequest x p) lacks old new r → WritesMessage (CancelRequest y q) lacks old new r
same_cancel lacks old new r {y = y} {p = p} e f h =
    subst (λ z. WritesMessage (CancelRequest y z) lacks old new r) f (subst (λ z. WritesMessage (CancelRequest z p) lacks old new r) e h)
