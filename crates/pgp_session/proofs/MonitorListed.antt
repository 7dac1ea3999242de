-- Requests by their places.
use Rattle.pgp_session.proofs.Common.{◌≡◌, ℕ, ◌+◌, List, [], ◌∷◌, ◌++◌, length, suc, ap, ◌∙◌, arith, named_from, Asked, Request}

one : Request → ℕ → List Asked
one r n = record { request = r; name = n } ∷ []

none_more : (n : ℕ) → n ≡ n + 0
none_more n = omega arith

next_place : (n l : ℕ) → (n + 1) + l ≡ n + suc l
next_place n l = omega arith

named_push : (rs : List Request) (r : Request) (n : ℕ) → named_from n (rs ++ r ∷ []) ≡ named_from n rs ++ record { request = r; name = n + length rs } ∷ []
unfolding one
named_push [] r n = ap (one r) (none_more n)
named_push (q ∷ rs) r n =
    let rest : named_from (n + 1) (rs ++ r ∷ []) ≡ named_from (n + 1) rs ++ one r ((n + 1) + length rs) = named_push rs r (n + 1) in
    ap (λ (l : List Asked). record { request = q; name = n } ∷ l) rest
    ∙ ap (λ (p : ℕ). record { request = q; name = n } ∷ (named_from (n + 1) rs ++ one r p)) (next_place n (length rs))

from_none : (n : ℕ) → 0 + n ≡ n
from_none n = omega arith

pub named_more : (rs : List Request) (r : Request) → named_from 0 (rs ++ r ∷ []) ≡ named_from 0 rs ++ record { request = r; name = length rs } ∷ []
unfolding one
named_more rs r = named_push rs r 0 ∙ ap (λ (n : ℕ). named_from 0 rs ++ one r n) (from_none (length rs))
