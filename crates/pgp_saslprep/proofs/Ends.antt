-- The last character.
use Rattle.pgp_saslprep.proofs.Common.{◌≡◌, ℕ, List, [], ◌∷◌, ◌++◌, refl, Range, in_table, ends}

pub ends_push : (table : List Range) (text : List ℕ) (c : ℕ) → ends table (text ++ c ∷ []) ≡ in_table table c
unfolding ends
ends_push table [] c = refl
ends_push table (a ∷ []) c = refl
ends_push table (a ∷ b ∷ text) c = ends_push table (b ∷ text) c
