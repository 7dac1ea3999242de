-- A code that is made of a key's two blocks is the key's code.
use Rattle.pgp_auth.proofs.Common.{◌≡◌, ℕ, List, refl, mac, blocks_of, code_of}

pub code_is : (key message : List ℕ) → code_of (blocks_of key) message ≡ mac key message
unfolding mac code_of
code_is key message = refl
