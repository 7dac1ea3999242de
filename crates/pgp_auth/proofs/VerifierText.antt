-- The text of a verifier of the count that is made here.
use Rattle.pgp_auth.proofs.Common.{◌≡◌, ℕ, List, ◌++◌, refl, codes, digits, base64, verifier_text}

pub text_of_default : (salt stored server : List ℕ)
    → verifier_text (record { salt = salt; count = 4096; stored_key = stored; server_key = server })
    ≡ codes "SCRAM-SHA-256$4096:" ++ base64 salt ++ codes "$" ++ base64 stored ++ codes ":" ++ base64 server
unfolding verifier_text digits
text_of_default salt stored server = refl
