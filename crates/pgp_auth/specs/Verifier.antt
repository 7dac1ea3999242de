-- What a server keeps of a password: RFC 5802, section 3 (StoredKey and ServerKey), and its text, which
-- the PostgreSQL manual gives for the catalog pg_authid.
use Rattle.std.specs.Prelude.{ℕ, List, ◌++◌, take, replicate, codes}
use Rattle.std.specs.Fmt.{decimal}
use Rattle.sha2.specs.Sha256.{sha256}
use Rattle.pgp_auth.specs.Base64.{base64}
use Rattle.pgp_auth.specs.Hmac.{mac}
use Rattle.pgp_auth.specs.IteratedKey.{salted}

pub record Verifier : Type 0 where
  pub salt : List ℕ
  pub count : ℕ
  pub stored_key : List ℕ
  pub server_key : List ℕ

unfoldable pub verifier : List ℕ → List ℕ → ℕ → Verifier
verifier password salt count = record {
  salt = salt;
  count = count;
  stored_key = sha256 (mac (salted password salt count) (codes "Client Key"));
  server_key = mac (salted password salt count) (codes "Server Key");
}

unfoldable pub verifier_text : Verifier → List ℕ
verifier_text v =
    codes "SCRAM-SHA-256$" ++ decimal v.count ++ codes ":" ++ base64 v.salt ++ codes "$" ++ base64 v.stored_key ++ codes ":" ++ base64 v.server_key

-- What a server takes for a user of whom it has no verifier, so that a client can't tell: PostgreSQL's `mock_scram_secret`.
-- The salt is the front of the digest of the user's name and a secret that the server keeps; the keys are no one's.
abbrev pub mock_verifier : List ℕ → List ℕ → Verifier
mock_verifier secret user = record {
  salt = take 16 (sha256 (user ++ secret));
  count = 4096;
  stored_key = replicate 32 0;
  server_key = replicate 32 0;
}
