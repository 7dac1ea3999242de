-- The texts of MD5 authentication: PostgreSQL manual, "Message Flow", "Start-up", on
-- AuthenticationMD5Password, and the catalog pg_authid.
use Rattle.std.specs.Prelude.{◌≡◌, ℕ, List, ◌++◌, length, codes}
use Rattle.hex.specs.Hex.{encode_lower}
use Rattle.md5.specs.Md5.{md5}

-- `md5` and the digest in lower-case hex
unfoldable pub md5_text : List ℕ → List ℕ
md5_text message = codes "md5" ++ encode_lower (md5 message)

-- what a server keeps of a password
abbrev pub md5_verifier : List ℕ → List ℕ → List ℕ
md5_verifier password user = md5_text (password ++ user)

-- the answer to a request with a salt
abbrev pub md5_answer : List ℕ → List ℕ → List ℕ → List ℕ
md5_answer user password salt = md5_text (encode_lower (md5 (password ++ user)) ++ salt)

-- The answer to a request with a salt is right for a stored text, by which alone a server can tell: `md5` and 32 digits.
pub record AnswersStored (stored salt answer : List ℕ) : Type 0 where
  pub digits : List ℕ
  pub stored_is : stored ≡ codes "md5" ++ digits
  pub len : length digits ≡ 32
  pub answer_is : answer ≡ md5_text (digits ++ salt)
