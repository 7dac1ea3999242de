-- Private: a stored verifier's text as it is read from the left. Laws join this to ScramStored.
use Rattle.std.specs.Prelude.{ℕ, List, length, codes}
use Rattle.std.specs.declared.result.Result.{Result}
use Rattle.std.specs.declared.result.Result.TheVariants.{Ok}
use Rattle.pgp_auth.specs.declared.scram.reading.Fault.{Fault}
use Rattle.pgp_auth.specs.declared.scram.stored.Pieces.{Pieces}
use Rattle.pgp_auth.specs.ScramText.{is_base64_char, is_digit}
use Rattle.pgp_auth.specs.ScramReading.{◌>>=◌, expected, front_of, rest_of, count_of}

pub record StoredParts : Type 0 where
  pub count : ℕ
  pub salt : List ℕ
  pub stored : List ℕ
  pub server : List ℕ

abbrev pub pieces_of : Pieces → StoredParts
pieces_of p = record { count = p.count; salt = p.salt.now; stored = p.stored.now; server = p.server.now }

-- what stands after the name, in a text of n bytes
unfoldable pub read_parts : ℕ → List ℕ → Result StoredParts Fault
read_parts n a = do
  i ← count_of (front_of is_digit a)
  b ← expected n (codes ":") (rest_of is_digit a)
  c ← expected n (codes "$") (rest_of is_base64_char b)
  d ← expected n (codes ":") (rest_of is_base64_char c)
  Ok (record { count = i; salt = front_of is_base64_char b; stored = front_of is_base64_char c; server = d })

unfoldable pub read_stored : List ℕ → Result StoredParts Fault
read_stored s = do
  a ← expected (length s) (codes "SCRAM-SHA-256$") s
  read_parts (length s) a
