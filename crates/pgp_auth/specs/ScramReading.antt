-- Private: a server's texts as they are read from the left. Laws join this to ScramRefusal.
use Rattle.std.specs.Prelude.{◌≡◌, ℕ, ◌-◌, ◌^◌, ◌≤◌, ◌==◌, nat_lt, nat_le, nat_eq, Bool, true, false, List, [], ◌∷◌, length, take, drop, codes, if◌then◌else◌}
use Rattle.std.specs.List.{prefix_len, starts_with}
use Rattle.std.specs.Str.{is_utf8}
use Rattle.std.specs.declared.result.Result.{Result}
use Rattle.std.specs.declared.result.Result.TheVariants.{Ok, Err}
use Rattle.base64.specs.declared.decode.DecodeError.{DecodeError}
use Rattle.base64.specs.Engines.{standard}
use Rattle.base64.specs.GeneralPurpose.{decode_of}
use Rattle.pgp_auth.specs.declared.scram.reading.Fault.{Fault}
use Rattle.pgp_auth.specs.declared.scram.reading.Fault.TheVariants as faults
use Rattle.pgp_auth.specs.ScramText.{is_nonce_char, is_base64_char, is_value_char, is_digit, number}
use Rattle.pgp_auth.specs.ScramRefusal.{Refusal, NotUtf8, UnexpectedEnd, UnexpectedCharacter, Trailing, InvalidNumber, InvalidNonce, TooManyIterations, InvalidBase64}

infixl 10 ◌>>=◌
abbrev pub ◌>>=◌ : {A B E : Type 0} → Result A E → (A → Result B E) → Result B E
(Ok x) >>= f = f x
(Err e) >>= f = Err e

-- what follows the characters `want` in a text that is the end of one of n bytes
unfoldable pub expected : ℕ → List ℕ → List ℕ → Result (List ℕ) Fault
expected n [] s = Ok s
expected n (w ∷ ws) [] = Err faults.UnexpectedEnd
expected n (w ∷ ws) (c ∷ s) = if c == w then expected n ws s else Err (faults.UnexpectedCharacter (n - length (c ∷ s)))

-- the longest front whose bytes pass, and the rest
abbrev pub front_of : (ℕ → Bool) → List ℕ → List ℕ
front_of test s = take (prefix_len test s) s

abbrev pub rest_of : (ℕ → Bool) → List ℕ → List ℕ
rest_of test s = drop (prefix_len test s) s

unfoldable pub count_of : List ℕ → Result ℕ Fault
count_of digits = if length digits == 0 then Err faults.InvalidNumber
    else if nat_lt (number digits) (2 ^ 32) then Ok (number digits) else Err faults.InvalidNumber

-- nothing is left of a text of n bytes
unfoldable pub ended : ℕ → List ℕ → Result (Unit {0}) Fault
ended n [] = Ok tt
ended n (c ∷ s) = Err (faults.Trailing (n - length (c ∷ s)))

pub record FirstParts : Type 0 where
  pub nonce : List ℕ
  pub salt_text : List ℕ
  pub count : ℕ

unfoldable pub read_first : List ℕ → Result FirstParts Fault
read_first s = do
  a ← expected (length s) (codes "r=") s
  b ← expected (length s) (codes ",s=") (rest_of is_nonce_char a)
  c ← expected (length s) (codes ",i=") (rest_of is_base64_char b)
  i ← count_of (front_of is_digit c)
  _ ← ended (length s) (rest_of is_digit c)
  Ok (record { nonce = front_of is_nonce_char a; salt_text = front_of is_base64_char b; count = i })

abbrev pub refusal_of : Fault → Refusal
refusal_of faults.UnexpectedEnd = UnexpectedEnd
refusal_of (faults.UnexpectedCharacter at) = UnexpectedCharacter at
refusal_of (faults.Trailing at) = Trailing at
refusal_of faults.InvalidNumber = InvalidNumber

-- what a server's first text grants
pub record Granted : Type 0 where
  pub nonce : List ℕ
  pub salt : List ℕ
  pub count : ℕ

abbrev pub grant_salt : FirstParts → Result (List ℕ) DecodeError → Result Granted Refusal
grant_salt p (Ok s) = Ok (record { nonce = p.nonce; salt = s; count = p.count })
grant_salt p (Err e) = Err InvalidBase64

-- the parts are admitted, whatever the salt
abbrev pub AdmitsParts : List ℕ → FirstParts → Type 0
AdmitsParts client_nonce p = (starts_with nat_eq p.nonce client_nonce ≡ true) × (p.count ≤ 100000)

unfoldable pub grant_parts : List ℕ → FirstParts → Result Granted Refusal
grant_parts client_nonce p = if starts_with nat_eq p.nonce client_nonce
    then (if nat_le p.count 100000 then grant_salt p (decode_of standard p.salt_text) else Err TooManyIterations)
    else Err InvalidNonce

abbrev pub grant_read : List ℕ → Result FirstParts Fault → Result Granted Refusal
grant_read client_nonce (Ok p) = grant_parts client_nonce p
grant_read client_nonce (Err f) = Err (refusal_of f)

-- what a client makes of a server's first text
unfoldable pub grant : List ℕ → List ℕ → Result Granted Refusal
grant client_nonce text = if is_utf8 text then grant_read client_nonce (read_first text) else Err NotUtf8

-- one run after two characters, and nothing after it
unfoldable pub read_run : List ℕ → (ℕ → Bool) → List ℕ → Result (List ℕ) Fault
read_run want test s = do
  a ← expected (length s) want s
  _ ← ended (length s) (rest_of test a)
  Ok (front_of test a)

abbrev pub begins_with_e : List ℕ → Bool
begins_with_e [] = false
begins_with_e (c ∷ s) = c == 101

-- a server's final text: an error, or a text of base64
pub data Final : Type 0 where
  Error : List ℕ → Final
  Shown : List ℕ → Final

abbrev pub as_error : Result (List ℕ) Fault → Result Final Refusal
as_error (Ok s) = Ok (Error s)
as_error (Err f) = Err (refusal_of f)

abbrev pub as_shown : Result (List ℕ) Fault → Result Final Refusal
as_shown (Ok s) = Ok (Shown s)
as_shown (Err f) = Err (refusal_of f)

unfoldable pub read_final : List ℕ → Result Final Refusal
read_final s = if is_utf8 s
    then (if begins_with_e s then as_error (read_run (codes "e=") is_value_char s) else as_shown (read_run (codes "v=") is_base64_char s))
    else Err NotUtf8
