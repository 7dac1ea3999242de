-- Private: reading a part from the left, as a function: the part and the bytes after it, unless it is cut short.
use Rattle.std.specs.Prelude.{◌≡◌, ℕ, ℤ, zero, suc, List, [], ◌∷◌, length, take, drop, Option, Some, None, Result, Ok, Err, nat_lt, if◌then◌else◌}
use Rattle.std.specs.Int.{w16, w32, from_be_bytes, cast_signed}
use Rattle.std.specs.Str.{is_utf8}
use Rattle.pgp_base.specs.declared.error.Error.{Error}
use Rattle.pgp_base.specs.declared.error.Error.TheVariants.{UnexpectedEof, NotDrained, NotUtf8}

-- what a part gave, if it was whole
infixl 10 ◌>>=◌
abbrev pub ◌>>=◌ : {A B : Type 0} → Option A → (A → Result B Error) → Result B Error
(Some x) >>= f = f x
None >>= f = Err UnexpectedEof

-- what a function returned, seen by view, is what reading gives
abbrev pub Gives : {X Y : Type 0} → (X → Y) → Result X Error → Option Y → Type 0
Gives view (Ok x) read = read ≡ Some (view x)
Gives view (Err e) read = (e ≡ UnexpectedEof) × (read ≡ None)

-- likewise where reading says its errors
abbrev pub Answers : {X Y : Type 0} → (X → Y) → Result X Error → Result Y Error → Type 0
Answers view (Ok x) read = read ≡ Ok (view x)
Answers view (Err e) read = read ≡ Err e

abbrev pub front_at : {A : Type 0} → ℕ → (List ℕ → A) → List ℕ → Option (A × List ℕ)
front_at n value bytes = if nat_lt (length bytes) n then None else Some (value (take n bytes), drop n bytes)

abbrev pub byte_at : List ℕ → Option (ℕ × List ℕ)
byte_at [] = None
byte_at (b ∷ rest) = Some (b, rest)

abbrev pub uint16_at : List ℕ → Option (ℕ × List ℕ)
uint16_at = front_at 2 (λ l. from_be_bytes w16 l)

abbrev pub oid_at : List ℕ → Option (ℕ × List ℕ)
oid_at = front_at 4 (λ l. from_be_bytes w32 l)

-- the oid of a type
abbrev pub type_at : List ℕ → Result (ℕ × List ℕ) Error
type_at bytes = oid_at bytes >>= λ x. Ok x

abbrev pub int16_at : List ℕ → Option (ℤ × List ℕ)
int16_at = front_at 2 (λ l. cast_signed w16 (from_be_bytes w16 l))

abbrev pub int32_at : List ℕ → Option (ℤ × List ℕ)
int32_at = front_at 4 (λ l. cast_signed w32 (from_be_bytes w32 l))

abbrev pub with_first : ℕ → Option (List ℕ × List ℕ) → Option (List ℕ × List ℕ)
with_first b None = None
with_first b (Some x) = Some (b ∷ x.0, x.1)

unfoldable pub string_at : List ℕ → Option (List ℕ × List ℕ)
string_at [] = None
string_at (zero ∷ rest) = Some ([], rest)
string_at (suc b ∷ rest) = with_first (suc b) (string_at rest)

-- a string that has to be text
abbrev pub only_text : List ℕ × List ℕ → Result (List ℕ × List ℕ) Error
only_text s = if is_utf8 s.0 then Ok s else Err NotUtf8

unfoldable pub text_at : List ℕ → Result (List ℕ × List ℕ) Error
text_at bytes = string_at bytes >>= only_text

-- the value, where no byte is left
abbrev pub ended : {A : Type 0} → A → List ℕ → Result A Error
ended x [] = Ok x
ended x (b ∷ rest) = Err NotDrained

-- what is made of what was read
abbrev pub made : {X Y : Type 0} → (X → Y) → Result X Error → Result Y Error
made f (Ok x) = Ok (f x)
made f (Err e) = Err e
