-- The code's errors as those of the definitions.
use Rattle.std.specs.Prelude.{ℕ, [], string_bytes}
use Rattle.pgp_auth.specs.declared.scram.error.ScramError.{ScramError}
use Rattle.pgp_auth.specs.declared.scram.error.ScramError.TheVariants as code
use Rattle.pgp_auth.specs.ScramRefusal.{Refusal, OutOfMemory, WrongState, NotUtf8, UnexpectedEnd, UnexpectedCharacter, Trailing, InvalidNumber, InvalidNonce, TooManyIterations, InvalidBase64, Server, Verification}

abbrev pub refusal : {A : Type 0} → ScramError A → Refusal
refusal code.OutOfMemory = OutOfMemory
refusal code.WrongState = WrongState
refusal code.NotUtf8 = NotUtf8
refusal code.UnexpectedEnd = UnexpectedEnd
refusal (code.UnexpectedCharacter at) = UnexpectedCharacter at
refusal (code.Trailing at) = Trailing at
refusal code.InvalidNumber = InvalidNumber
refusal code.InvalidNonce = InvalidNonce
refusal code.TooManyIterations = TooManyIterations
refusal code.InvalidBase64 = InvalidBase64
refusal (code.Server reason) = Server (string_bytes reason)
refusal code.Verification = Verification

-- the numbers of the errors
abbrev pub number_of : Refusal → ℕ
number_of OutOfMemory = 1
number_of WrongState = 2
number_of NotUtf8 = 3
number_of UnexpectedEnd = 4
number_of (UnexpectedCharacter at) = 5
number_of (Trailing at) = 6
number_of InvalidNumber = 7
number_of InvalidNonce = 8
number_of TooManyIterations = 9
number_of InvalidBase64 = 10
number_of (Server reason) = 11
number_of Verification = 12

-- the variant, without the place or the error that it carries
abbrev pub plain : Refusal → Refusal
plain (UnexpectedCharacter at) = UnexpectedCharacter 0
plain (Trailing at) = Trailing 0
plain (Server reason) = Server []
plain e = e
