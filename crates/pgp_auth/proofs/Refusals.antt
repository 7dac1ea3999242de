-- Each variant is known by its number.
use Rattle.pgp_auth.proofs.Common.{◌≡◌, ℕ, [], refl, sym, ap, ◌∙◌, if◌then◌else◌, Refusal, OutOfMemory, WrongState, NotUtf8, UnexpectedEnd, UnexpectedCharacter, Trailing, InvalidNumber, InvalidNonce, TooManyIterations, InvalidBase64, Verification, number_of}
use Rattle.std.specs.Prelude.{◌==◌}
use Rattle.pgp_auth.specs.ScramRefusal.{Server}
use Rattle.pgp_auth.specs.ScramErrorView.{plain}

-- the variant of a number
variant_of : ℕ → Refusal
variant_of n =
    if n == 1 then OutOfMemory else
    if n == 2 then WrongState else
    if n == 3 then NotUtf8 else
    if n == 4 then UnexpectedEnd else
    if n == 5 then UnexpectedCharacter 0 else
    if n == 6 then Trailing 0 else
    if n == 7 then InvalidNumber else
    if n == 8 then InvalidNonce else
    if n == 9 then TooManyIterations else
    if n == 10 then InvalidBase64 else
    if n == 11 then Server [] else
    Verification

variant_of-number_of : (e : Refusal) → variant_of (number_of e) ≡ plain e
unfolding variant_of
variant_of-number_of OutOfMemory = refl
variant_of-number_of WrongState = refl
variant_of-number_of NotUtf8 = refl
variant_of-number_of UnexpectedEnd = refl
variant_of-number_of (UnexpectedCharacter at) = refl
variant_of-number_of (Trailing at) = refl
variant_of-number_of InvalidNumber = refl
variant_of-number_of InvalidNonce = refl
variant_of-number_of TooManyIterations = refl
variant_of-number_of InvalidBase64 = refl
variant_of-number_of (Server reason) = refl
variant_of-number_of Verification = refl

pub same_number : (d e : Refusal) → number_of d ≡ number_of e → plain d ≡ plain e
same_number d e same = sym (variant_of-number_of d) ∙ ap variant_of same ∙ variant_of-number_of e
