-- Each variant is known by its number.
use Rattle.pgp_base.proofs.Common.{◌≡◌, ℕ, refl, sym, ap, ◌∙◌, pos, ◌==◌, if◌then◌else◌, Error, OutOfMemory, EmbeddedNull, TooLarge, InvalidLength, UnknownTag, UnknownAuthentication, UnexpectedEof, NotDrained, NotUtf8, InvalidSize, InvalidCount, InvalidKeyLength, InvalidValueLength, InvalidDimension, TooManyElements, InvalidBitLength, InvalidNetmask, InvalidAddressLength, InvalidFamily, InvalidVersion}
use Rattle.pgp_base.specs.Error.{number_of, plain}

-- the variant of a number
variant_of : ℕ → Error
variant_of n =
    if n == 1 then OutOfMemory else
    if n == 2 then EmbeddedNull else
    if n == 3 then TooLarge else
    if n == 4 then InvalidLength else
    if n == 5 then UnknownTag 0 else
    if n == 6 then UnknownAuthentication (pos 0) else
    if n == 7 then UnexpectedEof else
    if n == 8 then NotDrained else
    if n == 9 then NotUtf8 else
    if n == 10 then InvalidSize else
    if n == 11 then InvalidCount else
    if n == 12 then InvalidKeyLength else
    if n == 13 then InvalidValueLength else
    if n == 14 then InvalidDimension else
    if n == 15 then TooManyElements else
    if n == 16 then InvalidBitLength else
    if n == 17 then InvalidNetmask else
    if n == 18 then InvalidAddressLength else
    if n == 19 then InvalidFamily else
    InvalidVersion

variant_of-number_of : (e : Error) → variant_of (number_of e) ≡ plain e
unfolding variant_of
variant_of-number_of OutOfMemory = refl
variant_of-number_of EmbeddedNull = refl
variant_of-number_of TooLarge = refl
variant_of-number_of InvalidLength = refl
variant_of-number_of (UnknownTag tag) = refl
variant_of-number_of (UnknownAuthentication code) = refl
variant_of-number_of UnexpectedEof = refl
variant_of-number_of NotDrained = refl
variant_of-number_of NotUtf8 = refl
variant_of-number_of InvalidSize = refl
variant_of-number_of InvalidCount = refl
variant_of-number_of InvalidKeyLength = refl
variant_of-number_of InvalidValueLength = refl
variant_of-number_of InvalidDimension = refl
variant_of-number_of TooManyElements = refl
variant_of-number_of InvalidBitLength = refl
variant_of-number_of InvalidNetmask = refl
variant_of-number_of InvalidAddressLength = refl
variant_of-number_of InvalidFamily = refl
variant_of-number_of InvalidVersion = refl

pub same_number : (d e : Error) → number_of d ≡ number_of e → plain d ≡ plain e
same_number d e same = sym (variant_of-number_of d) ∙ ap variant_of same ∙ variant_of-number_of e
