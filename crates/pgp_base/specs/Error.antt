-- The number of each error.
use Rattle.std.specs.Prelude.{ℕ, pos}
use Rattle.pgp_base.specs.declared.error.Error.{Error}
use Rattle.pgp_base.specs.declared.error.Error.TheVariants.{OutOfMemory, EmbeddedNull, TooLarge, InvalidLength, UnknownTag, UnknownAuthentication, UnexpectedEof, NotDrained, NotUtf8, InvalidSize, InvalidCount, InvalidKeyLength, InvalidValueLength, InvalidDimension, TooManyElements, InvalidBitLength, InvalidNetmask, InvalidAddressLength, InvalidFamily, InvalidVersion}
use Rattle.pgp_base.specs.declared.error.BindError.{BindError}
use Rattle.pgp_base.specs.declared.error.BindError.TheVariants.{Conversion, Serialization}

abbrev pub number_of : Error → ℕ
number_of OutOfMemory = 1
number_of EmbeddedNull = 2
number_of TooLarge = 3
number_of InvalidLength = 4
number_of (UnknownTag tag) = 5
number_of (UnknownAuthentication code) = 6
number_of UnexpectedEof = 7
number_of NotDrained = 8
number_of NotUtf8 = 9
number_of InvalidSize = 10
number_of InvalidCount = 11
number_of InvalidKeyLength = 12
number_of InvalidValueLength = 13
number_of InvalidDimension = 14
number_of TooManyElements = 15
number_of InvalidBitLength = 16
number_of InvalidNetmask = 17
number_of InvalidAddressLength = 18
number_of InvalidFamily = 19
number_of InvalidVersion = 20

-- the variant, without the tag or the code that it carries
abbrev pub plain : Error → Error
plain (UnknownTag tag) = UnknownTag 0
plain (UnknownAuthentication code) = UnknownAuthentication (pos 0)
plain e = e

-- the error of a writer, or that of the serializer that it called
abbrev pub error_of : BindError Error → Error
error_of (Conversion e) = e
error_of (Serialization e) = e
