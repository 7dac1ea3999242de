-- The names that a line has for messages, errors, the fields of errors and the states of transactions.
-- PostgreSQL manual, "Message Formats" and "Error and Notice Message Fields".
use Rattle.std.specs.Prelude.{ℕ, List, Option, Some, None, ◌==◌, if◌then◌else◌, codes}
use Rattle.pgtrace_lines.specs.Common.{Error, AuthenticationMd5Password, AuthenticationScmCredential, AuthenticationGss, AuthenticationGssContinue, AuthenticationSspi, AuthenticationSasl, AuthenticationSaslContinue, AuthenticationSaslFinal, Message, Authentication}
use Rattle.pgp_base.specs.declared.error.Error.TheVariants.{OutOfMemory, EmbeddedNull, TooLarge, InvalidLength, UnknownTag, UnknownAuthentication, UnexpectedEof, NotDrained, NotUtf8, InvalidSize, InvalidCount, InvalidKeyLength, InvalidValueLength, InvalidDimension, TooManyElements, InvalidBitLength, InvalidNetmask, InvalidAddressLength, InvalidFamily, InvalidVersion}
use Rattle.pgp_message.specs.Names as message

-- a message: as the code's variants are called, but for those that the manual spells otherwise
abbrev pub name_of : Message → List ℕ
name_of (Authentication (AuthenticationMd5Password salt)) = codes "AuthenticationMD5Password"
name_of (Authentication AuthenticationScmCredential) = codes "AuthenticationSCMCredential"
name_of (Authentication AuthenticationGss) = codes "AuthenticationGSS"
name_of (Authentication (AuthenticationGssContinue bytes)) = codes "AuthenticationGSSContinue"
name_of (Authentication AuthenticationSspi) = codes "AuthenticationSSPI"
name_of (Authentication (AuthenticationSasl bytes)) = codes "AuthenticationSASL"
name_of (Authentication (AuthenticationSaslContinue bytes)) = codes "AuthenticationSASLContinue"
name_of (Authentication (AuthenticationSaslFinal bytes)) = codes "AuthenticationSASLFinal"
name_of m = message.name_of m

-- an error
abbrev pub refusal_of : Error → List ℕ
refusal_of OutOfMemory = codes "OutOfMemory"
refusal_of EmbeddedNull = codes "EmbeddedNull"
refusal_of TooLarge = codes "TooLarge"
refusal_of InvalidLength = codes "InvalidLength"
refusal_of (UnknownTag tag) = codes "UnknownTag"
refusal_of (UnknownAuthentication code) = codes "UnknownAuthentication"
refusal_of UnexpectedEof = codes "UnexpectedEof"
refusal_of NotDrained = codes "NotDrained"
refusal_of NotUtf8 = codes "NotUtf8"
refusal_of InvalidSize = codes "InvalidSize"
refusal_of InvalidCount = codes "InvalidCount"
refusal_of InvalidKeyLength = codes "InvalidKeyLength"
refusal_of InvalidValueLength = codes "InvalidValueLength"
refusal_of InvalidDimension = codes "InvalidDimension"
refusal_of TooManyElements = codes "TooManyElements"
refusal_of InvalidBitLength = codes "InvalidBitLength"
refusal_of InvalidNetmask = codes "InvalidNetmask"
refusal_of InvalidAddressLength = codes "InvalidAddressLength"
refusal_of InvalidFamily = codes "InvalidFamily"
refusal_of InvalidVersion = codes "InvalidVersion"

-- a field of an error or a notice that says a place, by its letter: in the program, in the database, in the server's source
abbrev pub place_of : ℕ → Option (List ℕ)
place_of letter =
    if letter == 87 then Some (codes "where")  -- W
    else if letter == 115 then Some (codes "schema")  -- s
    else if letter == 116 then Some (codes "table")  -- t
    else if letter == 99 then Some (codes "column")  -- c
    else if letter == 100 then Some (codes "data_type")  -- d
    else if letter == 110 then Some (codes "constraint")  -- n
    else if letter == 70 then Some (codes "file")  -- F
    else if letter == 76 then Some (codes "line")  -- L
    else if letter == 82 then Some (codes "routine")  -- R
    else None

-- any field
abbrev pub field_of : ℕ → Option (List ℕ)
field_of letter =
    if letter == 83 then Some (codes "severity")  -- S
    else if letter == 86 then Some (codes "plain_severity")  -- V
    else if letter == 67 then Some (codes "code")  -- C
    else if letter == 77 then Some (codes "message")  -- M
    else if letter == 68 then Some (codes "detail")  -- D
    else if letter == 72 then Some (codes "hint")  -- H
    else if letter == 80 then Some (codes "position")  -- P
    else if letter == 112 then Some (codes "internal_position")  -- p
    else if letter == 113 then Some (codes "internal_query")  -- q
    else place_of letter

-- the state of a transaction
abbrev pub state_of : ℕ → Option (List ℕ)
state_of status =
    if status == 73 then Some (codes "idle")  -- I
    else if status == 84 then Some (codes "in transaction")  -- T
    else if status == 69 then Some (codes "failed")  -- E
    else None
