-- Base64 with padding: RFC 4648, section 4.
use Rattle.std.specs.Prelude.{◌≡◌, ℕ, List, Ok}
use Rattle.base64.specs.Engines.{standard}
use Rattle.base64.specs.GeneralPurpose.{encode_of, decode_of}

abbrev pub base64 : List ℕ → List ℕ
base64 bytes = encode_of standard bytes

-- a text shows the bytes that it decodes to
abbrev pub Shows : List ℕ → List ℕ → Type 0
Shows text bytes = decode_of standard text ≡ Ok bytes
