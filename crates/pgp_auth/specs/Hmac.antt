-- HMAC over SHA-256: RFC 2104, section 2, with blocks of 64 bytes.
use Rattle.std.specs.Prelude.{ℕ, ◌-◌, List, ◌++◌, length, map, replicate, bit_xor, nat_lt, if◌then◌else◌}
use Rattle.sha2.specs.Sha256.{sha256}

-- a key of at most a block, with zeros up to the block's end
abbrev pub padded : List ℕ → List ℕ
padded key = key ++ replicate (64 - length key) 0

-- a key of any length as a block: a key that is longer than a block is hashed first
abbrev pub block : List ℕ → List ℕ
block key = padded (if nat_lt 64 (length key) then sha256 key else key)

-- the block, each byte xor the byte `pad`
abbrev pub xored_block : ℕ → List ℕ → List ℕ
xored_block pad key = map (λ byte. bit_xor byte pad) (block key)

-- the authentication code of a message: 0x36 is the RFC's ipad, 0x5c its opad
unfoldable pub mac : List ℕ → List ℕ → List ℕ
mac key message = sha256 (xored_block 0x5c key ++ sha256 (xored_block 0x36 key ++ message))
