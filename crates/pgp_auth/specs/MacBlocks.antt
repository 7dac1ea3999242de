-- Private: the two blocks of a key, and a code that is made of them.
use Rattle.std.specs.Prelude.{ℕ, List, ◌++◌}
use Rattle.sha2.specs.Sha256.{sha256}
use Rattle.pgp_auth.specs.Hmac.{xored_block}

pub record MacBlocks : Type 0 where
  pub inner : List ℕ
  pub outer : List ℕ

-- K xor ipad and K xor opad
abbrev pub blocks_of : List ℕ → MacBlocks
blocks_of key = record { inner = xored_block 0x36 key; outer = xored_block 0x5c key }

unfoldable pub code_of : MacBlocks → List ℕ → List ℕ
code_of blocks message = sha256 (blocks.outer ++ sha256 (blocks.inner ++ message))
