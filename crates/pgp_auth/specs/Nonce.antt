-- The nonce that a generator's stream gives.
use Rattle.std.specs.Prelude.{ℕ, zero, suc, ◌+◌, ◌^◌, ◌==◌, if◌then◌else◌, List, [], ◌∷◌, ◌++◌}
use Rattle.rand_core.specs.Stream.{Stream, next_u32}
use Rattle.rand.specs.Draw.{draw_map}
use Rattle.rand.specs.Uniform.{canon}

-- the k-th of the 93 characters from 0x21 on, 0x7e in the comma's place
abbrev pub char_at : ℕ → ℕ
char_at k = if 0x21 + k == 0x2c then 0x7e else 0x21 + k

-- a character that `random_range(0x21u8..0x7e)` draws
unfoldable pub drawn_char : Stream → ℕ × Stream
drawn_char stream = draw_map char_at (canon (2 ^ 32) next_u32 93) stream

-- n characters, each drawn from what the one before it leaves of the stream
unfoldable pub drawn_chars : ℕ → Stream → List ℕ × Stream
drawn_chars zero stream = ([], stream)
drawn_chars (suc n) stream =
    ((drawn_chars n stream).0 ++ (drawn_char (drawn_chars n stream).1).0 ∷ [], (drawn_char (drawn_chars n stream).1).1)
