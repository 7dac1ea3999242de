-- What a parser of frames remembers.
use Rattle.std.specs.Prelude.{◌≡◌, ℕ, ◌+◌, ◌-◌, ◌^◌, min, List, ◌∷◌, [], Option, Some, None, IfSome, Result, Ok, Err}
use Rattle.std.specs.Int.{w32, from_be_bytes}
use Rattle.pgp_base.specs.declared.error.Error.{Error}
use Rattle.pgp_base.specs.declared.error.Error.TheVariants as errors
use Rattle.pgp_message.specs.BackendMessage.{Message}

-- the header at the front of the bytes, where five stand there: the tag, and the length that they announce
abbrev pub header_of : List ℕ → Option (ℕ × ℕ)
header_of (tag ∷ a ∷ b ∷ c ∷ d ∷ rest) = Some (tag, from_be_bytes w32 (a ∷ b ∷ c ∷ d ∷ []))
header_of _ = None

-- The header that was read and whose frame still stands there, and how many headers were read.
pub record Memory : Type 0 where
  pub header : Option (ℕ × ℕ)
  pub headers : ℕ

-- nothing is remembered, or the header of these bytes
abbrev pub Fits : Memory → List ℕ → Type 0
Fits memory bytes = IfSome memory.header (λ header. header_of bytes ≡ Some header)

-- A header is read where none is remembered and one stands there. The count stays at the greatest u64.
abbrev pub headers_after : Option (ℕ × ℕ) → Option (ℕ × ℕ) → ℕ → ℕ
headers_after None (Some header) n = min (n + 1) (2 ^ 64 - 1)
headers_after None None n = n
headers_after (Some known) here n = n

-- where the bytes were left their header is remembered, and none where a frame was removed
abbrev pub header_after : Result (Option Message) Error → Option (ℕ × ℕ) → Option (ℕ × ℕ)
header_after (Ok None) here = here
header_after (Ok (Some m)) here = None
header_after (Err errors.InvalidLength) here = here
header_after (Err errors.OutOfMemory) here = here
header_after (Err e) here = None

-- What is remembered after a step along the bytes that had this answer.
abbrev pub memory_after : Memory → List ℕ → Result (Option Message) Error → Memory
memory_after old bytes answer = record {
  header = header_after answer (header_of bytes);
  headers = headers_after old.header (header_of bytes) old.headers;
}

-- what is missing to the header, or to the frame that it announces, where so many bytes are there
abbrev pub missing_of : Option (ℕ × ℕ) → ℕ → ℕ
missing_of None held = 5 - held
missing_of (Some (tag, len)) held = len + 1 - held

-- how many headers stand there: one or none
abbrev pub count_of : Option (ℕ × ℕ) → ℕ
count_of None = 0
count_of (Some header) = 1

-- how many headers were read where there are n results and this header stands after them; at most the greatest u64
abbrev pub headers_read : ℕ → Option (ℕ × ℕ) → ℕ
headers_read n header = min (n + count_of header) (2 ^ 64 - 1)
