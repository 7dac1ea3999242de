-- The header at the front of the bytes, and what is remembered of it.
use Rattle.pgp_message.proofs.Common.{◌≡◌, ℕ, ◌<◌, ◌≤◌, List, [], ◌∷◌, ◌++◌, length, get_or, Option, Some, None, Result, Ok, Err, refl, sym, ap, subst, ◌∙◌, arith, IfSome, MatchResult, IsOkAnd, w32, from_be_bytes, Error, Message, Body, announced, Front, IsFront, front_frame, BeginsWithHeader, body_of, header_of, Memory, headers_after, header_after, memory_after, seen, parsed}
use Rattle.pgp_base.specs.declared.error.Error.TheVariants as errors
use Rattle.pgp_message.specs.declared.message as code
use Rattle.pgp_message.specs.Remembered.{Fits}
use Rattle.pgp_message.proofs.Bodies.{body_is}
use Rattle.pgp_message.proofs.Fronts.{header_announced, header_length}

-- the two parts of a header
pub record Parts (bytes : List ℕ) (t n : ℕ) : Type 0 where
  pub long : 5 ≤ length bytes
  pub tag : t ≡ get_or bytes 0 0
  pub len : n ≡ announced bytes

same_header : (p q : ℕ × ℕ) → Some p ≡ Some q → p ≡ q
same_header p q e = cc

pub parts_of : (bytes : List ℕ) (tag len : ℕ) → Some (tag, len) ≡ header_of bytes → Parts bytes tag len
parts_of (t ∷ a ∷ b ∷ c ∷ d ∷ rest) tag len e =
    let same = same_header (tag, len) (t, from_be_bytes w32 (a ∷ b ∷ c ∷ d ∷ [])) e in
    record { long = omega arith; tag = ap (λ p. p.0) same; len = ap (λ p. p.1) same }
parts_of (t ∷ a ∷ b ∷ c ∷ []) tag len e = cc
parts_of (t ∷ a ∷ b ∷ []) tag len e = cc
parts_of (t ∷ a ∷ []) tag len e = cc
parts_of (t ∷ []) tag len e = cc
parts_of [] tag len e = cc

pub short_of : (bytes : List ℕ) → None ≡ header_of bytes → length bytes < 5
short_of (t ∷ a ∷ b ∷ c ∷ d ∷ rest) e = cc
short_of (t ∷ a ∷ b ∷ c ∷ []) e = omega arith
short_of (t ∷ a ∷ b ∷ []) e = omega arith
short_of (t ∷ a ∷ []) e = omega arith
short_of (t ∷ []) e = omega arith
short_of [] e = omega arith

pub header_of_short : (bytes : List ℕ) → length bytes < 5 → header_of bytes ≡ None
header_of_short (t ∷ a ∷ b ∷ c ∷ d ∷ rest) h = absurd (omega (arith, h))
header_of_short (t ∷ a ∷ b ∷ c ∷ []) h = refl
header_of_short (t ∷ a ∷ b ∷ []) h = refl
header_of_short (t ∷ a ∷ []) h = refl
header_of_short (t ∷ []) h = refl
header_of_short [] h = refl

pub header_of_long : (bytes : List ℕ) → 5 ≤ length bytes → header_of bytes ≡ Some (get_or bytes 0 0, announced bytes)
header_of_long (t ∷ a ∷ b ∷ c ∷ d ∷ rest) h = refl
header_of_long (t ∷ a ∷ b ∷ c ∷ []) h = absurd (omega (arith, h))
header_of_long (t ∷ a ∷ b ∷ []) h = absurd (omega (arith, h))
header_of_long (t ∷ a ∷ []) h = absurd (omega (arith, h))
header_of_long (t ∷ []) h = absurd (omega (arith, h))
header_of_long [] h = absurd (omega (arith, h))

abbrev header_with : ℕ → ℕ → Option (ℕ × ℕ)
header_with tag len = Some (tag, len)

same_parts : (a b c d : ℕ) → a ≡ c → b ≡ d → header_with a b ≡ header_with c d
same_parts a b c d e f = rw (e, f) refl

-- the header that is spelled is the one that is read
pub header_spelled : (bytes : List ℕ) (h : BeginsWithHeader bytes) → header_of bytes ≡ Some (h.tag, h.len)
header_spelled bytes h =
    let tag : get_or bytes 0 0 ≡ h.tag = ap (λ l. get_or l 0 0) h.parts in
    header_of_long bytes (omega (arith, header_length bytes h)) ∙ same_parts (get_or bytes 0 0) (announced bytes) h.tag h.len tag (header_announced bytes h)

itself : (o : Option (ℕ × ℕ)) → IfSome o (λ header. o ≡ Some header)
itself None = tt
itself (Some header) = refl

-- the header of the bytes fits them
pub fits_itself : (bytes : List ℕ) (n : ℕ) → Fits (record { header = header_of bytes; headers = n }) bytes
fits_itself bytes n = itself (header_of bytes)

-- bytes that come after it change no header
pub header_stays : (bytes more : List ℕ) (header : ℕ × ℕ) → header_of bytes ≡ Some header → header_of (bytes ++ more) ≡ Some header
header_stays (t ∷ a ∷ b ∷ c ∷ d ∷ rest) more header e = e
header_stays (t ∷ a ∷ b ∷ c ∷ []) more header e = cc
header_stays (t ∷ a ∷ b ∷ []) more header e = cc
header_stays (t ∷ a ∷ []) more header e = cc
header_stays (t ∷ []) more header e = cc
header_stays [] more header e = cc

stays : (bytes more : List ℕ) (known : Option (ℕ × ℕ)) → IfSome known (λ header. header_of bytes ≡ Some header) → IfSome known (λ header. header_of (bytes ++ more) ≡ Some header)
stays bytes more None fits = tt
stays bytes more (Some header) fits = header_stays bytes more header fits

pub fits_grows : (memory : Memory) (bytes more : List ℕ) → Fits memory bytes → Fits memory (bytes ++ more)
fits_grows memory bytes more fits = stays bytes more memory.header fits

-- where a frame was removed nothing is remembered
forgets_body : {A : Type 0} (tag : ℕ) (payload : List ℕ) (r : Result (code.Message.Message A) Error) (out : Result (Option (code.Message.Message A)) Error) (here : Option (ℕ × ℕ))
    → Body tag payload (seen r) → MatchResult r (λ m. IsOkAnd out (λ o. o ≡ Some m)) (λ e. out ≡ Err e) → header_after (parsed out) here ≡ None
forgets_body tag payload (Ok m) (Ok None) here body is = cc
forgets_body tag payload (Ok m) (Ok (Some n)) here body is = refl
forgets_body tag payload (Ok m) (Err d) here body is = absurd is
forgets_body tag payload (Err errors.InvalidLength) out here body is = absurd body
forgets_body tag payload (Err errors.OutOfMemory) out here body is = absurd body
forgets_body {A} tag payload (Err e) out here body is = subst (λ (x : Result (Option (code.Message.Message A)) Error). header_after (parsed x) here ≡ None) (sym is) refl

pub forgets : {A : Type 0} (old : List ℕ) (f : Front) (r : Result (code.Message.Message A) Error) (out : Result (Option (code.Message.Message A)) Error) (here : Option (ℕ × ℕ))
    → IsFront f old → seen r ≡ body_of f.tag (front_frame f old).payload
    → MatchResult r (λ m. IsOkAnd out (λ o. o ≡ Some m)) (λ e. out ≡ Err e) → header_after (parsed out) here ≡ None
forgets old f r out here front read is =
    let frame = front_frame f old in
    forgets_body frame.tag frame.payload r out here (subst (Body frame.tag frame.payload) (sym read) (body_is frame.tag frame.payload front.fits.payload)) is

pub remembers_none : (old : Memory) (bytes : List ℕ) (answer : Result (Option Message) Error) (n : ℕ) → header_after answer (header_of bytes) ≡ None → n ≡ headers_after old.header (header_of bytes) old.headers
    → record { header = None; headers = n } ≡ memory_after old bytes answer
remembers_none old bytes answer n none count = rw (none, count) refl
