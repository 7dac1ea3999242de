-- The header at the front: the length that stands there, and how many bytes the message has.
use Rattle.pgp_frontend_read.proofs.Common.{◌≡◌, ℕ, ◌<◌, ◌≤◌, Bool, true, false, List, ◌++◌, length, take, drop, sym, ap, ◌∙◌, append_assoc, arith, inl, inr, length-append, take_at, take-append-le, take-append-drop, uint32, length-uint32, fronts, uint32_begins, least, BeginsWithLength, IsPartial, IsWithin, limit_of, header, HasSize, Fits, Limits}
use Rattle.pgp_frontend_read.proofs.Fronts.{behind_length}
use Rattle.pgp_frontend_read.proofs.Steps.{left}

pub begins_long : (opened : Bool) (bytes : List ℕ) (len : ℕ) → BeginsWithLength opened bytes len → header opened ≤ length bytes
begins_long opened bytes len b = omega (arith, behind_length opened bytes len b)

-- bytes begin with one length
pub one_length : (opened : Bool) (bytes : List ℕ) (m n : ℕ) → BeginsWithLength opened bytes m → BeginsWithLength opened bytes n → m ≡ n
one_length opened bytes m n b c =
    let same : b.front ++ (uint32 m ++ b.rest) ≡ c.front ++ (uint32 n ++ c.rest) = sym (append_assoc b.front (uint32 m) b.rest) ∙ sym b.parts ∙ c.parts ∙ append_assoc c.front (uint32 n) c.rest in
    let f = fronts b.front c.front (uint32 m ++ b.rest) (uint32 n ++ c.rest) (b.at ∙ sym c.at) same in
    (uint32_begins m n b.rest c.rest b.fits c.fits f.1).0

-- bytes after a header don't change it
pub begins_behind : (opened : Bool) (bytes more : List ℕ) (len : ℕ) → BeginsWithLength opened bytes len → BeginsWithLength opened (bytes ++ more) len
begins_behind opened bytes more len b = record { front = b.front; rest = b.rest ++ more; at = b.at; fits = b.fits; parts = ap (λ l. l ++ more) b.parts ∙ append_assoc (b.front ++ uint32 len) b.rest more }

pub begins_front : (opened : Bool) (bytes more : List ℕ) (len : ℕ) → header opened ≤ length bytes → BeginsWithLength opened (bytes ++ more) len → BeginsWithLength opened bytes len
begins_front opened bytes more len long b =
    let head : List ℕ = b.front ++ uint32 len in
    let size : length head ≡ header opened = omega (arith, length-append b.front (uint32 len), b.at, length-uint32 len) in
    let first : take (header opened) bytes ≡ head = sym (take-append-le (header opened) bytes more long) ∙ ap (take (header opened)) b.parts ∙ take_at head b.rest (header opened) size in
    record {
      front = b.front;
      rest = drop (header opened) bytes;
      at = b.at;
      fits = b.fits;
      parts = sym (take-append-drop (header opened) bytes) ∙ ap (λ l. l ++ drop (header opened) bytes) first;
    }

-- ---- limits

pub short_within : (limits : Limits) (opened : Bool) (bytes : List ℕ) → length bytes < header opened → IsWithin limits (left bytes opened)
short_within limits opened bytes short len long = omega (arith, short, begins_long opened bytes len long.begins)

pub low_within : (limits : Limits) (opened : Bool) (bytes : List ℕ) (n : ℕ) → BeginsWithLength opened bytes n → n ≤ limit_of limits opened → IsWithin limits (left bytes opened)
low_within limits opened bytes n b low len long = omega (arith, low, one_length opened bytes n len b long.begins, long.over)

-- ---- sizes

pub one_size : (opened : Bool) (bytes : List ℕ) (m n : ℕ) → HasSize opened bytes m → HasSize opened bytes n → m ≡ n
one_size opened bytes m n h k = omega (arith, h.all, k.all, one_length opened bytes h.len k.len h.begins k.begins)

pub size_behind : (opened : Bool) (bytes more : List ℕ) (size : ℕ) → HasSize opened bytes size → HasSize opened (bytes ++ more) size
size_behind opened bytes more size h = record { len = h.len; begins = begins_behind opened bytes more h.len h.begins; enough = h.enough; fits = h.fits; all = h.all }

pub size_front : (opened : Bool) (bytes more : List ℕ) (size : ℕ) → header opened ≤ length bytes → HasSize opened (bytes ++ more) size → HasSize opened bytes size
size_front opened bytes more size long h = record { len = h.len; begins = begins_front opened bytes more h.len long h.begins; enough = h.enough; fits = h.fits; all = h.all }

four_least : (opened : Bool) → 4 ≤ least opened
four_least true = omega arith
four_least false = omega arith

pub size_least : (opened : Bool) (bytes : List ℕ) (size : ℕ) → HasSize opened bytes size → header opened ≤ size
size_least opened bytes size h = omega (arith, h.all, h.enough, four_least opened)

-- a message of which all bytes are there isn't partial
pub not_partial : (opened : Bool) (bytes : List ℕ) (size : ℕ) → HasSize opened bytes size → size ≤ length bytes → IsPartial opened bytes → ⊥
not_partial opened bytes size h all (inl short) = omega (arith, begins_long opened bytes h.len h.begins, short)
not_partial opened bytes size h all (inr p) = omega (arith, h.all, all, one_length opened bytes h.len p.len h.begins p.begins, behind_length opened bytes p.len p.begins, p.missing)

pub partial_cut : (opened : Bool) (bytes : List ℕ) (size : ℕ) → HasSize opened bytes size → length bytes < size → IsPartial opened bytes
partial_cut opened bytes size h short = inr (record { len = h.len; begins = h.begins; enough = h.enough; fits = h.fits; missing = omega (arith, h.all, short, behind_length opened bytes h.len h.begins) })

pub held_most : (opened : Bool) (held piece : List ℕ) (size : ℕ) → Fits opened held → HasSize opened (held ++ piece) size → length held ≤ size
held_most opened held piece size (inl short) h = omega (arith, short, size_least opened (held ++ piece) size h)
held_most opened held piece size (inr fits) h = omega (arith, one_size opened (held ++ piece) size fits.0 h (size_behind opened held piece fits.0 fits.1), fits.2)
