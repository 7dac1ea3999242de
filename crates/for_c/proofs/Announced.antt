-- What is computed from a length that stands among the bytes is how many are missing.
use Rattle.for_c.proofs.Common.{◌≡◌, ℕ, ◌+◌, ◌-◌, ◌<◌, ◌^◌, Bool, List, [], ◌∷◌, ◌++◌, length, drop, Some, None, refl, sym, ap, ◌∙◌, arith, inl, inr, length-append, append_assoc, w32, from_be_bytes, drop-append_seam, lt-ltb, length-drop, oid_at, uint32, front_again, oid_number, length-uint32, IsMissing, less, missing_from}
use Rattle.pgp_message.specs.Stream as server
use Rattle.pgp_frontend_read.specs.Step as client

few : (at : ℕ) (bytes : List ℕ) → length bytes < at + 4 → IsMissing at bytes (missing_from (drop at bytes))
few at bytes short =
    let none : oid_at (drop at bytes) ≡ None = rw (lt-ltb (length (drop at bytes)) 4 (omega (arith, short, length-drop at bytes))) refl in
    inl (short, ap (λ o. less o (length (drop at bytes))) none)

announced : (at : ℕ) (bytes front rest : List ℕ) (len : ℕ) → length front ≡ at → len < 2 ^ 32 → bytes ≡ front ++ uint32 len ++ rest → length rest + 4 < len
    → IsMissing at bytes (missing_from (drop at bytes))
announced at bytes front rest len place fits parts more =
    let left : drop at bytes ≡ uint32 len ++ rest =
    ap (λ l. drop at l) (parts ∙ append_assoc front (uint32 len) rest) ∙ ap (λ n. drop n (front ++ (uint32 len ++ rest))) (sym place) ∙ drop-append_seam front (uint32 len ++ rest) in
    let read : oid_at (uint32 len ++ rest) ≡ Some (len, rest) =
    front_again 4 (λ l. from_be_bytes w32 l) (uint32 len) rest (length-uint32 len) ∙ ap (λ n. Some (n, rest)) (oid_number.back len fits) in
    let size : length (drop at bytes) ≡ 4 + length rest = ap length left ∙ omega (arith, length-append (uint32 len) rest, length-uint32 len) in
    let is : missing_from (drop at bytes) ≡ len - (4 + length rest) = ap (λ o. less o (length (drop at bytes))) (ap oid_at left ∙ read) ∙ ap (λ n. len - n) size in
    let all : length bytes ≡ at + 4 + length rest = ap length parts ∙ omega (arith, place, length-append (front ++ uint32 len) rest, length-append front (uint32 len), length-uint32 len) in
    inr (record { front = front; rest = rest; len = len; place = place; fits = fits; parts = parts; sum = omega (arith, is, all, more); some = omega (arith, is, more) })

pub of_server : (bytes : List ℕ) → server.IsPartial bytes → IsMissing 1 bytes (missing_from (drop 1 bytes))
of_server bytes partial = elim partial [
  | inl short ↦ few 1 bytes (omega (arith, short))
  | inr u ↦ announced 1 bytes (u.header.tag ∷ []) u.header.rest u.header.len refl u.header.fits u.header.parts u.missing
]

pub of_client : (opened : Bool) (bytes : List ℕ) → client.IsPartial opened bytes → IsMissing (client.place opened) bytes (missing_from (drop (client.place opened) bytes))
of_client opened bytes partial = elim partial [
  | inl short ↦ few (client.place opened) bytes (omega (arith, short))
  | inr u ↦ announced (client.place opened) bytes u.begins.front u.begins.rest u.len u.begins.at u.begins.fits u.begins.parts u.missing
]
