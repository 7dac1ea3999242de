-- Texts are read as they are spelled.
use Rattle.pgp_message.proofs.Common.{◌≡◌, ℕ, ◌<◌, List, [], ◌∷◌, ◌++◌, length, Ok, Err, refl, ap, subst, arith, length-append, Error, UnexpectedEof, NotUtf8, text, IsBytes, StandsAt, IsReader, text_at, string_front, string_whole, TextFound, text_found, text_read, text_refused, text_cut, string_none, text_falls, TextSpelled, TextRefused}

found : (place : ℕ) (bytes : List ℕ) (x : List ℕ) (after : List ℕ) → IsBytes bytes → text_at bytes ≡ Ok (x, after) → StandsAt TextSpelled place bytes x after
found place bytes x after h e =
    let t : TextFound bytes (Ok (x, after)) = subst (TextFound bytes) e (text_found bytes) in
    record { front = text x; whole = string_whole bytes x after t.0.parts; spelled = record { no_zero = t.0.no_zero; is = t.1; parts = refl } }

again : (place : ℕ) (x : List ℕ) (front after : List ℕ) → TextSpelled place x front → text_at (front ++ after) ≡ Ok (x, after)
again place x front after s = rw s.parts (text_read (text x ++ after) x after (string_front x after s.no_zero) s.is)

refused_as : (bytes : List ℕ) (e : Error) → TextFound bytes (Err e) → TextRefused bytes e
refused_as bytes UnexpectedEof t = t
refused_as bytes NotUtf8 t = record { string = t.string; more = t.rest; no_zero = t.parts.no_zero; bad = t.bad; parts = string_whole bytes t.string t.rest t.parts.parts }
refused_as bytes e t = absurd t

pub text_is_refused : (place : ℕ) (bytes : List ℕ) (e : Error) → IsBytes bytes → text_at bytes ≡ Err e → TextRefused bytes e
text_is_refused place bytes e h is = refused_as bytes e (subst (TextFound bytes) is (text_found bytes))

pub text_refuses : (place : ℕ) (bytes : List ℕ) (e : Error) → TextRefused bytes e → text_at bytes ≡ Err e
text_refuses place bytes UnexpectedEof h = text_cut bytes (string_none bytes h)
text_refuses place bytes NotUtf8 t = rw t.parts (text_refused (text t.string ++ t.more) t.string t.more (string_front t.string t.more t.no_zero) t.bad)
text_refuses place bytes e h = absurd h

some_bytes : (place : ℕ) (x : List ℕ) (front : List ℕ) → TextSpelled place x front → 0 < length front
some_bytes place x front s = omega (arith, ap length s.parts, length-append x (0 ∷ []))

pub text_reader : IsReader TextSpelled TextRefused (λ place. text_at)
text_reader = record { found = found; again = again; refused = text_is_refused; refuses = text_refuses; some = some_bytes; own = λ bytes h. h }

pub text_takes_bytes : (bytes : List ℕ) (x : List ℕ) (after : List ℕ) → text_at bytes ≡ Ok (x, after) → length after < length bytes
text_takes_bytes bytes x after e = text_falls bytes (x, after) e
