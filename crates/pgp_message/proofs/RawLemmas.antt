-- Strings are read as they are spelled.
use Rattle.pgp_message.proofs.Common.{◌≡◌, ℕ, ◌<◌, List, [], ◌∷◌, ◌++◌, length, Ok, Err, refl, sym, ap, subst, arith, inl, inr, length-append, Error, UnexpectedEof, IsBytes, text, StandsAt, IsReader, string_at, bind_ok, bind_err, ok_is, differ, no_string, string_none, string_falls, string_takes, string_front, string_whole, NotUtf8, StringSpelled, StringRefused, raw_string_at, whole_string}

string_found : (place : ℕ) (bytes x after : List ℕ) → IsBytes bytes → raw_string_at bytes ≡ Ok (x, after) → StandsAt StringSpelled place bytes x after
string_found place bytes x after h e =
    let w = bind_ok (string_at bytes) whole_string (x, after) e in
    let s = string_takes bytes w.0 w.1 in
    subst (λ (p : List ℕ × List ℕ). StandsAt StringSpelled place bytes p.0 p.1) (ok_is w.0 (x, after) w.2)
    (record { front = text w.0.0; whole = string_whole bytes w.0.0 w.0.1 s.parts; spelled = record { no_zero = s.no_zero; is = tt; parts = refl } })

string_again : (place : ℕ) (x front after : List ℕ) → StringSpelled place x front → raw_string_at (front ++ after) ≡ Ok (x, after)
string_again place x front after s = rw (s.parts, string_front x after s.no_zero) refl

string_refused : (place : ℕ) (bytes : List ℕ) (e : Error) → IsBytes bytes → raw_string_at bytes ≡ Err e → StringRefused bytes e
string_refused place bytes e h is =
    elim (bind_err (string_at bytes) whole_string e is) [
      | inl cut ↦ subst (StringRefused bytes) (sym cut.1) (no_string bytes cut.0)
      | inr w ↦ absurd (differ w.0 e w.2)
    ]

string_refuses : (place : ℕ) (bytes : List ℕ) (e : Error) → StringRefused bytes e → raw_string_at bytes ≡ Err e
string_refuses place bytes UnexpectedEof h = rw (string_none bytes h) refl
string_refuses place bytes NotUtf8 h = absurd (h.bad tt)
string_refuses place bytes e h = absurd h

string_has_bytes : (place : ℕ) (x front : List ℕ) → StringSpelled place x front → 0 < length front
string_has_bytes place x front s = omega (arith, ap length s.parts, length-append x (0 ∷ []))

pub string_reader : IsReader StringSpelled StringRefused (λ place. raw_string_at)
string_reader = record { found = string_found; again = string_again; refused = string_refused; refuses = string_refuses; some = string_has_bytes; own = λ bytes h. h }

pub raw_string_falls : (bytes x after : List ℕ) → raw_string_at bytes ≡ Ok (x, after) → length after < length bytes
raw_string_falls bytes x after e =
    let w = bind_ok (string_at bytes) whole_string (x, after) e in
    omega (arith, string_falls bytes w.0 w.1, ap (λ p. length p.1) (ok_is w.0 (x, after) w.2))
