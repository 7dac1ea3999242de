-- The fields of an error are read as they are spelled.
use Rattle.pgp_message.proofs.Common.{◌≡◌, ℕ, ◌<◌, List, [], ◌∷◌, ◌++◌, length, Result, Ok, Err, refl, sym, ap, subst, arith, inl, inr, Error, UnexpectedEof, text, IsBytes, StandsAt, IsReader, string_at, ok_is, differ, err_is, bind_ok, bind_err, string_takes, string_front, string_whole, no_string, string_none, string_falls, ErrorPart, ErrorFieldSpelled, ErrorFieldRefused, error_field_at}

abbrev with_value : ℕ → List ℕ × List ℕ → Result (ErrorPart × List ℕ) Error
with_value code s = Ok (record { code = code; value = s.0 }, s.1)

found : (place : ℕ) (bytes : List ℕ) (x : ErrorPart) (after : List ℕ) → IsBytes bytes → error_field_at bytes ≡ Ok (x, after) → StandsAt ErrorFieldSpelled place bytes x after
unfolding error_field_at
found place [] x after h e = absurd (differ (x, after) UnexpectedEof (sym e))
found place (code ∷ rest) x after h e =
    let w = bind_ok (string_at rest) (with_value code) (x, after) e in
    let s = string_takes rest w.0 w.1 in
    subst (λ (p : ErrorPart × List ℕ). StandsAt ErrorFieldSpelled place (code ∷ rest) p.0 p.1) (ok_is (record { code = code; value = w.0.0 }, w.0.1) (x, after) w.2)
    (record { front = code ∷ text w.0.0; whole = ap (λ l. code ∷ l) (string_whole rest w.0.0 w.0.1 s.parts); spelled = record { no_zero = s.no_zero; parts = refl } })

again : (place : ℕ) (x : ErrorPart) (front after : List ℕ) → ErrorFieldSpelled place x front → error_field_at (front ++ after) ≡ Ok (x, after)
unfolding error_field_at
again place x front after s = rw (s.parts, string_front x.value after s.no_zero) refl

refused : (place : ℕ) (bytes : List ℕ) (e : Error) → IsBytes bytes → error_field_at bytes ≡ Err e → ErrorFieldRefused bytes e
unfolding error_field_at
refused place [] e h is = subst (ErrorFieldRefused []) (err_is {A = ErrorPart × List ℕ} UnexpectedEof e is) (inl refl)
refused place (code ∷ rest) e h is =
    elim (bind_err (string_at rest) (with_value code) e is) [
      | inl cut ↦ subst (ErrorFieldRefused (code ∷ rest)) (sym cut.1) (inr (record { code = code; more = rest; parts = refl; no_zero = no_string rest cut.0 }))
      | inr w ↦ absurd (differ (record { code = code; value = w.0.0 }, w.0.1) e w.2)
    ]

refuses : (place : ℕ) (bytes : List ℕ) (e : Error) → ErrorFieldRefused bytes e → error_field_at bytes ≡ Err e
unfolding error_field_at
refuses place bytes UnexpectedEof (inl none) = rw none refl
refuses place bytes UnexpectedEof (inr s) = rw (s.parts, string_none s.more s.no_zero) refl
refuses place bytes e h = absurd h

some_bytes : (place : ℕ) (x : ErrorPart) (front : List ℕ) → ErrorFieldSpelled place x front → 0 < length front
some_bytes place x front s = omega (arith, ap length s.parts)

pub error_field_reader : IsReader ErrorFieldSpelled ErrorFieldRefused (λ place. error_field_at)
error_field_reader = record { found = found; again = again; refused = refused; refuses = refuses; some = some_bytes; own = λ bytes h. h }

pub error_field_falls : (bytes : List ℕ) (x : ErrorPart) (after : List ℕ) → error_field_at bytes ≡ Ok (x, after) → length after < length bytes
unfolding error_field_at
error_field_falls [] x after e = absurd (differ (x, after) UnexpectedEof (sym e))
error_field_falls (code ∷ rest) x after e =
    let w = bind_ok (string_at rest) (with_value code) (x, after) e in
    omega (arith, string_falls rest w.0 w.1, ap (λ p. length p.1) (ok_is (record { code = code; value = w.0.0 }, w.0.1) (x, after) w.2))
