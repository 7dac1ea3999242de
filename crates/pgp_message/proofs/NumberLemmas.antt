-- The numbers of a list are read as they are spelled.
use Rattle.pgp_message.proofs.Common.{◌≡◌, ℕ, ◌<◌, ◌^◌, List, ◌++◌, length, Ok, Err, Result, refl, sym, ap, subst, arith, inl, inr, w16, w32, from_be_bytes, Error, UnexpectedEof, uint16, oid, IsBytes, StandsAt, IsReader, uint16_at, oid_at, ok_is, differ, bind_ok, bind_err, number_takes, number_again, number_short, short_number, uint16_number, oid_number, FormatSpelled, FormatRefused, TypeSpelled, TypeRefused, format_at, type_at}

abbrev IsFormat : ℕ → Type 0
IsFormat n = n < 2 ^ 16

abbrev format_value : List ℕ → ℕ
format_value l = from_be_bytes w16 l

abbrev pub IsType : ℕ → Type 0
IsType n = n < 2 ^ 32

abbrev pub type_value : List ℕ → ℕ
type_value l = from_be_bytes w32 l

abbrev done : ℕ × List ℕ → Result (ℕ × List ℕ) Error
done x = Ok x

format_found : (place : ℕ) (bytes : List ℕ) (x : ℕ) (after : List ℕ) → IsBytes bytes → format_at bytes ≡ Ok (x, after) → StandsAt FormatSpelled place bytes x after
format_found place bytes x after h e =
    let w = bind_ok (uint16_at bytes) done (x, after) e in
    let t = number_takes 2 IsFormat uint16 format_value uint16_number bytes w.0 h w.1 in
    subst (λ (p : ℕ × List ℕ). StandsAt FormatSpelled place bytes p.0 p.1) (ok_is w.0 (x, after) w.2)
    (record { front = uint16 w.0.0; whole = t.parts; spelled = record { fits = t.fits; parts = refl } })

format_again : (place : ℕ) (x : ℕ) (front after : List ℕ) → FormatSpelled place x front → format_at (front ++ after) ≡ Ok (x, after)
format_again place x front after s = rw (s.parts, number_again 2 IsFormat uint16 format_value uint16_number x after s.fits) refl

format_refused : (place : ℕ) (bytes : List ℕ) (e : Error) → IsBytes bytes → format_at bytes ≡ Err e → FormatRefused bytes e
format_refused place bytes e h is =
    elim (bind_err (uint16_at bytes) done e is) [
      | inl cut ↦ subst (FormatRefused bytes) (sym cut.1) (number_short 2 IsFormat uint16 format_value uint16_number bytes cut.0)
      | inr w ↦ absurd (differ w.0 e w.2)
    ]

format_refuses : (place : ℕ) (bytes : List ℕ) (e : Error) → FormatRefused bytes e → format_at bytes ≡ Err e
format_refuses place bytes UnexpectedEof short = rw (short_number 2 IsFormat uint16 format_value uint16_number bytes short) refl
format_refuses place bytes e h = absurd h

format_some : (place : ℕ) (x : ℕ) (front : List ℕ) → FormatSpelled place x front → 0 < length front
format_some place x front s = omega (arith, ap length s.parts, uint16_number.len x)

pub format_reader : IsReader FormatSpelled FormatRefused (λ place. format_at)
format_reader = record { found = format_found; again = format_again; refused = format_refused; refuses = format_refuses; some = format_some; own = λ bytes h. h }

type_found : (place : ℕ) (bytes : List ℕ) (x : ℕ) (after : List ℕ) → IsBytes bytes → type_at bytes ≡ Ok (x, after) → StandsAt TypeSpelled place bytes x after
type_found place bytes x after h e =
    let w = bind_ok (oid_at bytes) done (x, after) e in
    let t = number_takes 4 IsType oid type_value oid_number bytes w.0 h w.1 in
    subst (λ (p : ℕ × List ℕ). StandsAt TypeSpelled place bytes p.0 p.1) (ok_is w.0 (x, after) w.2)
    (record { front = oid w.0.0; whole = t.parts; spelled = record { fits = t.fits; parts = refl } })

type_again : (place : ℕ) (x : ℕ) (front after : List ℕ) → TypeSpelled place x front → type_at (front ++ after) ≡ Ok (x, after)
type_again place x front after s = rw (s.parts, number_again 4 IsType oid type_value oid_number x after s.fits) refl

type_refused : (place : ℕ) (bytes : List ℕ) (e : Error) → IsBytes bytes → type_at bytes ≡ Err e → TypeRefused bytes e
type_refused place bytes e h is =
    elim (bind_err (oid_at bytes) done e is) [
      | inl cut ↦ subst (TypeRefused bytes) (sym cut.1) (number_short 4 IsType oid type_value oid_number bytes cut.0)
      | inr w ↦ absurd (differ w.0 e w.2)
    ]

type_refuses : (place : ℕ) (bytes : List ℕ) (e : Error) → TypeRefused bytes e → type_at bytes ≡ Err e
type_refuses place bytes UnexpectedEof short = rw (short_number 4 IsType oid type_value oid_number bytes short) refl
type_refuses place bytes e h = absurd h

type_some : (place : ℕ) (x : ℕ) (front : List ℕ) → TypeSpelled place x front → 0 < length front
type_some place x front s = omega (arith, ap length s.parts, oid_number.len x)

pub type_reader : IsReader TypeSpelled TypeRefused (λ place. type_at)
type_reader = record { found = type_found; again = type_again; refused = type_refused; refuses = type_refuses; some = type_some; own = λ bytes h. h }
