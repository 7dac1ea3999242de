-- The columns of a row are read as they are spelled.
use Rattle.pgp_message.proofs.Common.{◌≡◌, ℕ, ℤ, ◌+◌, ◌<◌, List, [], ◌∷◌, ◌++◌, length, Some, Result, Ok, Err, refl, sym, ap, subst, ◌∙◌, append_assoc, arith, inl, inr, length-append, FitsSigned, w16, w32, from_be_bytes, cast_signed, Error, UnexpectedEof, NotUtf8, int16, int32, oid, text, IsBytes, StandsAt, IsReader, ◌>>=◌, oid_at, int16_at, int32_at, text_at, ok_is, differ, IsBytes-after, err, err_is, bind_ok, bind_err, oid_number, int16_number, int32_number, number_takes, number_again, number_short, front_falls, AnyBytes, NameSpelled, NameRefused, FieldPart, numbers_of, NumbersFit, ColumnSpelled, ColumnRefused, FieldSpelled, FieldRefused, RawFieldSpelled, RawFieldRefused, numbers_at, numbers_after, column_at, field_at, raw_field_at, raw_string_at, IsUtf8}
use Rattle.pgp_message.proofs.RawLemmas.{string_reader}
use Rattle.pgp_message.proofs.TextLemmas.{text_reader}
use Rattle.pgp_message.proofs.NumberLemmas.{IsType, type_value}
use Rattle.pgp_base.proofs.PartLemmas.{int32_value}

abbrev int16_value : List ℕ → ℤ
int16_value l = cast_signed w16 (from_be_bytes w16 l)

-- what is read after each number
abbrev after_5 : List ℕ → ℕ × List ℕ → ℤ × List ℕ → ℕ × List ℕ → ℤ × List ℕ → ℤ × List ℕ → ℤ × List ℕ → Result (FieldPart × List ℕ) Error
after_5 name a b c d e f = Ok (record { name = name; table_oid = a.0; column_id = b.0; type_oid = c.0; type_size = d.0; type_modifier = e.0; format = f.0 }, f.1)

abbrev after_4 : List ℕ → ℕ × List ℕ → ℤ × List ℕ → ℕ × List ℕ → ℤ × List ℕ → ℤ × List ℕ → Result (FieldPart × List ℕ) Error
after_4 name a b c d e = int16_at e.1 >>= after_5 name a b c d e

abbrev after_3 : List ℕ → ℕ × List ℕ → ℤ × List ℕ → ℕ × List ℕ → ℤ × List ℕ → Result (FieldPart × List ℕ) Error
after_3 name a b c d = int32_at d.1 >>= after_4 name a b c d

abbrev after_2 : List ℕ → ℕ × List ℕ → ℤ × List ℕ → ℕ × List ℕ → Result (FieldPart × List ℕ) Error
after_2 name a b c = int16_at c.1 >>= after_3 name a b c

abbrev after_1 : List ℕ → ℕ × List ℕ → ℤ × List ℕ → Result (FieldPart × List ℕ) Error
after_1 name a b = oid_at b.1 >>= after_2 name a b

abbrev after_0 : List ℕ → ℕ × List ℕ → Result (FieldPart × List ℕ) Error
after_0 name a = int16_at a.1 >>= after_1 name a

-- the six numbers that were read
record Six (name rest : List ℕ) (x : FieldPart) (after : List ℕ) : Type 0 where
  r1 : List ℕ
  r2 : List ℕ
  r3 : List ℕ
  r4 : List ℕ
  r5 : List ℕ
  name_is : x.name ≡ name
  e0 : oid_at rest ≡ Some (x.table_oid, r1)
  e1 : int16_at r1 ≡ Some (x.column_id, r2)
  e2 : oid_at r2 ≡ Some (x.type_oid, r3)
  e3 : int16_at r3 ≡ Some (x.type_size, r4)
  e4 : int32_at r4 ≡ Some (x.type_modifier, r5)
  e5 : int16_at r5 ≡ Some (x.format, after)

six : (name rest : List ℕ) (x : FieldPart) (after : List ℕ) → numbers_at name rest ≡ Ok (x, after) → Six name rest x after
unfolding numbers_at
six name rest x after is =
    let a = bind_ok (oid_at rest) (after_0 name) (x, after) is in
    let b = bind_ok (int16_at a.0.1) (after_1 name a.0) (x, after) a.2 in
    let c = bind_ok (oid_at b.0.1) (after_2 name a.0 b.0) (x, after) b.2 in
    let d = bind_ok (int16_at c.0.1) (after_3 name a.0 b.0 c.0) (x, after) c.2 in
    let e = bind_ok (int32_at d.0.1) (after_4 name a.0 b.0 c.0 d.0) (x, after) d.2 in
    let f = bind_ok (int16_at e.0.1) (after_5 name a.0 b.0 c.0 d.0 e.0) (x, after) e.2 in
    let whole : FieldPart × List ℕ = (record { name = name; table_oid = a.0.0; column_id = b.0.0; type_oid = c.0.0; type_size = d.0.0; type_modifier = e.0.0; format = f.0.0 }, f.0.1) in
    subst (λ (p : FieldPart × List ℕ). Six name rest p.0 p.1) (ok_is whole (x, after) f.2)
    (record { r1 = a.0.1; r2 = b.0.1; r3 = c.0.1; r4 = d.0.1; r5 = e.0.1; name_is = refl; e0 = a.1; e1 = b.1; e2 = c.1; e3 = d.1; e4 = e.1; e5 = f.1 })

numbers_len : (name rest : List ℕ) (x : FieldPart) (after : List ℕ) → numbers_at name rest ≡ Ok (x, after) → length after + 18 ≡ length rest
numbers_len name rest x after is =
    let s = six name rest x after is in
    omega (arith, front_falls 4 type_value rest _ s.e0, front_falls 2 int16_value s.r1 _ s.e1, front_falls 4 type_value s.r2 _ s.e2, front_falls 2 int16_value s.r3 _ s.e3, front_falls 4 int32_value s.r4 _ s.e4, front_falls 2 int16_value s.r5 _ s.e5)

pub record TakesNumbers (name rest : List ℕ) (x : FieldPart) (after : List ℕ) : Type 0 where
  pub name_is : x.name ≡ name
  pub parts : rest ≡ numbers_of x ++ after
  pub fits : NumbersFit x

joined_numbers : (a b c d e f after : List ℕ) → a ++ (b ++ (c ++ (d ++ (e ++ (f ++ after))))) ≡ (a ++ (b ++ (c ++ (d ++ (e ++ f))))) ++ after
joined_numbers a b c d e f after = simp append_assoc refl

pub numbers_found : (name rest : List ℕ) (x : FieldPart) (after : List ℕ) → IsBytes rest → numbers_at name rest ≡ Ok (x, after) → TakesNumbers name rest x after
numbers_found name rest x after h is =
    let s = six name rest x after is in
    let a = number_takes 4 IsType oid type_value oid_number rest (x.table_oid, s.r1) h s.e0 in
    let b = number_takes 2 (FitsSigned w16) int16 int16_value int16_number s.r1 (x.column_id, s.r2) a.tail s.e1 in
    let c = number_takes 4 IsType oid type_value oid_number s.r2 (x.type_oid, s.r3) b.tail s.e2 in
    let d = number_takes 2 (FitsSigned w16) int16 int16_value int16_number s.r3 (x.type_size, s.r4) c.tail s.e3 in
    let e = number_takes 4 (FitsSigned w32) int32 int32_value int32_number s.r4 (x.type_modifier, s.r5) d.tail s.e4 in
    let f = number_takes 2 (FitsSigned w16) int16 int16_value int16_number s.r5 (x.format, after) e.tail s.e5 in
    record {
      name_is = s.name_is;
      parts = a.parts ∙ ap (λ l. oid x.table_oid ++ l) (b.parts ∙ ap (λ l. int16 x.column_id ++ l) (c.parts ∙ ap (λ l. oid x.type_oid ++ l) (d.parts ∙ ap (λ l. int16 x.type_size ++ l) (e.parts ∙ ap (λ l. int32 x.type_modifier ++ l) f.parts))))
          ∙ joined_numbers (oid x.table_oid) (int16 x.column_id) (oid x.type_oid) (int16 x.type_size) (int32 x.type_modifier) (int16 x.format) after;
      fits = record { table_oid = a.fits; column_id = b.fits; type_oid = c.fits; type_size = d.fits; type_modifier = e.fits; format = f.fits };
    }

pub numbers_again : (x : FieldPart) (after : List ℕ) → NumbersFit x → numbers_at x.name (numbers_of x ++ after) ≡ Ok (x, after)
unfolding numbers_at
numbers_again x after fits =
    let parts = sym (joined_numbers (oid x.table_oid) (int16 x.column_id) (oid x.type_oid) (int16 x.type_size) (int32 x.type_modifier) (int16 x.format) after) in
    ap (numbers_at x.name) parts ∙ rw (
      number_again 4 IsType oid type_value oid_number x.table_oid (int16 x.column_id ++ (oid x.type_oid ++ (int16 x.type_size ++ (int32 x.type_modifier ++ (int16 x.format ++ after))))) fits.table_oid,
      number_again 2 (FitsSigned w16) int16 int16_value int16_number x.column_id (oid x.type_oid ++ (int16 x.type_size ++ (int32 x.type_modifier ++ (int16 x.format ++ after)))) fits.column_id,
      number_again 4 IsType oid type_value oid_number x.type_oid (int16 x.type_size ++ (int32 x.type_modifier ++ (int16 x.format ++ after))) fits.type_oid,
      number_again 2 (FitsSigned w16) int16 int16_value int16_number x.type_size (int32 x.type_modifier ++ (int16 x.format ++ after)) fits.type_size,
      number_again 4 (FitsSigned w32) int32 int32_value int32_number x.type_modifier (int16 x.format ++ after) fits.type_modifier,
      number_again 2 (FitsSigned w16) int16 int16_value int16_number x.format after fits.format,
    ) refl

-- the numbers are rejected only where they are cut short
pub record CutNumbers (rest : List ℕ) (e : Error) : Type 0 where
  pub is : e ≡ UnexpectedEof
  pub short : length rest < 18

pub numbers_refused : (name rest : List ℕ) (e : Error) → numbers_at name rest ≡ Err e → CutNumbers rest e
unfolding numbers_at
numbers_refused name rest e is =
    elim (bind_err (oid_at rest) (after_0 name) e is) [
      | inl cut ↦ record { is = cut.1; short = omega (arith, number_short 4 IsType oid type_value oid_number rest cut.0) }
      | inr a ↦
          let fa = front_falls 4 type_value rest a.0 a.1 in
          elim (bind_err (int16_at a.0.1) (after_1 name a.0) e a.2) [
            | inl cut ↦ record { is = cut.1; short = omega (arith, fa, number_short 2 (FitsSigned w16) int16 int16_value int16_number a.0.1 cut.0) }
            | inr b ↦
                let fb = front_falls 2 int16_value a.0.1 b.0 b.1 in
                elim (bind_err (oid_at b.0.1) (after_2 name a.0 b.0) e b.2) [
                  | inl cut ↦ record { is = cut.1; short = omega (arith, fa, fb, number_short 4 IsType oid type_value oid_number b.0.1 cut.0) }
                  | inr c ↦
                      let fc = front_falls 4 type_value b.0.1 c.0 c.1 in
                      elim (bind_err (int16_at c.0.1) (after_3 name a.0 b.0 c.0) e c.2) [
                        | inl cut ↦ record { is = cut.1; short = omega (arith, fa, fb, fc, number_short 2 (FitsSigned w16) int16 int16_value int16_number c.0.1 cut.0) }
                        | inr d ↦
                            let fd = front_falls 2 int16_value c.0.1 d.0 d.1 in
                            elim (bind_err (int32_at d.0.1) (after_4 name a.0 b.0 c.0 d.0) e d.2) [
                              | inl cut ↦ record { is = cut.1; short = omega (arith, fa, fb, fc, fd, number_short 4 (FitsSigned w32) int32 int32_value int32_number d.0.1 cut.0) }
                              | inr g ↦
                                  let fg = front_falls 4 int32_value d.0.1 g.0 g.1 in
                                  elim (bind_err (int16_at g.0.1) (after_5 name a.0 b.0 c.0 d.0 g.0) e g.2) [
                                    | inl cut ↦ record { is = cut.1; short = omega (arith, fa, fb, fc, fd, fg, number_short 2 (FitsSigned w16) int16 int16_value int16_number g.0.1 cut.0) }
                                    | inr f ↦ absurd (differ (record { name = name; table_oid = a.0.0; column_id = b.0.0; type_oid = c.0.0; type_size = d.0.0; type_modifier = g.0.0; format = f.0.0 }, f.0.1) e f.2)
                                  ]
                            ]
                      ]
                ]
          ]
    ]

pub short_numbers : (name rest : List ℕ) → length rest < 18 → numbers_at name rest ≡ Err UnexpectedEof
short_numbers name rest short =
    let by_result : (r : Result (FieldPart × List ℕ) Error) → numbers_at name rest ≡ r → numbers_at name rest ≡ Err UnexpectedEof =
    λ r. elim r as (λ v. numbers_at name rest ≡ v → numbers_at name rest ≡ Err UnexpectedEof) [
      | Ok x ↦ λ e. absurd (omega (arith, short, numbers_len name rest x.0 x.1 e))
      | Err d ↦ λ e. e ∙ ap err (numbers_refused name rest d e).is
    ] in
    by_result (numbers_at name rest) refl

-- a name first, then the numbers
module _ (IsName : List ℕ → Type 0) (name_at : List ℕ → Result (List ℕ × List ℕ) Error) (names : IsReader (NameSpelled IsName) (NameRefused IsName) (λ place. name_at)) where
  after_found : (place : ℕ) (bytes : List ℕ) (t : Result (List ℕ × List ℕ) Error) (x : FieldPart) (after : List ℕ) → IsBytes bytes → name_at bytes ≡ t → numbers_after t ≡ Ok (x, after) → StandsAt (ColumnSpelled IsName) place bytes x after
  after_found place bytes (Err e) x after h is e' = absurd (differ (x, after) e (sym e'))
  after_found place bytes (Ok s) x after h is e' =
      let named = names.found place bytes s.0 s.1 h is in
      let name : named.front ≡ text s.0 = named.spelled.parts in
      let tail : IsBytes s.1 = IsBytes-after named.front s.1 bytes named.whole h in
      let n = numbers_found s.0 s.1 x after tail e' in
      record {
        front = text s.0 ++ numbers_of x;
        whole = named.whole ∙ ap (λ l. l ++ s.1) name ∙ ap (λ l. text s.0 ++ l) n.parts ∙ sym (append_assoc (text s.0) (numbers_of x) after);
        spelled = record { no_zero = rw n.name_is named.spelled.no_zero; is = rw n.name_is named.spelled.is; fits = n.fits; parts = ap (λ z. text z ++ numbers_of x) (sym n.name_is) };
      }

  found : (place : ℕ) (bytes : List ℕ) (x : FieldPart) (after : List ℕ) → IsBytes bytes → column_at name_at bytes ≡ Ok (x, after) → StandsAt (ColumnSpelled IsName) place bytes x after
  unfolding column_at
  found place bytes x after h e = after_found place bytes (name_at bytes) x after h refl e

  again : (place : ℕ) (x : FieldPart) (front after : List ℕ) → ColumnSpelled IsName place x front → column_at name_at (front ++ after) ≡ Ok (x, after)
  unfolding column_at
  again place x front after s =
      let whole : front ++ after ≡ text x.name ++ (numbers_of x ++ after) = ap (λ l. l ++ after) s.parts ∙ append_assoc (text x.name) (numbers_of x) after in
      let name : name_at (front ++ after) ≡ Ok (x.name, numbers_of x ++ after) =
      rw whole (names.again place x.name (text x.name) (numbers_of x ++ after) (record { no_zero = s.no_zero; is = s.is; parts = refl })) in
      ap numbers_after name ∙ numbers_again x after s.fits

  -- what rejects a name rejects a column
  of_name : (bytes : List ℕ) (e : Error) → NameRefused IsName bytes e → ColumnRefused IsName bytes e
  of_name bytes UnexpectedEof h = inl h
  of_name bytes NotUtf8 h = h
  of_name bytes e h = absurd h

  after_refused : (place : ℕ) (bytes : List ℕ) (t : Result (List ℕ × List ℕ) Error) (e : Error) → IsBytes bytes → name_at bytes ≡ t → numbers_after t ≡ Err e → ColumnRefused IsName bytes e
  after_refused place bytes (Err d) e h is e' = of_name bytes e (names.refused place bytes e h (is ∙ ap err (err_is {A = FieldPart × List ℕ} d e e')))
  after_refused place bytes (Ok s) e h is e' =
      let named = names.found place bytes s.0 s.1 h is in
      let cut = numbers_refused s.0 s.1 e e' in
      subst (ColumnRefused IsName bytes) (sym cut.is) (inr (record { name = s.0; more = s.1; no_zero = named.spelled.no_zero; is = named.spelled.is; parts = named.whole ∙ ap (λ l. l ++ s.1) named.spelled.parts; short = cut.short }))

  refused : (place : ℕ) (bytes : List ℕ) (e : Error) → IsBytes bytes → column_at name_at bytes ≡ Err e → ColumnRefused IsName bytes e
  unfolding column_at
  refused place bytes e h is = after_refused place bytes (name_at bytes) e h refl is

  refuses : (place : ℕ) (bytes : List ℕ) (e : Error) → ColumnRefused IsName bytes e → column_at name_at bytes ≡ Err e
  unfolding column_at
  refuses place bytes UnexpectedEof (inl h) = ap numbers_after (names.refuses place bytes UnexpectedEof h)
  refuses place bytes UnexpectedEof (inr s) =
      let name : name_at bytes ≡ Ok (s.name, s.more) = rw s.parts (names.again place s.name (text s.name) s.more (record { no_zero = s.no_zero; is = s.is; parts = refl })) in
      ap numbers_after name ∙ short_numbers s.name s.more s.short
  refuses place bytes NotUtf8 h = ap numbers_after (names.refuses place bytes NotUtf8 h)
  refuses place bytes e h = absurd h

  some_bytes : (place : ℕ) (x : FieldPart) (front : List ℕ) → ColumnSpelled IsName place x front → 0 < length front
  some_bytes place x front s = omega (arith, ap length s.parts, length-append (text x.name) (numbers_of x), length-append x.name (0 ∷ []))

  pub column_reader : IsReader (ColumnSpelled IsName) (ColumnRefused IsName) (λ place. column_at name_at)
  column_reader = record { found = found; again = again; refused = refused; refuses = refuses; some = some_bytes; own = λ bytes h. h }

pub field_reader : IsReader FieldSpelled FieldRefused (λ place. field_at)
field_reader = column_reader IsUtf8 text_at text_reader

pub raw_field_reader : IsReader RawFieldSpelled RawFieldRefused (λ place. raw_field_at)
raw_field_reader = column_reader AnyBytes raw_string_at string_reader
