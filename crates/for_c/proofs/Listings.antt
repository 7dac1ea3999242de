-- The items that are read at the front stand at their places among the bytes.
use Rattle.for_c.proofs.Common.{◌≡◌, ℕ, ◌+◌, ◌<◌, ◌≤◌, List, [], ◌∷◌, ◌++◌, length, take, drop, Option, Some, None, Result, Ok, Err, refl, sym, ap, subst, ◌∙◌, arith, take-append-drop, drop-append_seam, take-append_seam, StandsAt, IsReader, ◌>>=◌, text_at, IsBytes, text, Error, UnexpectedEof, error_field_at, column_at, field_at, ErrorPart, FieldPart, error_field_reader, text_reader, StandsFrom}
use Rattle.std.proofs.lemmas.List.{length-append, append_assoc}
use Rattle.pgp_message.specs.ItemReading.{numbers_at}
use Rattle.for_c.proofs.Walks.{drop-drop}

-- a part of the bytes that stand from a place on stands after what comes before it
pub part_stands : (bytes rest before x more : List ℕ) (at : ℕ) → StandsFrom bytes at rest → rest ≡ before ++ (x ++ more) → take (length x) (drop (at + length before) bytes) ≡ x
part_stands bytes rest before x more at stands parts =
    let tail = drop (length rest) (drop at bytes) in
    let whole : drop at bytes ≡ before ++ (x ++ (more ++ tail)) =
    sym (take-append-drop (length rest) (drop at bytes)) ∙ (ap (λ l. l ++ tail) (stands ∙ parts) ∙ (append_assoc before (x ++ more) tail ∙ ap (λ l. before ++ l) (append_assoc x more tail))) in
    ap (λ l. take (length x) l) (sym (drop-drop (length before) at bytes) ∙ (ap (λ l. drop (length before) l) whole ∙ drop-append_seam before (x ++ (more ++ tail)))) ∙ take-append_seam x (more ++ tail)

pub front_stands : (bytes rest x more : List ℕ) (at : ℕ) → StandsFrom bytes at rest → rest ≡ x ++ more → take (length x) (drop at bytes) ≡ x
front_stands bytes rest x more at stands parts =
    let here : at + 0 ≡ at = omega arith in
    ap (λ k. take (length x) (drop k bytes)) (sym here) ∙ part_stands bytes rest [] x more at stands parts

module _ {V : Type 0} (Spelled : ℕ → V → List ℕ → Type 0) (Refused : List ℕ → Error → Type 0) (read : ℕ → List ℕ → Result (V × List ℕ) Error) (reader : IsReader Spelled Refused read) where
  pub reader_shorter : (place : ℕ) (bytes : List ℕ) (x : V) (more : List ℕ) → IsBytes bytes → read place bytes ≡ Ok (x, more) → length more < length bytes
  reader_shorter place bytes x more each is =
      let s = reader.found place bytes x more each is in
      omega (arith, reader.some place x s.front s.spelled, ap length s.whole, length-append s.front more)

  pub reader_found : (place : ℕ) (bytes : List ℕ) (x y : V) (more : List ℕ) → IsBytes bytes → read place bytes ≡ Ok (x, more) → y ≡ x → StandsAt Spelled place bytes y more
  reader_found place bytes x y more each is same = subst (λ z. StandsAt Spelled place bytes z more) (sym same) (reader.found place bytes x more each is)

-- a text, by the place of it
pub text_item : (bytes rest name more : List ℕ) (at : ℕ) → IsBytes rest → text_at rest ≡ Ok (name, more) → StandsFrom bytes at rest → take (length name) (drop at bytes) ≡ name
text_item bytes rest name more at each is stands =
    let s = text_reader.found at rest name more each is in
    front_stands bytes rest name (0 ∷ more) at stands (s.whole ∙ (ap (λ l. l ++ more) s.spelled.parts ∙ append_assoc name (0 ∷ []) more))

pub text_fits : (rest name more : List ℕ) → IsBytes rest → text_at rest ≡ Ok (name, more) → length name ≤ length rest
text_fits rest name more each is =
    let s = text_reader.found 0 rest name more each is in
    omega (arith, ap length s.whole, length-append s.front more, ap length s.spelled.parts, length-append name (0 ∷ []))

-- a field of an error, by the place of its value
pub error_value_item : (bytes rest : List ℕ) (x : ErrorPart) (more : List ℕ) (at : ℕ) → IsBytes rest → error_field_at rest ≡ Ok (x, more) → StandsFrom bytes at rest → take (length x.value) (drop (at + 1) bytes) ≡ x.value
error_value_item bytes rest x more at each is stands =
    let s = error_field_reader.found at rest x more each is in
    part_stands bytes rest (x.code ∷ []) x.value (0 ∷ more) at stands (s.whole ∙ (ap (λ l. l ++ more) s.spelled.parts ∙ ap (λ l. x.code ∷ l) (append_assoc x.value (0 ∷ []) more)))

pub error_value_fits : (rest : List ℕ) (x : ErrorPart) (more : List ℕ) → IsBytes rest → error_field_at rest ≡ Ok (x, more) → 1 + length x.value ≤ length rest
error_value_fits rest x more each is =
    let s = error_field_reader.found 0 rest x more each is in
    omega (arith, ap length s.whole, length-append s.front more, ap length s.spelled.parts, length-append x.value (0 ∷ []))

-- a column's description: the name, and the numbers after it
pub field_of_parts : (rest name behind : List ℕ) (r : Result (FieldPart × List ℕ) Error) → text_at rest ≡ Ok (name, behind) → numbers_at name behind ≡ r → field_at rest ≡ r
unfolding column_at
field_of_parts rest name behind r text numbers = rw text numbers

pub field_of_no_text : (rest : List ℕ) (e : Error) → text_at rest ≡ Err e → field_at rest ≡ Err e
unfolding column_at
field_of_no_text rest e text = rw text refl

-- a number alone is an item
pub number_whole : {A : Type 0} (read : Option (A × List ℕ)) (x : A × List ℕ) → read ≡ Some x → (read >>= λ x. Ok x) ≡ Ok x
number_whole read x is = rw is refl

pub number_short : {A : Type 0} (read : Option (A × List ℕ)) (e : Error) → (e ≡ UnexpectedEof) × (read ≡ None) → (read >>= λ (x : A × List ℕ). Ok x) ≡ Err e
number_short read e is = rw (is.0, is.1) refl
