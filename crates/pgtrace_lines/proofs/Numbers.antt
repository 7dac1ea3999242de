-- The numbers of a list, one at a time.
use Rattle.pgtrace_lines.proofs.Common.{◌≡◌, ℕ, pos, ◌<◌, Bool, List, [], ◌∷◌, length, Option, Some, None, Result, Ok, Err, refl, sym, ap, ◌∙◌, arith, OnOk, if◌then◌else◌, w16, from_be_bytes, le-ltb, uint16_at, Style, Count, Key, ListEnds, Number, followed, numbers_of, list_of, number_part}
use Rattle.pgtrace_lines.proofs.PlainBodies.{some_is}

front_is : (a b : ℕ) (rest : List ℕ) → uint16_at (a ∷ b ∷ rest) ≡ Some (from_be_bytes w16 (a ∷ b ∷ []), rest)
front_is a b rest =
    let pick : Bool → Option (ℕ × List ℕ) = λ t. if t then None else Some (from_be_bytes w16 (a ∷ b ∷ []), rest) in
    ap pick (le-ltb (length (a ∷ b ∷ rest)) 2 (omega arith))

taken : (rest more : List ℕ) (n : ℕ) → uint16_at rest ≡ Some (n, more) → numbers_of rest ≡ n ∷ numbers_of more
taken [] more n e = absurd cc
taken (a ∷ []) more n e = absurd cc
taken (a ∷ b ∷ rest) more n e =
    let same = some_is (from_be_bytes w16 (a ∷ b ∷ []), rest) (n, more) (sym (front_is a b rest) ∙ e) in
    ap (λ p. p.0 ∷ numbers_of p.1) same

none : (rest : List ℕ) → uint16_at rest ≡ None → numbers_of rest ≡ []
none [] e = refl
none (a ∷ []) e = refl
none (a ∷ b ∷ rest) e = let h = sym (front_is a b rest) ∙ e in absurd cc

pub shorter : (rest more : List ℕ) (n : ℕ) → uint16_at rest ≡ Some (n, more) → length more < length rest
shorter [] more n e = absurd cc
shorter (a ∷ []) more n e = absurd cc
shorter (a ∷ b ∷ rest) more n e =
    let same = ap (λ p. length p.1) (some_is (from_be_bytes w16 (a ∷ b ∷ []), rest) (n, more) (sym (front_is a b rest) ∙ e)) in omega (arith, same)

pub number_more : (style : Style) (old new all rest more : List ℕ) (n : ℕ) → followed style old (list_of number_part (numbers_of rest) None) ≡ all → uint16_at rest ≡ Some (n, more)
    → new ≡ followed style old (Number (pos n) ∷ []) → followed style new (list_of number_part (numbers_of more) None) ≡ all
number_more style old new all rest more n so_far read grown =
    ap (λ l. followed style l (list_of number_part (numbers_of more) None)) grown ∙ ap (λ l. followed style old (list_of number_part l None)) (sym (taken rest more n read)) ∙ so_far

pub numbers_end : (style : Style) (old new all rest : List ℕ) → followed style old (list_of number_part (numbers_of rest) None) ≡ all → uint16_at rest ≡ None
    → new ≡ followed style old (ListEnds ∷ []) → new ≡ all
numbers_end style old new all rest so_far read grown = grown ∙ ap (λ l. followed style old (list_of number_part l None)) (sym (none rest read)) ∙ so_far

-- a list with its name and how long it is
pub columns_put : {T E : Type 0} (r : Result T E) (style : Style) (word name old keyed counted new : List ℕ) (n : ℕ) (l : List ℕ) → keyed ≡ followed style old (Key word name ∷ []) → counted ≡ followed style keyed (Count n ∷ []) → n ≡ length l
    → OnOk r (new ≡ followed style counted (list_of number_part l None)) → OnOk r (new ≡ followed style old (Key word name ∷ Count (length l) ∷ list_of number_part l None))
columns_put (Ok x) style word name old keyed counted new n l k c e f =
    f ∙ ap (λ t. followed style t (list_of number_part l None))
    (c ∙ ap (λ t. followed style t (Count n ∷ [])) k ∙ ap (λ m. followed style (followed style old (Key word name ∷ [])) (Count m ∷ [])) e)
columns_put (Err x) style word name old keyed counted new n l k c e f = tt
