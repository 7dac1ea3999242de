-- A name and a value that are read at the front stand at their places among the bytes.
use Rattle.for_c.proofs.Common.{◌≡◌, ℕ, ◌+◌, List, ◌∷◌, ◌++◌, [], length, take, drop, Some, None, refl, sym, ap, ◌∙◌, subst, arith, inl, inr, length-append, append_assoc, StandsAt, string_at, text, UnexpectedEof, no_string, string_takes, string_whole, pair, StandsFrom}
use Rattle.for_c.specs.Settings.{PairRefused, PairSpelled}
use Rattle.for_c.proofs.Listings.{front_stands, part_stands}

module _ (rest name more : List ℕ) (first : string_at rest ≡ Some (name, more)) where
  pub open_pair : string_at more ≡ None → PairRefused rest UnexpectedEof
  open_pair none =
      let n = string_takes rest (name, more) first in
      inr (record { name = name; more = more; named = n.no_zero; parts = string_whole rest name more n.parts; no_zero = no_string more none })

  pub name_size : length rest ≡ length name + 1 + length more
  name_size = let n = string_takes rest (name, more) first in omega (arith, ap length n.parts, length-append name (0 ∷ more))

  module _ (value after : List ℕ) (second : string_at more ≡ Some (value, after)) where
    pub whole : rest ≡ pair (name, value) ++ after
    whole =
        let n = string_takes rest (name, more) first in
        let v = string_takes more (value, after) second in
        string_whole rest name more n.parts ∙ (ap (λ l. text name ++ l) (string_whole more value after v.parts) ∙ sym (append_assoc (text name) (text value) after))

    pub size : length rest ≡ length name + 1 + length value + 1 + length after
    size = let v = string_takes more (value, after) second in omega (arith, name_size, ap length v.parts, length-append value (0 ∷ after))

    pub found : (bytes : List ℕ) (at : ℕ) → StandsFrom bytes at rest → StandsAt PairSpelled at rest (take (length name) (drop at bytes), take (length value) (drop (at + length name + 1) bytes)) after
    found bytes at stands =
        let n = string_takes rest (name, more) first in
        let v = string_takes more (value, after) second in
        let here : take (length name) (drop at bytes) ≡ name = front_stands bytes rest name (0 ∷ more) at stands n.parts in
        let parts : rest ≡ text name ++ (value ++ 0 ∷ after) = string_whole rest name more n.parts ∙ ap (λ l. text name ++ l) v.parts in
        let place : at + length name + 1 ≡ at + length (text name) = omega (arith, length-append name (0 ∷ [])) in
        let there : take (length value) (drop (at + length name + 1) bytes) ≡ value = ap (λ k. take (length value) (drop k bytes)) place ∙ part_stands bytes rest (text name) value (0 ∷ after) at stands parts in
        subst (λ (x : List ℕ). StandsAt PairSpelled at rest (x, take (length value) (drop (at + length name + 1) bytes)) after) (sym here)
        (subst (λ (y : List ℕ). StandsAt PairSpelled at rest (name, y) after) (sym there) (record { front = pair (name, value); whole = whole; spelled = record { name = n.no_zero; value = v.no_zero; parts = refl } }))

pub unread : (rest : List ℕ) → string_at rest ≡ None → PairRefused rest UnexpectedEof
unread rest none = inl (no_string rest none)
