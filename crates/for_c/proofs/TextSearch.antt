-- Lexemes and items of queries stand at their places among the bytes; and what is written of them.
use Rattle.for_c.proofs.Common.{◌≡◌, ℕ, ◌+◌, ◌-◌, ◌<◌, ◌≤◌, true, List, [], ◌∷◌, ◌++◌, length, take, drop, map, None, Some, Result, Ok, Err, refl, sym, ap, subst, ◌∙◌, arith, length-append, IfErr, flat_map, w16, from_be_bytes, is_utf8, length-drop, Cause, Wants, WantsMemory, Writes, either, first, StandsAt, Held, text, uint16, Error, length-uint16, Begins, pairs, QueryItem, operand, negation, conjunction, disjunction, phrase, query_item, lexeme, pairs_again, pairs_size, IsQueryItemInside, item_before, numbers, query_item_in, utf8_cause, StandsFrom, rest_of}
use Rattle.std.proofs.Common.{length-take}
use Rattle.std.specs.Prelude.{◌⊎◌}
use Rattle.std.proofs.lemmas.List.{append_assoc}
use Rattle.for_c.proofs.Listings.{front_stands, part_stands}
use Rattle.for_c.proofs.Walks.{rest_between}

-- bytes that stand from a place on lie before the end
pub stands_within : (bytes rest : List ℕ) (at : ℕ) → StandsFrom bytes at rest → 0 < length rest → at + length rest ≤ length bytes
stands_within bytes rest at stands some = omega (arith, some, ap length stands, length-take (length rest) (drop at bytes), length-drop at bytes)

as_pairs : (xs : List ℕ) → numbers xs ≡ pairs xs
as_pairs [] = refl
as_pairs (a ∷ []) = refl
as_pairs (a ∷ b ∷ more) = ap (λ l. from_be_bytes w16 (a ∷ b ∷ []) ∷ l) (as_pairs more)

-- a lexeme: the text, the byte 0, the count, and the positions
module _ (rest more : List ℕ) (x : List ℕ × List ℕ) (b : Begins lexeme.part rest x more) where
  abbrev count : List ℕ
  count = uint16 (length x.1)

  abbrev places : List ℕ
  places = flat_map uint16 x.1

  whole : rest ≡ (text x.0 ++ (count ++ places)) ++ more
  whole = b.whole ∙ ap (λ l. l ++ more) (b.spelled.whole ∙ (ap (λ l. l ++ b.spelled.second) b.spelled.one.0.1 ∙ ap (λ l. text x.0 ++ l) b.spelled.other.1.1))

  pub lexeme_size : length rest ≡ (length x.0 + 3 + (length x.1 + length x.1)) + length more
  lexeme_size =
      omega (arith, ap length whole, length-append (text x.0 ++ (count ++ places)) more, length-append (text x.0) (count ++ places), length-append x.0 (0 ∷ []), length-append count places, length-uint16 (length x.1), pairs_size x.1)

  lexeme_text : (bytes : List ℕ) (at : ℕ) → StandsFrom bytes at rest → take (length x.0) (drop at bytes) ≡ x.0
  lexeme_text bytes at from =
      front_stands bytes rest x.0 ((0 ∷ (count ++ places)) ++ more) at from
      (whole ∙ (ap (λ l. l ++ more) (append_assoc x.0 (0 ∷ []) (count ++ places)) ∙ append_assoc x.0 (0 ∷ (count ++ places)) more))

  lexeme_positions : (bytes : List ℕ) (at start end : ℕ) → StandsFrom bytes at rest → start ≡ at + length x.0 + 3 → end ≡ at + (length rest - length more) → numbers (rest_of bytes start end) ≡ x.1
  lexeme_positions bytes at start end from first last =
      let head = text x.0 ++ count in
      let size : length head ≡ length x.0 + 3 = omega (arith, length-append (text x.0) count, length-append x.0 (0 ∷ []), length-uint16 (length x.1)) in
      let parts : rest ≡ head ++ (places ++ more) = whole ∙ (ap (λ l. l ++ more) (sym (append_assoc (text x.0) count places)) ∙ append_assoc head places more) in
      let within = stands_within bytes rest at from (omega (arith, lexeme_size)) in
      let extent : end - start ≡ length places = omega (arith, first, last, lexeme_size, pairs_size x.1) in
      let there : start ≡ at + length head = omega (arith, first, size) in
      let is : rest_of bytes start end ≡ places =
      rest_between bytes start end (omega (arith, first, last, lexeme_size)) (omega (arith, last, lexeme_size, within))
      ∙ (ap (λ k. take k (drop start bytes)) extent ∙ (ap (λ k. take (length places) (drop k bytes)) there ∙ part_stands bytes rest head places more at from parts)) in
      ap numbers is ∙ (as_pairs places ∙ pairs_again x.1 b.spelled.other.1.0)

  pub lexeme_placed : (bytes : List ℕ) (at start end : ℕ) → StandsFrom bytes at rest → start ≡ at + length x.0 + 3 → end ≡ at + (length rest - length more)
      → StandsAt (λ place. lexeme.part.Spelled) at rest (take (length x.0) (drop at bytes), numbers (rest_of bytes start end)) more
  lexeme_placed bytes at start end from first last =
      let found : StandsAt (λ place. lexeme.part.Spelled) at rest x more = record { front = b.front; whole = b.whole; spelled = b.spelled } in
      subst (λ z. StandsAt (λ place. lexeme.part.Spelled) at rest (z, numbers (rest_of bytes start end)) more) (sym (lexeme_text bytes at from))
      (subst (λ ns. StandsAt (λ place. lexeme.part.Spelled) at rest (x.0, ns) more) (sym (lexeme_positions bytes at start end from first last)) found)

-- an item of a query, by the place where it ends

pub query_long : (rest more : List ℕ) (x : QueryItem) → Begins query_item.part rest x more → length more + 2 ≤ length rest
query_long rest more (operand z weights prefix) b = omega (arith, ap length b.whole, length-append b.front more, ap length b.spelled.3)
query_long rest more negation b = omega (arith, ap length b.whole, length-append b.front more, ap length b.spelled)
query_long rest more conjunction b = omega (arith, ap length b.whole, length-append b.front more, ap length b.spelled)
query_long rest more disjunction b = omega (arith, ap length b.whole, length-append b.front more, ap length b.spelled)
query_long rest more (phrase distance) b = omega (arith, ap length b.whole, length-append b.front more, ap length b.spelled.1)

module _ (bytes rest more : List ℕ) (at end : ℕ) (from : StandsFrom bytes at rest) (last : end ≡ at + (length rest - length more)) where
  query_in : (x : QueryItem) → Begins query_item.part rest x more → query_item_in bytes (item_before x end) ≡ x
  query_in (operand z weights prefix) b =
      let flag = b.spelled.0 in
      let t = b.spelled.1 in
      let head = 1 ∷ weights ∷ flag ∷ [] in
      let parts : rest ≡ head ++ (z ++ (0 ∷ more)) = b.whole ∙ (ap (λ l. l ++ more) b.spelled.3 ∙ (ap (λ l. 1 ∷ weights ∷ flag ∷ (l ++ more)) b.spelled.2.0.1 ∙ ap (λ l. 1 ∷ weights ∷ flag ∷ l) (append_assoc z (0 ∷ []) more))) in
      let place : end - (length z + 1) ≡ at + length head = omega (arith, last, ap length parts, length-append z (0 ∷ more)) in
      ap (λ l. operand l weights prefix) (ap (λ k. take (length z) (drop k bytes)) place ∙ part_stands bytes rest head z (0 ∷ more) at from parts)
  query_in negation b = refl
  query_in conjunction b = refl
  query_in disjunction b = refl
  query_in (phrase distance) b = refl

  pub query_placed : (x : QueryItem) → Begins query_item.part rest x more → StandsAt (λ place. query_item.part.Spelled) at rest (query_item_in bytes (item_before x end)) more
  query_placed x b = subst (λ y. StandsAt (λ place. query_item.part.Spelled) at rest y more) (sym (query_in x b)) (record { front = b.front; whole = b.whole; spelled = b.spelled })

pub query_inside : (rest more : List ℕ) (x : QueryItem) (at end size : ℕ) → Begins query_item.part rest x more → end ≡ at + (length rest - length more) → at + length rest ≤ size → IsQueryItemInside size (item_before x end)
query_inside rest more (operand z weights prefix) at end size b last within =
    let long : length z + 4 + length more ≡ length rest =
    omega (arith, ap length b.whole, length-append b.front more, ap length b.spelled.3, ap length b.spelled.2.0.1, length-append z (0 ∷ [])) in
    (omega arith, omega (arith, long, last, within), ((λ other. absurd (other refl)), (λ other. refl)))
query_inside rest more negation at end size b last within = (omega arith, omega arith, ((λ other. (refl, refl, refl)), (λ other. refl)))
query_inside rest more conjunction at end size b last within = (omega arith, omega arith, ((λ other. (refl, refl, refl)), (λ other. refl)))
query_inside rest more disjunction at end size b last within = (omega arith, omega arith, ((λ other. (refl, refl, refl)), (λ other. refl)))
query_inside rest more (phrase distance) at end size b last within = (omega arith, omega arith, ((λ other. (refl, refl, refl)), (λ other. absurd (other refl))))

-- what is written

pub then_cause : (z : List ℕ) (d : Cause) → is_utf8 z ≡ true → either (utf8_cause z) d ≡ d
then_cause z d h = rw h refl

-- what a writer at the end says of its error
pub writes_err : {K : Type 0} (spelling : List ℕ) (d : Cause) (lacks : Held K → ℕ → Type 0) (old new : Held K) (r : Result (Unit {0}) Error) → Writes spelling d lacks old new r
    → IfErr r (λ e. WantsMemory (Wants lacks old (length spelling)) e ⊎ (d ≡ Some e))
writes_err spelling d lacks old new (Ok done) w = tt
writes_err spelling d lacks old new (Err e) w = w.0

-- positions have no cause
pub no_causes : (ns : List ℕ) → (let none : ℕ → Cause = λ _. None in first (map none ns)) ≡ None
no_causes [] = refl
no_causes (n ∷ ns) = no_causes ns
