-- A loop over items: one more after those that were read.
use Rattle.pgp_frontend_read.proofs.Common.{◌≡◌, ℕ, suc, ◌+◌, ◌-◌, ◌<◌, ◌≤◌, List, [], ◌∷◌, ◌++◌, length, take, Option, Some, Result, Ok, Err, refl, sym, ap, ◌∙◌, append_assoc, arith, IsErrAnd, w16, from_be_bytes, number_takes, uint16_number, IsBytes, nullable, uint16, uint16_at, Error, flat_map, items_at, items_on, with_front, value_at, counted_at, Left, AreLeft, items_of, behind, RestOf, err}
use Rattle.std.specs.Prelude.{◌^◌}
use Rattle.std.proofs.lemmas.List.{length-append}
use Rattle.pgp_frontend_read.proofs.Items.{left, items_found, cut_alone, counted_found}
use Rattle.pgp_frontend_read.proofs.ValueLemmas.{HasLength, value_item}

module _ {V : Type 0} where
  pub behind_none : (r : Result (List V × List ℕ) Error) → r ≡ behind [] r
  behind_none (Ok x) = refl
  behind_none (Err e) = refl

  behind_one : (front : List V) (x : V) (r : Result (List V × List ℕ) Error) → behind front (with_front x r) ≡ behind (front ++ x ∷ []) r
  behind_one front x (Ok y) = ap (λ (l : List V). Ok (l, y.1)) (sym (append_assoc front (x ∷ []) y.0))
  behind_one front x (Err e) = refl

  module _ (read : List ℕ → Result (V × List ℕ) Error) where
    one_due : (n i : ℕ) (rest : List ℕ) → i < n → items_at read (n - i) rest ≡ items_on (items_at read (n - (i + 1))) (read rest)
    one_due n i rest lt = let k : n - i ≡ suc (n - (i + 1)) = omega arith in ap (λ m. items_at read m rest) k

    pub none_read : (n : ℕ) (bytes : List ℕ) → items_at read n bytes ≡ behind [] (items_at read (n - 0) bytes)
    none_read n bytes = let k : n ≡ n - 0 = omega arith in behind_none (items_at read n bytes) ∙ ap (λ m. behind [] (items_at read m bytes)) k

    pub item_read : (n i : ℕ) (bytes rest after : List ℕ) (front : List V) (x : V) → i < n → items_at read n bytes ≡ behind front (items_at read (n - i) rest) → read rest ≡ Ok (x, after)
        → items_at read n bytes ≡ behind (front ++ x ∷ []) (items_at read (n - (i + 1)) after)
    item_read n i bytes rest after front x lt inv is =
        inv ∙ ap (behind front) (one_due n i rest lt ∙ ap (items_on (items_at read (n - (i + 1)))) is) ∙ behind_one front x (items_at read (n - (i + 1)) after)

    pub item_refused : (n i : ℕ) (bytes rest : List ℕ) (front : List V) (e : Error) → i < n → items_at read n bytes ≡ behind front (items_at read (n - i) rest) → read rest ≡ Err e → items_at read n bytes ≡ Err e
    item_refused n i bytes rest front e lt inv is = inv ∙ ap (behind front) (one_due n i rest lt ∙ ap (items_on (items_at read (n - (i + 1)))) is)

-- what is left after values stands after them
pub values_shorter : (n : ℕ) (bytes rest : List ℕ) (xs : List (Option (List ℕ))) → IsBytes bytes → items_at value_at n bytes ≡ Ok (xs, rest) → length rest ≤ length bytes
values_shorter n bytes rest xs h e =
    let found = items_found HasLength nullable value_at value_item n bytes xs rest h e in
    omega (arith, ap length found.whole, length-append (flat_map nullable xs) rest)

values_alone : (n : ℕ) (bytes front rest : List ℕ) (xs : List (Option (List ℕ))) (r : Left) → IsBytes bytes → items_at value_at n bytes ≡ Ok (xs, rest) → front ≡ take (length bytes - length rest) bytes → r ≡ left front n
    → items_at value_at r.count r.bytes ≡ Ok (xs, [])
values_alone n bytes front rest xs r h e is same = rw (same, is) (cut_alone HasLength nullable value_at value_item n bytes rest xs h e)

pub values_left : (n : ℕ) (bytes front rest : List ℕ) (xs : List (Option (List ℕ))) (r : Left) → IsBytes bytes → items_at value_at n bytes ≡ Ok (xs, rest) → front ≡ take (length bytes - length rest) bytes → r ≡ left front n
    → AreLeft value_at r
values_left n bytes front rest xs r h e is same = let w = values_alone n bytes front rest xs r h e is same in rw w refl

pub values_read : (bytes : List ℕ) (n : ℕ) (here front rest : List ℕ) (xs : List (Option (List ℕ))) (r : Left) → IsBytes here → uint16_at bytes ≡ Some (n, here) → items_at value_at n here ≡ Ok (xs, rest) → front ≡ take (length here - length rest) here → r ≡ left front n
    → counted_at value_at bytes ≡ Ok (items_of value_at r, rest)
values_read bytes n here front rest xs r h u e is same =
    let w = values_alone n here front rest xs r h e is same in
    counted_found HasLength nullable value_at value_item bytes n here xs rest u e ∙ rw w refl

pub rest_err : {V B : Type 0} (bytes : B → List ℕ) (read : Result (List V × List ℕ) Error) (r : Result B Error) (e : Error) → IsErrAnd r (λ d. d ≡ e) → read ≡ Err e → RestOf bytes read r
rest_err bytes read (Ok rest) e h is = absurd h
rest_err bytes read (Err d) e h is = is ∙ ap err (sym h)

-- after a count stand bytes
pub count_tail : (bytes : List ℕ) (n : ℕ) (rest : List ℕ) → IsBytes bytes → uint16_at bytes ≡ Some (n, rest) → IsBytes rest
count_tail bytes n rest h e = (number_takes 2 (λ n. n < 2 ^ 16) uint16 (λ l. from_be_bytes w16 l) uint16_number bytes (n, rest) h e).tail
