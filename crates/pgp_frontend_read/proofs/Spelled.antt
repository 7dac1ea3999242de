-- Parts that were read, and nothing after them: their bytes are their spellings.
use Rattle.pgp_frontend_read.proofs.Common.{◌≡◌, ℕ, zero, suc, ◌<◌, ◌^◌, List, [], ◌∷◌, ◌++◌, length, Option, Result, Ok, Err, sym, ap, subst, ◌∙◌, arith, w16, from_be_bytes, to_be_bytes, append-nil, All-from_recursion, slice_index, IsBytes, uint16, ◌>>=◌, Error, uint16_number, number_again, Pairs, spelling, Shape, HasSpelling, Content, part, content_at, counted_at, items_at, items_on, pair_at, Left, AreLeft, items_of, marked, marked_run, plain, ok_is}
use Rattle.std.specs.Prelude.{◌≢◌, None}
use Rattle.pgp_base.specs.Walk.{Walk}
use Rattle.pgp_frontend_read.proofs.Contents.{content_found, pairs_none, pairs_named}
use Rattle.pgp_frontend_read.proofs.Items.{with_front_ok}
use Rattle.pgp_frontend_read.proofs.PairLemmas.{PairsStand, run_found, run_is}

pub part_has : (s : Shape) (bytes : List ℕ) (x : Content s) → IsBytes bytes → content_at s bytes ≡ Ok (x, []) → HasSpelling (part s x)
part_has s bytes x h e = (content_found s bytes x [] h e).spelled

pub part_whole : (s : Shape) (bytes : List ℕ) (x : Content s) → IsBytes bytes → content_at s bytes ≡ Ok (x, []) → bytes ≡ spelling (part s x)
part_whole s bytes x h e = (content_found s bytes x [] h e).whole ∙ append-nil (spelling (part s x))

module _ {V : Type 0} (read : List ℕ → Result (V × List ℕ) Error) where
  pub items_count : (n : ℕ) (bytes rest : List ℕ) (xs : List V) → items_at read n bytes ≡ Ok (xs, rest) → length xs ≡ n
  items_count zero bytes rest xs e = let none : List V = [] in ap (λ (p : List V × List ℕ). length p.0) (sym (ok_is (none, bytes) (xs, rest) e))
  items_count (suc n) bytes rest xs e = by_result (λ b ys k. items_count n b rest ys k) (read bytes) e
    where
      by_result : ((b : List ℕ) (ys : List V) → items_at read n b ≡ Ok (ys, rest) → length ys ≡ n) → (r : Result (V × List ℕ) Error) → items_on (items_at read n) r ≡ Ok (xs, rest) → length xs ≡ suc n
      by_result on (Ok x) k =
          let w = with_front_ok x.0 (items_at read n x.1) xs rest k in
          ap length w.2 ∙ ap suc (on x.1 w.0 w.1)
      by_result on (Err f) k = absurd cc

  -- the count and the items that are left are read as these
  pub left_read : (n : ℕ) (bytes : List ℕ) (xs : List V) → n < 2 ^ 16 → items_at read n bytes ≡ Ok (xs, []) → counted_at read (uint16 n ++ bytes) ≡ Ok (xs, [])
  unfolding counted_at
  left_read n bytes xs few e =
      ap (λ o. o >>= λ x. items_at read x.0 x.1) (number_again 2 (λ n. n < 2 ^ 16) uint16 (λ l. from_be_bytes w16 l) uint16_number n bytes few) ∙ e

  pub left_count : (n : ℕ) (bytes : List ℕ) (r : Left) → record { bytes = bytes; count = n } ≡ r → AreLeft read r → n ≡ length (items_of read r)
  left_count n bytes r is have = ap (λ (l : Left). l.count) is ∙ sym (items_count r.count r.bytes [] (items_of read r) have)

  pub left_spelled : (n : ℕ) (bytes : List ℕ) (r : Left) → record { bytes = bytes; count = n } ≡ r → n < 2 ^ 16 → AreLeft read r → counted_at read (uint16 n ++ bytes) ≡ Ok (items_of read r, [])
  left_spelled n bytes r is few have = subst (λ (l : Left). counted_at read (uint16 l.count ++ l.bytes) ≡ Ok (items_of read r, [])) (sym is) (left_read r.count r.bytes (items_of read r) (omega (arith, few, ap (λ (l : Left). l.count) is)) have)

pub bytes_joined : (a b : List ℕ) → IsBytes a → IsBytes b → IsBytes (a ++ b)
bytes_joined [] b h k = k
bytes_joined (x ∷ a) b h k = λ i. at (bytes_joined a b (λ j. h (suc j)) k) i
  where
    at : IsBytes (a ++ b) → (i : ℕ) → slice_index (x ∷ (a ++ b)) i < 256
    at more zero = h zero
    at more (suc i) = more i

-- a number is spelled by bytes
pub count_bytes : (n : ℕ) → IsBytes (to_be_bytes w16 n)
count_bytes n zero = omega arith
count_bytes n (suc zero) = omega arith
count_bytes n (suc (suc i)) = omega arith

-- ---- the parameters of a startup packet

pairs_stand : (bytes : List ℕ) (w : Walk (List ℕ × List ℕ)) → marked pair_at bytes ≡ w → w ≡ plain w.items → PairsStand bytes w.items
pairs_stand bytes w is all =
    let run : (List (List ℕ × List ℕ) × Option Error) = marked_run pair_at (suc (length bytes)) bytes in
    let end : run.1 ≡ None = ap (λ (v : Walk (List ℕ × List ℕ)). v.end) (is ∙ all) in
    subst (λ (v : Walk (List ℕ × List ℕ)). PairsStand bytes v.items) is (run_found (suc (length bytes)) bytes run.0 (run_is run end))

pub pairs_have : (bytes : List ℕ) (w : Walk (List ℕ × List ℕ)) → marked pair_at bytes ≡ w → w ≡ plain w.items → HasSpelling (Pairs w.items)
pairs_have bytes w is all =
    let stand = pairs_stand bytes w is all in
    record { none = pairs_none w.items stand.clean; in_range = tt; named = All-from_recursion (λ (p : List ℕ × List ℕ). p.0 ≢ []) w.items (pairs_named w.items stand.clean) }

pub pairs_spelled : (bytes : List ℕ) (w : Walk (List ℕ × List ℕ)) → marked pair_at bytes ≡ w → w ≡ plain w.items → bytes ≡ spelling (Pairs w.items)
pairs_spelled bytes w is all = (pairs_stand bytes w is all).whole
