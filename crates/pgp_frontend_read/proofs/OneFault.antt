-- A body has one first fault: what the grammar says is what the code reads.
use Rattle.pgp_frontend_read.proofs.Common.{◌≡◌, ◌≢◌, ℕ, zero, suc, ◌<◌, ◌≤◌, ◌^◌, true, false, List, [], ◌∷◌, ◌++◌, length, Option, Some, None, Result, Ok, Err, refl, sym, ap, ◌∙◌, append_assoc, arith, inl, inr, FitsSigned, ◌==◌, ◌⊎◌, nat_lt, w16, w32, from_be_bytes, cast_signed, flat_map, AllByRecursion, ne_eqb, lt-ltb, le-ltb, oid, int16, int32, uint16, uint32, text, nullable, Cause, ◌>>=◌, front_at, uint16_at, oid_at, string_at, is_marked, marked_run, Error, UnexpectedEof, NotDrained, InvalidValueLength, IsNumber, oid_number, int16_number, int32_number, uint16_number, number_again, short_number, string_none, null_spelled, string_front, pair, key_cause, Shape, AByte, AnInt16, AnInt32, AnOid, AText, SomeInt16s, SomeOids, SomeValues, ANullable, AllBytes, AKey, SomePairs, IsShort, LacksValue, LacksItems, IsPair, IsCutPair, LacksEnd, Lacks, Faulty, items_at, items_on, with_front, counted_at, format_at, type_at, value_at, value_after, pair_at, all_of, pairs_at, unless, key_at, content_at, contents_at, contents_on, before, err, err_is}
use Rattle.std.proofs.lemmas.List.{length-append}
use Rattle.pgp_frontend_read.proofs.Items.{IsItem}
use Rattle.pgp_frontend_read.proofs.Contents.{content_again, number_item}
use Rattle.pgp_frontend_read.proofs.PairLemmas.{pair_again, marked_by}
use Rattle.pgp_frontend_read.proofs.ValueLemmas.{HasLength, value_item}

-- ---- items

module _ {V : Type 0} (Has : V → Type 0) (spell : V → List ℕ) (read : List ℕ → Result (V × List ℕ) Error) (item : IsItem Has spell read) where
  items_err : (n : ℕ) (xs : List V) (rest : List ℕ) (e : Error) → AllByRecursion Has xs → length xs < n → read rest ≡ Err e → items_at read n (flat_map spell xs ++ rest) ≡ Err e
  items_err zero xs rest e h few is = absurd (omega (arith, few))
  items_err (suc n) [] rest e h few is = ap (items_on (items_at read n)) is
  items_err (suc n) (x ∷ xs) rest e h few is =
      let split : flat_map spell (x ∷ xs) ++ rest ≡ spell x ++ (flat_map spell xs ++ rest) = append_assoc (spell x) (flat_map spell xs) rest in
      let one = ap read split ∙ item.again x (flat_map spell xs ++ rest) h.0 in
      ap (items_on (items_at read n)) one ∙ ap (with_front x) (items_err n xs rest e h.1 (omega (arith, few)) is)

  counted_err : (Missing : List ℕ → Error → Type 0) → ((b : List ℕ) (d : Error) → Missing b d → read b ≡ Err d) → (bytes : List ℕ) (e : Error) → LacksItems Has spell Missing bytes e → counted_at read bytes ≡ Err e
  unfolding counted_at
  counted_err Missing again bytes e (inl short) =
      let none = short_number 2 (λ n. n < 2 ^ 16) uint16 (λ l. from_be_bytes w16 l) uint16_number bytes short.0 in
      ap (λ o. o >>= λ n. items_at read n.0 n.1) none ∙ ap err (sym short.1)
  counted_err Missing again bytes e (inr l) =
      let some = ap uint16_at l.whole ∙ number_again 2 (λ n. n < 2 ^ 16) uint16 (λ l. from_be_bytes w16 l) uint16_number l.count (flat_map spell l.items ++ l.rest) l.fits in
      ap (λ o. o >>= λ n. items_at read n.0 n.1) some ∙ items_err l.count l.items l.rest e l.have l.few (again l.rest e l.lacks)

module _ {A : Type 0} (n : ℕ) (Fits : A → Type 0) (spell : A → List ℕ) (value : List ℕ → A) (number : IsNumber n Fits spell value) where
  number_err : (bytes : List ℕ) (e : Error) → IsShort n bytes e → (front_at n value bytes >>= λ x. Ok x) ≡ Err e
  number_err bytes e short = ap (λ o. o >>= λ x. Ok x) (short_number n Fits spell value number bytes short.0) ∙ ap err (sym short.1)

-- ---- values

after_err : (n : ℕ) (rest : List ℕ) (e : Error) → n ≢ 4294967295 → ((2 ^ 31 ≤ n) × (e ≡ InvalidValueLength)) ⊎ ((n < 2 ^ 31) × IsShort n rest e) → value_after n rest ≡ Err e
after_err n rest e null (inl large) =
    let a : (n == 4294967295) ≡ false = ne_eqb n 4294967295 null in
    let b : nat_lt 2147483647 n ≡ true = lt-ltb 2147483647 n (omega (arith, large.0)) in
    rw (a, b) (ap err (sym large.1))
after_err n rest e null (inr short) =
    let a : (n == 4294967295) ≡ false = ne_eqb n 4294967295 null in
    let b : nat_lt 2147483647 n ≡ false = le-ltb 2147483647 n (omega (arith, short.0)) in
    let c : nat_lt (length rest) n ≡ true = lt-ltb (length rest) n short.1.0 in
    rw (a, b, c) (ap err (sym short.1.1))

length_read : (bytes : List ℕ) (n : ℕ) (rest : List ℕ) → n < 2 ^ 32 → bytes ≡ uint32 n ++ rest → value_at bytes ≡ value_after n rest
unfolding value_at
length_read bytes n rest fits whole =
    ap (λ o. o >>= λ len. value_after len.0 len.1) (ap oid_at whole ∙ number_again 4 (λ n. n < 2 ^ 32) oid (λ l. from_be_bytes w32 l) oid_number n rest fits)

no_length : (bytes : List ℕ) (e : Error) → IsShort 4 bytes e → value_at bytes ≡ Err e
unfolding value_at
no_length bytes e short =
    ap (λ o. o >>= λ len. value_after len.0 len.1) (short_number 4 (λ n. n < 2 ^ 32) oid (λ l. from_be_bytes w32 l) oid_number bytes short.0) ∙ ap err (sym short.1)

value_err : (bytes : List ℕ) (e : Error) → LacksValue bytes e → value_at bytes ≡ Err e
value_err bytes e (inl short, none) = no_length bytes e short
value_err bytes e (inr l, none) =
    let null : l.len ≢ 4294967295 = λ same. none l.rest (l.whole ∙ ap (λ n. uint32 n ++ l.rest) same ∙ ap (λ x. x ++ l.rest) null_spelled) in
    length_read bytes l.len l.rest l.fits l.whole ∙ after_err l.len l.rest e null l.wrong

-- ---- pairs

cut_err : (bytes : List ℕ) → IsCutPair bytes → pair_at bytes ≡ Err UnexpectedEof
unfolding pair_at
cut_err bytes (inl none) = rw (string_none bytes none) refl
cut_err bytes (inr (name, value, clean, named, whole, none)) =
    let one : string_at bytes ≡ Some (name, value) = ap string_at whole ∙ string_front name value clean in
    rw (one, string_none value none) refl

cut_unmarked : (bytes : List ℕ) → IsCutPair bytes → is_marked bytes ≡ false
cut_unmarked [] cut = refl
cut_unmarked (suc b ∷ bytes) cut = refl
cut_unmarked (zero ∷ bytes) (inl none) = absurd (none.0 refl)
cut_unmarked (zero ∷ bytes) (inr (name, value, clean, named, whole, none)) =
    let split : text name ++ value ≡ name ++ (0 ∷ value) = append_assoc name (0 ∷ []) value in
    let k : true ≡ false = ap is_marked (whole ∙ split) ∙ marked_by name (0 ∷ value) clean named in
    cc

abbrev End : List (List ℕ × List ℕ) × Option Error → Option Error
End r = r.1

run_err : (k : ℕ) (ps : List (List ℕ × List ℕ)) (rest : List ℕ) (e : Error) → AllByRecursion IsPair ps → length (flat_map pair ps ++ rest) < k
    → (IsCutPair rest × (e ≡ UnexpectedEof)) ⊎ ((more : List ℕ) × (rest ≡ 0 ∷ more) × (more ≢ []) × (e ≡ NotDrained)) → End (marked_run pair_at k (flat_map pair ps ++ rest)) ≡ Some e
run_err zero ps rest e h lt wrong = absurd (omega (arith, lt))
run_err (suc k) [] rest e h lt (inl cut) = rw (cut_unmarked rest cut.0, cut_err rest cut.0) (ap (λ (x : Error). Some x) (sym cut.1))
run_err (suc k) [] rest e h lt (inr ([], is, some, name)) = absurd (some refl)
run_err (suc k) [] rest e h lt (inr (b ∷ more, is, some, name)) = rw is (ap (λ (x : Error). Some x) (sym name))
run_err (suc k) (p ∷ ps) rest e h lt wrong =
    let tail : List ℕ = flat_map pair ps ++ rest in
    let split : flat_map pair (p ∷ ps) ++ rest ≡ pair p ++ tail = append_assoc (pair p) (flat_map pair ps) rest in
    let deep : pair p ++ tail ≡ p.0 ++ (0 ∷ [] ++ (text p.1 ++ tail)) = append_assoc (text p.0) (text p.1) tail ∙ append_assoc p.0 (0 ∷ []) (text p.1 ++ tail) in
    let mark : is_marked (flat_map pair (p ∷ ps) ++ rest) ≡ false = ap is_marked (split ∙ deep) ∙ marked_by p.0 (0 ∷ [] ++ (text p.1 ++ tail)) h.0.0 h.0.2 in
    let one : pair_at (flat_map pair (p ∷ ps) ++ rest) ≡ Ok (p, tail) = ap pair_at split ∙ pair_again p tail h.0.0 h.0.1 in
    let less : length tail < k = omega (arith, lt, ap length split, length-append (pair p) tail, length-append (text p.0) (text p.1), length-append p.0 (0 ∷ [])) in
    rw (mark, one) (run_err k ps rest e h.1 less wrong)

all_err : (r : List (List ℕ × List ℕ) × Option Error) (e : Error) → End r ≡ Some e → all_of r ≡ Err e
all_err (xs, None) e is = cc
all_err (xs, Some d) e is = let same : d ≡ e = cc in ap err same

pairs_err : (bytes : List ℕ) (e : Error) → LacksEnd bytes e → pairs_at bytes ≡ Err e
unfolding pairs_at
pairs_err bytes e l =
    let lt : length (flat_map pair l.pairs ++ l.rest) < suc (length bytes) = omega (arith, ap length l.whole) in
    all_err (marked_run pair_at (suc (length bytes)) bytes) e
    (ap (λ b. End (marked_run pair_at (suc (length bytes)) b)) l.whole ∙ run_err (suc (length bytes)) l.pairs l.rest e l.have lt l.wrong)

-- ---- parts

unless_some : (c : Cause) (bytes : List ℕ) (e : Error) → c ≡ Some e → unless c bytes ≡ Err e
unless_some None bytes e is = cc
unless_some (Some d) bytes e is = let same : d ≡ e = cc in ap err same

byte_err : (bytes : List ℕ) (e : Error) → IsShort 1 bytes e → content_at AByte bytes ≡ Err e
byte_err [] e short = ap err (sym short.1)
byte_err (b ∷ bytes) e short = absurd (omega (arith, short.0))

lacks_err : (s : Shape) (bytes : List ℕ) (e : Error) → Lacks s bytes e → content_at s bytes ≡ Err e
unfolding key_at
lacks_err AByte bytes e l = byte_err bytes e l
lacks_err AnInt32 bytes e l = number_err 4 (FitsSigned w32) int32 (λ l. cast_signed w32 (from_be_bytes w32 l)) int32_number bytes e l
lacks_err AnInt16 bytes e l = number_err 2 (FitsSigned w16) int16 (λ l. cast_signed w16 (from_be_bytes w16 l)) int16_number bytes e l
lacks_err AnOid bytes e l = number_err 4 (λ n. n < 2 ^ 32) oid (λ l. from_be_bytes w32 l) oid_number bytes e l
lacks_err AText bytes e l = ap (λ o. o >>= λ x. Ok x) (string_none bytes l.0) ∙ ap err (sym l.1)
lacks_err SomeInt16s bytes e l =
    counted_err (FitsSigned w16) int16 format_at (number_item 2 (FitsSigned w16) int16 (λ l. cast_signed w16 (from_be_bytes w16 l)) int16_number) (IsShort 2)
    (λ b d. number_err 2 (FitsSigned w16) int16 (λ l. cast_signed w16 (from_be_bytes w16 l)) int16_number b d) bytes e l
lacks_err SomeOids bytes e l =
    counted_err (λ n. n < 2 ^ 32) oid type_at (number_item 4 (λ n. n < 2 ^ 32) oid (λ l. from_be_bytes w32 l) oid_number) (IsShort 4)
    (λ b d. number_err 4 (λ n. n < 2 ^ 32) oid (λ l. from_be_bytes w32 l) oid_number b d) bytes e l
lacks_err SomeValues bytes e l = counted_err HasLength nullable value_at value_item LacksValue value_err bytes e l
lacks_err ANullable bytes e l = value_err bytes e l
lacks_err AllBytes bytes e l = absurd l
lacks_err AKey bytes e l = unless_some (key_cause (length bytes)) bytes e l
lacks_err SomePairs bytes e l = pairs_err bytes e l

pub faulty_err : (shapes : List Shape) (bytes : List ℕ) (e : Error) → Faulty shapes bytes e → contents_at shapes bytes ≡ Err e
faulty_err [] [] e f = absurd (f.0 refl)
faulty_err [] (b ∷ bytes) e f = ap err (sym f.1)
faulty_err (s ∷ shapes) bytes e (inl lacks) = ap (contents_on (contents_at shapes)) (lacks_err s bytes e lacks)
faulty_err (s ∷ shapes) bytes e (inr (x, rest, first, more)) =
    let one : content_at s bytes ≡ Ok (x, rest) = ap (content_at s) first.whole ∙ content_again s x rest first.spelled first.all in
    ap (contents_on (contents_at shapes)) one ∙ ap (before x) (faulty_err shapes rest e more)

pub one_fault : (shapes : List Shape) (bytes : List ℕ) (d e : Error) → Faulty shapes bytes d → Faulty shapes bytes e → d ≡ e
one_fault shapes bytes d e f g = err_is d e (sym (faulty_err shapes bytes d f) ∙ faulty_err shapes bytes e g)
