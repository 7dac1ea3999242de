-- Parts of messages: what is read is spelled so, and what is spelled so is read.
use Rattle.pgp_frontend_read.proofs.Common.{◌≡◌, ◌≢◌, ℕ, ◌<◌, ◌^◌, List, [], ◌∷◌, ◌++◌, length, Option, Some, None, Result, Ok, Err, refl, sym, ap, subst, ◌∙◌, append_assoc, arith, map, FitsSigned, w16, w32, from_be_bytes, cast_signed, flat_map, AllByRecursion, append-nil, take_all, recursion_from_All, All-from_recursion, IsBytes, int16, int32, oid, uint16, nullable, counted, Cause, first, text_cause, count_cause, nullable_cause, ◌>>=◌, front_at, byte_at, uint16_at, string_at, Error, count_fits, counts_of, either_left, either_right, either_none, IsNumber, int16_number, int32_number, oid_number, uint16_number, number_takes, number_again, string_takes, string_front, string_whole, some_is, Values, key_cause, pair, pair_cause, spelling, part_cause, joined, Shape, AByte, AnInt16, AnInt32, AnOid, AText, SomeInt16s, SomeOids, SomeValues, ANullable, AllBytes, AKey, SomePairs, HasSpelling, EachHasSpelling, IsPair, TakesAll, Content, Contents, Then, part, parts_of, content_at, contents_at, contents_on, before, ended, counted_at, items_at, format_at, type_at, value_at, unless, key_at, ok, ok_is}
use Rattle.std.specs.Prelude.{take}
use Rattle.pgp_base.proofs.Spellings.{no_cause, without_zero}
use Rattle.pgp_frontend.proofs.ValueLemmas.{values_fit}
use Rattle.pgp_frontend_read.proofs.Items.{IsItem, items_found, items_again, bytes_behind}
use Rattle.pgp_frontend_read.proofs.PairLemmas.{pairs_found, pairs_again}
use Rattle.pgp_frontend_read.proofs.ValueLemmas.{bound, HasLength, value_item}

-- a number as an item
module _ {A : Type 0} (n : ℕ) (Fits : A → Type 0) (spell : A → List ℕ) (value : List ℕ → A) (number : IsNumber n Fits spell value) where
  abbrev one_more : A × List ℕ → Result (A × List ℕ) Error
  one_more x = Ok x

  pub number_item : IsItem Fits spell (λ bytes. front_at n value bytes >>= λ x. Ok x)
  number_item = record {
    found = λ bytes x rest h e.
        let b = bound (front_at n value bytes) one_more (x, rest) e in
        let t = number_takes n Fits spell value number bytes (x, rest) h (b.1 ∙ ap (λ (p : A × List ℕ). Some p) (ok_is b.0 (x, rest) b.2)) in
        (t.fits, t.parts);
    again = λ x rest fits. ap (λ o. o >>= one_more) (number_again n Fits spell value number x rest fits);
  }

-- ---- lists

-- the list of so many items stands there
record CountedStands {V : Type 0} (Has : V → Type 0) (spell : V → List ℕ) (bytes : List ℕ) (xs : List V) (rest : List ℕ) : Type 0 where
  pub has : AllByRecursion Has xs
  pub count : length xs < 65536
  pub whole : bytes ≡ counted spell xs ++ rest

module _ {V : Type 0} (Has : V → Type 0) (spell : V → List ℕ) (read : List ℕ → Result (V × List ℕ) Error) (item : IsItem Has spell read) where
  counted_stands : (bytes : List ℕ) (xs : List V) (rest : List ℕ) → IsBytes bytes → counted_at read bytes ≡ Ok (xs, rest) → CountedStands Has spell bytes xs rest
  unfolding counted_at
  counted_stands bytes xs rest h e =
      let b = bound (uint16_at bytes) (λ n. items_at read n.0 n.1) (xs, rest) e in
      let t = number_takes 2 (λ n. n < 2 ^ 16) uint16 (λ l. from_be_bytes w16 l) uint16_number bytes b.0 h b.1 in
      let f = items_found Has spell read item b.0.0 b.0.1 xs rest t.tail b.2 in
      record {
        has = f.has;
        count = omega (arith, t.fits, f.count);
        whole = t.parts ∙ ap (λ n. uint16 n ++ b.0.1) (sym f.count) ∙ ap (λ l. uint16 (length xs) ++ l) f.whole ∙ sym (append_assoc (uint16 (length xs)) (flat_map spell xs) rest);
      }

  counted_again : (xs : List V) (rest : List ℕ) → AllByRecursion Has xs → length xs < 65536 → counted_at read (counted spell xs ++ rest) ≡ Ok (xs, rest)
  unfolding counted_at
  counted_again xs rest h few =
      let split : counted spell xs ++ rest ≡ uint16 (length xs) ++ (flat_map spell xs ++ rest) = append_assoc (uint16 (length xs)) (flat_map spell xs) rest in
      let n = number_again 2 (λ n. n < 2 ^ 16) uint16 (λ l. from_be_bytes w16 l) uint16_number (length xs) (flat_map spell xs ++ rest) (omega (arith, few)) in
      ap (λ l. uint16_at l >>= λ n. items_at read n.0 n.1) split ∙ ap (λ o. o >>= λ n. items_at read n.0 n.1) n ∙ items_again Has spell read item xs rest h

firsts_none : (vs : List (Option (List ℕ))) → AllByRecursion HasLength vs → first (map nullable_cause vs) ≡ None
firsts_none [] h = refl
firsts_none (v ∷ vs) h = either_none (nullable_cause v) (first (map nullable_cause vs)) h.0 (firsts_none vs h.1)

none_firsts : (vs : List (Option (List ℕ))) → first (map nullable_cause vs) ≡ None → AllByRecursion HasLength vs
none_firsts [] h = tt
none_firsts (v ∷ vs) h = (either_left (nullable_cause v) (first (map nullable_cause vs)) h, none_firsts vs (either_right (nullable_cause v) (first (map nullable_cause vs)) h))

values_have : (vs : List (Option (List ℕ))) → part_cause (Values vs) ≡ None → AllByRecursion HasLength vs × (length vs < 65536)
values_have vs h =
    let n : length vs < 65536 = counts_of (length vs) (either_right (first (map nullable_cause (take 65535 vs))) (count_cause (length vs)) h) in
    let f = either_left (first (map nullable_cause (take 65535 vs))) (count_cause (length vs)) h in
    (none_firsts vs (ap (λ ws. first (map nullable_cause ws)) (sym (take_all 65535 vs (omega (arith, n)))) ∙ f), n)

-- ---- pairs

pub pairs_none : (ps : List (List ℕ × List ℕ)) → AllByRecursion IsPair ps → first (map pair_cause ps) ≡ None
pairs_none [] h = refl
pairs_none (p ∷ ps) h =
    either_none (pair_cause p) (first (map pair_cause ps)) (either_none (text_cause p.0) (text_cause p.1) (no_cause p.0 h.0.0) (no_cause p.1 h.0.1)) (pairs_none ps h.1)

pub pairs_named : (ps : List (List ℕ × List ℕ)) → AllByRecursion IsPair ps → AllByRecursion (λ p. p.0 ≢ []) ps
pairs_named [] h = tt
pairs_named (p ∷ ps) h = (h.0.2, pairs_named ps h.1)

pairs_clean : (ps : List (List ℕ × List ℕ)) → first (map pair_cause ps) ≡ None → AllByRecursion (λ p. p.0 ≢ []) ps → AllByRecursion IsPair ps
pairs_clean [] h n = tt
pairs_clean (p ∷ ps) h n =
    let c = either_left (pair_cause p) (first (map pair_cause ps)) h in
    ((without_zero p.0 (either_left (text_cause p.0) (text_cause p.1) c), without_zero p.1 (either_right (text_cause p.0) (text_cause p.1) c), n.0), pairs_clean ps (either_right (pair_cause p) (first (map pair_cause ps)) h) n.1)

-- ---- parts

pub record Found (s : Shape) (bytes : List ℕ) (x : Content s) (rest : List ℕ) : Type 0 where
  pub spelled : HasSpelling (part s x)
  pub whole : bytes ≡ spelling (part s x) ++ rest

byte_found : (bytes : List ℕ) (x : ℕ × List ℕ) → byte_at bytes ≡ Some x → bytes ≡ x.0 ∷ x.1
byte_found [] x e = absurd cc
byte_found (b ∷ bytes) x e = ap (λ (p : ℕ × List ℕ). p.0 ∷ p.1) (some_is (b, bytes) x e)

abbrev given : {A : Type 0} → A × List ℕ → Result (A × List ℕ) Error
given x = Ok x

unless_found : (c : Cause) (bytes x rest : List ℕ) → unless c bytes ≡ Ok (x, rest) → (c ≡ None) × (x ≡ bytes) × (rest ≡ [])
unless_found None bytes x rest e =
    let is = ok_is (bytes, []) (x, rest) e in
    (refl, ap (λ (p : List ℕ × List ℕ). p.0) (sym is), ap (λ (p : List ℕ × List ℕ). p.1) (sym is))
unless_found (Some d) bytes x rest e = absurd cc

unless_none : (c : Cause) (bytes : List ℕ) → c ≡ None → unless c bytes ≡ Ok (bytes, [])
unless_none None bytes e = refl
unless_none (Some d) bytes e = cc

key_found : (bytes x rest : List ℕ) → key_at bytes ≡ Ok (x, rest) → (key_cause (length x) ≡ None) × (bytes ≡ x ++ rest) × (rest ≡ [])
unfolding key_at
key_found bytes x rest e =
    let u = unless_found (key_cause (length bytes)) bytes x rest e in
    (ap (λ l. key_cause (length l)) u.1 ∙ u.0, sym u.1 ∙ sym (append-nil x) ∙ ap (λ l. x ++ l) (sym u.2), u.2)

key_again : (x rest : List ℕ) → key_cause (length x) ≡ None → rest ≡ [] → key_at (x ++ rest) ≡ Ok (x, rest)
unfolding key_at
key_again x rest h none = rw (none, append-nil x) (unless_none (key_cause (length x)) x h)

pub content_found : (s : Shape) (bytes : List ℕ) (x : Content s) (rest : List ℕ) → IsBytes bytes → content_at s bytes ≡ Ok (x, rest) → Found s bytes x rest
content_found AByte bytes x rest h e =
    let b = bound (byte_at bytes) given (x, rest) e in
    let is = byte_found bytes (x, rest) (b.1 ∙ ap (λ (p : ℕ × List ℕ). Some p) (ok_is b.0 (x, rest) b.2)) in
    let each : IsBytes (x ∷ rest) = subst IsBytes is h in
    record { spelled = record { none = refl; in_range = omega (arith, each 0); named = tt }; whole = is }
content_found AnInt32 bytes x rest h e =
    let f = (number_item 4 (FitsSigned w32) int32 (λ l. cast_signed w32 (from_be_bytes w32 l)) int32_number).found bytes x rest h e in
    record { spelled = record { none = refl; in_range = f.0; named = tt }; whole = f.1 }
content_found AnInt16 bytes x rest h e =
    let f = (number_item 2 (FitsSigned w16) int16 (λ l. cast_signed w16 (from_be_bytes w16 l)) int16_number).found bytes x rest h e in
    record { spelled = record { none = refl; in_range = f.0; named = tt }; whole = f.1 }
content_found AnOid bytes x rest h e =
    let f = (number_item 4 (λ n. n < 2 ^ 32) oid (λ l. from_be_bytes w32 l) oid_number).found bytes x rest h e in
    record { spelled = record { none = refl; in_range = f.0; named = tt }; whole = f.1 }
content_found AText bytes x rest h e =
    let b = bound (string_at bytes) given (x, rest) e in
    let is = string_takes bytes (x, rest) (b.1 ∙ ap (λ (p : List ℕ × List ℕ). Some p) (ok_is b.0 (x, rest) b.2)) in
    record { spelled = record { none = no_cause x is.no_zero; in_range = tt; named = tt }; whole = string_whole bytes x rest is.parts }
content_found SomeInt16s bytes x rest h e =
    let f = counted_stands (FitsSigned w16) int16 format_at (number_item 2 (FitsSigned w16) int16 (λ l. cast_signed w16 (from_be_bytes w16 l)) int16_number) bytes x rest h e in
    record { spelled = record { none = count_fits (length x) f.count; in_range = All-from_recursion (FitsSigned w16) x f.has; named = tt }; whole = f.whole }
content_found SomeOids bytes x rest h e =
    let f = counted_stands (λ n. n < 2 ^ 32) oid type_at (number_item 4 (λ n. n < 2 ^ 32) oid (λ l. from_be_bytes w32 l) oid_number) bytes x rest h e in
    record { spelled = record { none = count_fits (length x) f.count; in_range = All-from_recursion (λ n. n < 2 ^ 32) x f.has; named = tt }; whole = f.whole }
content_found SomeValues bytes x rest h e =
    let f = counted_stands HasLength nullable value_at value_item bytes x rest h e in
    record { spelled = record { none = values_fit x f.count (firsts_none x f.has); in_range = tt; named = tt }; whole = f.whole }
content_found ANullable bytes x rest h e =
    let f = value_item.found bytes x rest h e in
    record { spelled = record { none = f.0; in_range = tt; named = tt }; whole = f.1 }
content_found AllBytes bytes x rest h e =
    let is = ok_is (bytes, []) (x, rest) e in
    let a : bytes ≡ x = ap (λ (p : List ℕ × List ℕ). p.0) is in
    let b : [] ≡ rest = ap (λ (p : List ℕ × List ℕ). p.1) is in
    record { spelled = record { none = refl; in_range = tt; named = tt }; whole = sym (append-nil bytes) ∙ ap (λ l. l ++ []) a ∙ ap (λ l. x ++ l) b }
content_found AKey bytes x rest h e =
    let k = key_found bytes x rest e in
    record { spelled = record { none = k.0; in_range = tt; named = tt }; whole = k.1 }
content_found SomePairs bytes x rest h e =
    let f = pairs_found bytes x rest e in
    record {
      spelled = record { none = pairs_none x f.0.clean; in_range = tt; named = All-from_recursion (λ (p : List ℕ × List ℕ). p.0 ≢ []) x (pairs_named x f.0.clean) };
      whole = f.0.whole ∙ sym (append-nil (flat_map pair x ++ 0 ∷ [])) ∙ ap (λ l. (flat_map pair x ++ 0 ∷ []) ++ l) (sym f.1);
    }

-- after a part that takes all bytes nothing is left
pub content_all : (s : Shape) (bytes : List ℕ) (x : Content s) (rest : List ℕ) → content_at s bytes ≡ Ok (x, rest) → TakesAll s → rest ≡ []
content_all AllBytes bytes x rest e t = ap (λ (p : List ℕ × List ℕ). p.1) (sym (ok_is (bytes, []) (x, rest) e))
content_all AKey bytes x rest e t = (key_found bytes x rest e).2
content_all SomePairs bytes x rest e t = (pairs_found bytes x rest e).1
content_all _ bytes x rest e t = absurd t

pub content_again : (s : Shape) (x : Content s) (rest : List ℕ) → HasSpelling (part s x) → (TakesAll s → rest ≡ []) → content_at s (spelling (part s x) ++ rest) ≡ Ok (x, rest)
content_again AByte x rest h none = refl
content_again AnInt32 x rest h none = (number_item 4 (FitsSigned w32) int32 (λ l. cast_signed w32 (from_be_bytes w32 l)) int32_number).again x rest h.in_range
content_again AnInt16 x rest h none = (number_item 2 (FitsSigned w16) int16 (λ l. cast_signed w16 (from_be_bytes w16 l)) int16_number).again x rest h.in_range
content_again AnOid x rest h none = (number_item 4 (λ n. n < 2 ^ 32) oid (λ l. from_be_bytes w32 l) oid_number).again x rest h.in_range
content_again AText x rest h none = ap (λ o. o >>= given) (string_front x rest (without_zero x h.none))
content_again SomeInt16s x rest h none =
    counted_again (FitsSigned w16) int16 format_at (number_item 2 (FitsSigned w16) int16 (λ l. cast_signed w16 (from_be_bytes w16 l)) int16_number) x rest (recursion_from_All (FitsSigned w16) x h.in_range) (counts_of (length x) h.none)
content_again SomeOids x rest h none =
    counted_again (λ n. n < 2 ^ 32) oid type_at (number_item 4 (λ n. n < 2 ^ 32) oid (λ l. from_be_bytes w32 l) oid_number) x rest (recursion_from_All (λ n. n < 2 ^ 32) x h.in_range) (counts_of (length x) h.none)
content_again SomeValues x rest h none = let v = values_have x h.none in counted_again HasLength nullable value_at value_item x rest v.0 v.1
content_again ANullable x rest h none = value_item.again x rest h.none
content_again AllBytes x rest h none = rw (none tt, append-nil x) refl
content_again AKey x rest h none = key_again x rest h.none (none tt)
content_again SomePairs x rest h none =
    rw (none tt, append-nil (flat_map pair x ++ 0 ∷ [])) (pairs_again x (pairs_clean x h.none (recursion_from_All (λ (p : List ℕ × List ℕ). p.0 ≢ []) x h.named)))

-- ---- parts in a row

abbrev then : {A B : Type 0} → A → B → Then A B
then x y = record { first = x; rest = y }

abbrev gave : {A : Type 0} → A → List ℕ → Result (A × List ℕ) Error
gave x rest = Ok (x, rest)

module _ {A B : Type 0} (go : List ℕ → Result B Error) (c : Then A B) where
  on_rest : (x : A) (rest : List ℕ) (q : Result B Error) → go rest ≡ q → before x q ≡ Ok c → (gave x rest ≡ gave c.first rest) × (go rest ≡ Ok c.rest)
  on_rest x rest (Ok y) is e =
      let same = ok_is (then x y) c e in
      (ap (λ (t : Then A B). gave t.first rest) same, is ∙ ap (λ (t : Then A B). ok t.rest) same)
  on_rest x rest (Err f) is e = absurd cc

  pub on_ok : (r : Result (A × List ℕ) Error) → contents_on go r ≡ Ok c → (rest : List ℕ) × (r ≡ Ok (c.first, rest)) × (go rest ≡ Ok c.rest)
  on_ok (Ok x) e = let o = on_rest x.0 x.1 (go x.1) refl e in (x.1, o.0, o.1)
  on_ok (Err f) e = absurd cc

pub record AllFound (shapes : List Shape) (bytes : List ℕ) (c : Contents shapes) : Type 0 where
  pub spelled : EachHasSpelling (parts_of shapes c)
  pub whole : bytes ≡ joined (parts_of shapes c)

pub ended_found : (bytes : List ℕ) (c : Unit {0}) → ended tt bytes ≡ Ok c → bytes ≡ []
ended_found [] c e = refl
ended_found (b ∷ bytes) c e = absurd cc

pub contents_found : (shapes : List Shape) (bytes : List ℕ) (c : Contents shapes) → IsBytes bytes → contents_at shapes bytes ≡ Ok c → AllFound shapes bytes c
contents_found [] bytes c h e = record { spelled = tt; whole = ended_found bytes c e }
contents_found (s ∷ shapes) bytes c h e =
    let on = on_ok (contents_at shapes) c (content_at s bytes) e in
    let one = content_found s bytes c.first on.0 h on.1 in
    let more = contents_found shapes on.0 c.rest (bytes_behind bytes (spelling (part s c.first)) on.0 one.whole h) on.2 in
    record { spelled = (one.spelled, more.spelled); whole = one.whole ∙ ap (λ l. spelling (part s c.first) ++ l) more.whole }

-- a part that takes all bytes is the last
abbrev pub TakesAllLast : List Shape → Type 0
TakesAllLast [] = Unit {0}
TakesAllLast (s ∷ []) = Unit {0}
TakesAllLast (s ∷ t ∷ shapes) = (TakesAll s → ⊥) × TakesAllLast (t ∷ shapes)

abbrev tail_last : (s : Shape) (shapes : List Shape) → TakesAllLast (s ∷ shapes) → TakesAllLast shapes
tail_last s [] h = tt
tail_last s (t ∷ shapes) h = h.1

none_behind : (s : Shape) (shapes : List Shape) (c : Contents shapes) → TakesAllLast (s ∷ shapes) → TakesAll s → joined (parts_of shapes c) ≡ []
none_behind s [] c h all = refl
none_behind s (t ∷ shapes) c h all = absurd (h.0 all)

pub contents_again : (shapes : List Shape) (c : Contents shapes) → TakesAllLast shapes → EachHasSpelling (parts_of shapes c) → contents_at shapes (joined (parts_of shapes c)) ≡ Ok c
contents_again [] c last h = refl
contents_again (s ∷ shapes) c last h =
    let one = content_again s c.first (joined (parts_of shapes c.rest)) h.0 (none_behind s shapes c.rest last) in
    ap (contents_on (contents_at shapes)) one ∙ ap (before c.first) (contents_again shapes c.rest (tail_last s shapes last) h.1)
