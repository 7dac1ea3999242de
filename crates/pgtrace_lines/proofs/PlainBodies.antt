-- The bodies of the two messages that `pgp_message` doesn't read.
use Rattle.pgtrace_lines.proofs.Common.{◌≡◌, ℕ, zero, suc, ◌*◌, ◌<◌, ◌≤◌, ◌^◌, Bool, true, false, List, [], ◌∷◌, ◌++◌, length, drop, get_or, Option, Some, None, Result, Ok, Err, refl, sym, ap, subst, ◌∙◌, arith, length-append, ◌/◌, All, ◌==◌, if◌then◌else◌, w16, w32, from_be_bytes, flat_map, eqb-true, le-leb, append-nil, flat_map-cons, Error, TooLarge, IsBytes, counted, nullable, oid, uint16, uint32, Gives, byte_at, oid_at, uint16_at, ReadsSpelling, number_takes, oid_number, uint16_number, number_reads, IsCallResult, IsCopyBoth, numbers_of}
use Rattle.std.proofs.lemmas.List.Elements.{All-nil, All-cons}
use Rattle.pgp_base.specs.Cause.{nullable_cause}
use Rattle.pgp_base.proofs.Causes.{counts_of, fits_of}
use Rattle.pgp_base.proofs.Parts.{length-uint16, null_spelled}
use Rattle.pgp_base.proofs.Prefixes.{counted_begins, nullable_begins, uint16_begins}

oids : ReadsSpelling (λ n. n < 2 ^ 32) oid oid_at
oids = number_reads 4 (λ n. n < 2 ^ 32) oid (λ l. from_be_bytes w32 l) oid_number

-- a length, or the mark of a null, and what stands after it
abbrev pub head_of : Option (List ℕ) → ℕ
head_of None = 4294967295
head_of (Some z) = length z

abbrev pub tail_of : Option (List ℕ) → List ℕ
tail_of None = []
tail_of (Some z) = z

split : (v : Option (List ℕ)) → nullable v ≡ uint32 (head_of v) ++ tail_of v
split None = sym null_spelled ∙ sym (append-nil (uint32 4294967295))
split (Some z) = refl

head_fits : (v : Option (List ℕ)) → nullable_cause v ≡ None → head_of v < 2 ^ 32
head_fits None h = omega arith
head_fits (Some z) h = omega (arith, fits_of (length z) h)

pub a_null : (body rest : List ℕ) (n : ℕ) → IsBytes body → oid_at body ≡ Some (n, rest) → n ≡ 4294967295 → rest ≡ [] → IsCallResult body None
a_null body rest n bytes read is none =
    let found = oids.found body n rest bytes read in
    record { fits = refl; whole = found.1 ∙ ap (λ k. uint32 k ++ rest) is ∙ ap (λ l. uint32 4294967295 ++ l) none ∙ append-nil (uint32 4294967295) ∙ null_spelled }

pub a_value : (body rest : List ℕ) (n : ℕ) → IsBytes body → oid_at body ≡ Some (n, rest) → n ≤ 2147483647 → n ≡ length rest → IsCallResult body (Some rest)
a_value body rest n bytes read small is =
    let found = oids.found body n rest bytes read in
    let cause : Bool → Option Error = λ b. if b then None else Some TooLarge in
    record {
      fits = ap cause (le-leb (length rest) 2147483647 (omega (arith, small, is)));
      whole = found.1 ∙ ap (λ k. uint32 k ++ rest) is;
    }

pub no_length : (body : List ℕ) (v : Option (List ℕ)) → oid_at body ≡ None → IsCallResult body v → ⊥
no_length body v read is = oids.none body (head_of v) (tail_of v) read (head_fits v is.fits) (is.whole ∙ split v)

pub is_nothing : (rest : List ℕ) (b : Bool) → b ≡ true → b ≡ (length rest == 0) → rest ≡ []
is_nothing [] b e t = refl
is_nothing (x ∷ rest) b e t = let n = eqb-true (length (x ∷ rest)) 0 (sym t ∙ e) in absurd (omega (arith, n))

pub is_something : (rest : List ℕ) (b : Bool) → b ≡ false → b ≡ (length rest == 0) → rest ≡ [] → ⊥
is_something [] b e t h = let no_bool : false ≡ true = sym e ∙ t in cc
is_something (x ∷ rest) b e t h = cc

pub some_is : {A : Type 0} (x y : A) → Some x ≡ Some y → x ≡ y
some_is x y e = cc

pub read_so : (body rest : List ℕ) (n : ℕ) (v : Option (List ℕ)) → oid_at body ≡ Some (n, rest) → IsCallResult body v → (n ≡ head_of v) × (rest ≡ tail_of v)
read_so body rest n v read is =
    let there : oid_at body ≡ Some (head_of v, tail_of v) = ap oid_at (is.whole ∙ split v) ∙ oids.again (head_of v) (tail_of v) (head_fits v is.fits) in
    let same = some_is (n, rest) (head_of v, tail_of v) (sym read ∙ there) in
    (ap (λ p. p.0) same, ap (λ p. p.1) same)

pub no_null : (body rest : List ℕ) (n : ℕ) (v : Option (List ℕ)) → oid_at body ≡ Some (n, rest) → n ≡ 4294967295 → (rest ≡ [] → ⊥) → IsCallResult body v → ⊥
no_null body rest n None read is more h = more (read_so body rest n None read h).1
no_null body rest n (Some z) read is more h = let same = (read_so body rest n (Some z) read h).0 in absurd (omega (arith, same, is, fits_of (length z) h.fits))

pub no_value : (body rest : List ℕ) (n : ℕ) (v : Option (List ℕ)) → oid_at body ≡ Some (n, rest) → (n ≡ 4294967295 → ⊥) → (n ≤ 2147483647 → n ≡ length rest → ⊥) → IsCallResult body v → ⊥
no_value body rest n None read null other h = null (read_so body rest n None read h).0
no_value body rest n (Some z) read null other h =
    let same = read_so body rest n (Some z) read h in
    let small : n ≤ 2147483647 = omega (arith, same.0, fits_of (length z) h.fits) in
    other small (same.0 ∙ ap length (sym same.1))

-- what a reader that returned no value read
pub unread : {X Y : Type 0} (view : X → Y) (r : Result X Error) (read : Option Y) → ((x : X) → r ≡ Ok x → ⊥) → Gives view r read → read ≡ None
unread view (Ok x) read never g = absurd (never x refl)
unread view (Err e) read never g = g.1

-- a body has one result
pub one_result : (body : List ℕ) (v w : Option (List ℕ)) → IsCallResult body v → IsCallResult body w → v ≡ w
one_result body v w a b = (nullable_begins v w [] [] a.fits b.fits (ap (λ l. l ++ []) (sym a.whole ∙ b.whole))).0

-- ---- formats

front_bytes : (a b : ℕ) → a < 256 → b < 256 → IsBytes (a ∷ b ∷ [])
front_bytes a b x y zero = x
front_bytes a b x y (suc zero) = y
front_bytes a b x y (suc (suc i)) = omega arith

pairs_spelled : (n : ℕ) (rest : List ℕ) → IsBytes rest → length rest ≡ 2 * n → (rest ≡ flat_map uint16 (numbers_of rest)) × (length (numbers_of rest) ≡ n) × All (λ n. n < 2 ^ 16) (numbers_of rest)
pairs_spelled zero [] bytes len = (refl, refl, All-nil (λ n. n < 2 ^ 16))
pairs_spelled zero (a ∷ rest) bytes len = absurd (omega (arith, len))
pairs_spelled (suc n) [] bytes len = absurd (omega (arith, len))
pairs_spelled (suc n) (a ∷ []) bytes len = absurd (omega (arith, len))
pairs_spelled (suc n) (a ∷ b ∷ rest) bytes len =
    let front : List ℕ = a ∷ b ∷ [] in
    let behind = pairs_spelled n rest (λ i. bytes (suc (suc i))) (omega (arith, len)) in
    let one : front ≡ uint16 (from_be_bytes w16 front) = sym (uint16_number.spelled front (front_bytes a b (bytes 0) (bytes 1)) refl) in (
      ap (λ l. l ++ rest) one ∙ ap (λ l. uint16 (from_be_bytes w16 front) ++ l) behind.0 ∙ sym (flat_map-cons uint16 (from_be_bytes w16 front) (numbers_of rest)),
      ap suc behind.1,
      All-cons (λ n. n < 2 ^ 16) (from_be_bytes w16 front) (numbers_of rest) (uint16_number.fits front (front_bytes a b (bytes 0) (bytes 1))) behind.2,
    )

-- ---- CopyBothResponse

uint16s : ReadsSpelling (λ n. n < 2 ^ 16) uint16 uint16_at
uint16s = number_reads 2 (λ n. n < 2 ^ 16) uint16 (λ l. from_be_bytes w16 l) uint16_number

pub a_copy : (body behind rest : List ℕ) (format count : ℕ) → IsBytes body → byte_at body ≡ Some (format, behind) → uint16_at behind ≡ Some (count, rest) → length rest ≡ 2 * count → IsCopyBoth body format (numbers_of rest)
a_copy [] behind rest format count bytes first read len = absurd cc
a_copy (b ∷ body) behind rest format count bytes first read len =
    let same = some_is (b, body) (format, behind) first in
    let more : IsBytes behind = subst IsBytes (ap (λ p. p.1) same) (λ i. bytes (suc i)) in
    let taken = number_takes 2 (λ n. n < 2 ^ 16) uint16 (λ l. from_be_bytes w16 l) uint16_number behind (count, rest) more read in
    let pairs = pairs_spelled count rest taken.tail len in
    let cause : Bool → Option Error = λ b. if b then None else Some TooLarge in
    record {
      small = pairs.2;
      fits = ap cause (le-leb (length (numbers_of rest)) 65535 (omega (arith, taken.fits, pairs.1)));
      whole = ap (λ p. p.0 ∷ p.1) same ∙ ap (λ l. format ∷ l) (taken.parts ∙ ap (λ l. uint16 count ++ l) pairs.0 ∙ ap (λ k. uint16 k ++ flat_map uint16 (numbers_of rest)) (sym pairs.1));
    }

doubled : (xs : List ℕ) → length (flat_map uint16 xs) ≡ 2 * length xs
doubled [] = refl
doubled (x ∷ xs) = ap length (flat_map-cons uint16 x xs) ∙ length-append (uint16 x) (flat_map uint16 xs) ∙ omega (arith, length-uint16 x, doubled xs)

copied : (body behind : List ℕ) (first format : ℕ) (formats : List ℕ) → byte_at body ≡ Some (first, behind) → IsCopyBoth body format formats → behind ≡ uint16 (length formats) ++ flat_map uint16 formats
copied body behind first format formats read is = ap (λ p. p.1) (some_is (first, behind) (format, uint16 (length formats) ++ flat_map uint16 formats) (sym read ∙ ap byte_at is.whole))

pub no_count : (body behind : List ℕ) (first format : ℕ) (formats : List ℕ) → byte_at body ≡ Some (first, behind) → uint16_at behind ≡ None → IsCopyBoth body format formats → ⊥
no_count body behind first format formats read none is =
    uint16s.none behind (length formats) (flat_map uint16 formats) none (omega (arith, counts_of (length formats) is.fits)) (copied body behind first format formats read is)

pub no_copy : (body behind rest : List ℕ) (first format count : ℕ) (formats : List ℕ) → byte_at body ≡ Some (first, behind) → uint16_at behind ≡ Some (count, rest) → (length rest ≡ 2 * count → ⊥) → IsCopyBoth body format formats → ⊥
no_copy body behind rest first format count formats read counted other is =
    let there : uint16_at behind ≡ Some (length formats, flat_map uint16 formats) = ap uint16_at (copied body behind first format formats read is) ∙ uint16s.again (length formats) (flat_map uint16 formats) (omega (arith, counts_of (length formats) is.fits)) in
    let same = some_is (count, rest) (length formats, flat_map uint16 formats) (sym counted ∙ there) in
    other (ap length (ap (λ p. p.1) same) ∙ doubled formats ∙ ap (λ k. 2 * k) (sym (ap (λ p. p.0) same)))

-- a body has one such reading
pub one_copy : (body : List ℕ) (f g : ℕ) (xs ys : List ℕ) → IsCopyBoth body f xs → IsCopyBoth body g ys → (f ≡ g) × (xs ≡ ys)
one_copy body f g xs ys a b =
    let whole : f ∷ counted uint16 xs ≡ g ∷ counted uint16 ys = sym a.whole ∙ b.whole in
    let behind : counted uint16 xs ++ [] ≡ counted uint16 ys ++ [] = ap (λ l. drop 1 l ++ []) whole in
    (ap (λ l. get_or l 0 0) whole, (counted_begins (λ n. n < 2 ^ 16) uint16 uint16_begins xs ys [] [] (a.small, a.fits) (b.small, b.fits) behind).0)

pub numbers_counted : (bytes : List ℕ) → length bytes / 2 ≡ length (numbers_of bytes)
numbers_counted [] = refl
numbers_counted (a ∷ []) = refl
numbers_counted (a ∷ b ∷ rest) = omega (arith, numbers_counted rest)
