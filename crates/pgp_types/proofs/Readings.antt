-- Values of any length: each list of bytes has one reading.
use Rattle.pgp_types.proofs.Common.{◌≡◌, ◌≢◌, ℕ, zero, suc, ◌<◌, ◌⊎◌, inl, inr, Bool, true, false, List, [], ◌∷◌, length, Result, Ok, Err, refl, sym, ap, ◌∙◌, arith, cases_order, IsUtf8-from_is_utf8, is_utf8-from_IsUtf8, IsUtf8, is_utf8, Error, InvalidSize, NotUtf8, InvalidVersion, IsBytes, IsSound, WholeReads, AllRead, whole, all_bytes, BoolReads, bool}
use Rattle.pgp_types.specs.Text.{TextReads, LabelReads, text, label}

-- bool

some_bool : (bytes : List ℕ) → (r : Result Bool Error) × BoolReads bytes r
some_bool [] = (Err InvalidSize, λ e. omega arith)
some_bool (zero ∷ []) = (Ok false, refl)
some_bool (suc n ∷ []) = (Ok true, (suc n, (λ e. omega arith), refl))
some_bool (a ∷ b ∷ rest) = (Err InvalidSize, λ e. omega arith)

bool_refused : (bytes : List ℕ) (e : Error) → BoolReads bytes (Err e) → (e ≡ InvalidSize) × (length bytes ≢ 1)
bool_refused bytes InvalidSize p = (refl, p)
bool_refused bytes e p = absurd p

one_bool : (bytes : List ℕ) (r s : Result Bool Error) → BoolReads bytes r → BoolReads bytes s → r ≡ s
one_bool bytes (Ok false) (Ok false) p q = refl
one_bool bytes (Ok false) (Ok true) p q =
    let same : 0 ∷ [] ≡ q.0 ∷ [] = sym p ∙ q.2 in
    let zero_is : q.0 ≡ 0 = cc in
    absurd (q.1 zero_is)
one_bool bytes (Ok true) (Ok false) p q =
    let same : 0 ∷ [] ≡ p.0 ∷ [] = sym q ∙ p.2 in
    let zero_is : p.0 ≡ 0 = cc in
    absurd (p.1 zero_is)
one_bool bytes (Ok true) (Ok true) p q = refl
one_bool bytes (Ok false) (Err e) p q = absurd ((bool_refused bytes e q).1 (ap length p))
one_bool bytes (Ok true) (Err e) p q = absurd ((bool_refused bytes e q).1 (ap length p.2))
one_bool bytes (Err e) (Ok false) p q = absurd ((bool_refused bytes e p).1 (ap length q))
one_bool bytes (Err e) (Ok true) p q = absurd ((bool_refused bytes e p).1 (ap length q.2))
one_bool bytes (Err d) (Err e) p q = ap Err ((bool_refused bytes d p).0 ∙ sym (bool_refused bytes e q).0)

bool_back : (v : Bool) → BoolReads (bool.written v) (Ok v)
bool_back false = refl
bool_back true = (1, (λ e. omega arith), refl)

pub bool_sound : IsSound bool
bool_sound = record {
  some = λ bytes small. some_bool bytes;
  one = one_bool;
  back = λ v has spelled. bool_back v;
}

-- all bytes

one_all : (bytes : List ℕ) (r s : Result (List ℕ) Error) → AllRead bytes r → AllRead bytes s → r ≡ s
one_all bytes (Ok v) (Ok w) p q = ap Ok (sym p ∙ q)
one_all bytes (Ok v) (Err e) p q = absurd q
one_all bytes (Err e) s p q = absurd p

pub all_sound : IsSound all_bytes
all_sound = record {
  some = λ bytes small. (Ok bytes, refl);
  one = one_all;
  back = λ v has spelled. refl;
}

-- so many bytes

some_whole : (size : ℕ) (bytes : List ℕ) → IsBytes bytes
    → (length bytes ≡ size) ⊎ ((length bytes < size) ⊎ (size < length bytes))
    → (r : Result (List ℕ) Error) × WholeReads size bytes r
some_whole size bytes small (inl fits) = (Ok bytes, ((small, fits), refl))
some_whole size bytes small (inr (inl short)) = (Err InvalidSize, λ e. omega arith)
some_whole size bytes small (inr (inr long)) = (Err InvalidSize, λ e. omega arith)

whole_refused : (size : ℕ) (bytes : List ℕ) (e : Error) → WholeReads size bytes (Err e) → (e ≡ InvalidSize) × (length bytes ≢ size)
whole_refused size bytes InvalidSize p = (refl, p)
whole_refused size bytes e p = absurd p

one_whole : (size : ℕ) (bytes : List ℕ) (r s : Result (List ℕ) Error) → WholeReads size bytes r → WholeReads size bytes s → r ≡ s
one_whole size bytes (Ok v) (Ok w) p q = ap Ok (sym p.1 ∙ q.1)
one_whole size bytes (Ok v) (Err e) p q = absurd ((whole_refused size bytes e q).1 (ap length p.1 ∙ p.0.1))
one_whole size bytes (Err e) (Ok w) p q = absurd ((whole_refused size bytes e p).1 (ap length q.1 ∙ q.0.1))
one_whole size bytes (Err d) (Err e) p q = ap Err ((whole_refused size bytes d p).0 ∙ sym (whole_refused size bytes e q).0)

pub whole_sound : (size : ℕ) → IsSound (whole size)
whole_sound size = record {
  some = λ bytes small. some_whole size bytes small (cases_order (length bytes) size);
  one = one_whole size;
  back = λ v has spelled. (has, refl);
}

-- texts

utf8_by : (bytes : List ℕ) (b : Bool) → is_utf8 bytes ≡ b → IsUtf8 bytes ⊎ ¬ (IsUtf8 bytes)
utf8_by bytes true is = inl (IsUtf8-from_is_utf8 bytes is)
utf8_by bytes false is = inr (λ utf8. absurd (let t : true ≡ false = sym (is_utf8-from_IsUtf8 bytes utf8) ∙ is in cc))

utf8_or_not : (bytes : List ℕ) → IsUtf8 bytes ⊎ ¬ (IsUtf8 bytes)
utf8_or_not bytes = utf8_by bytes (is_utf8 bytes) refl

some_text : (bytes : List ℕ) → IsUtf8 bytes ⊎ ¬ (IsUtf8 bytes) → (r : Result (List ℕ) Error) × TextReads bytes r
some_text bytes (inl utf8) = (Ok bytes, (utf8, refl))
some_text bytes (inr other) = (Err NotUtf8, other)

text_refused : (bytes : List ℕ) (e : Error) → TextReads bytes (Err e) → (e ≡ NotUtf8) × ¬ (IsUtf8 bytes)
text_refused bytes NotUtf8 p = (refl, p)
text_refused bytes e p = absurd p

one_text : (bytes : List ℕ) (r s : Result (List ℕ) Error) → TextReads bytes r → TextReads bytes s → r ≡ s
one_text bytes (Ok v) (Ok w) p q = ap Ok (sym p.1 ∙ q.1)
one_text bytes (Ok v) (Err e) p q = absurd ((text_refused bytes e q).1 (rw p.1 p.0))
one_text bytes (Err e) (Ok w) p q = absurd ((text_refused bytes e p).1 (rw q.1 q.0))
one_text bytes (Err d) (Err e) p q = ap Err ((text_refused bytes d p).0 ∙ sym (text_refused bytes e q).0)

pub text_sound : IsSound text
text_sound = record {
  some = λ bytes small. some_text bytes (utf8_or_not bytes);
  one = one_text;
  back = λ v utf8 spelled. (utf8, refl);
}

-- labels

-- the bytes after a version of 1, if there is one
version_or_not : (version : ℕ) (bytes : List ℕ) → ((rest : List ℕ) × (bytes ≡ version ∷ rest)) ⊎ ((rest : List ℕ) → bytes ≢ version ∷ rest)
version_or_not version [] = inr (λ rest e. absurd (let l = ap length e in omega arith))
version_or_not version (b ∷ rest) = elim (cases_order b version) [
  | inl is ↦ inl (rest, ap (λ (n : ℕ). n ∷ rest) is)
  | inr other ↦ inr (λ more e. let is : b ≡ version = cc in elim other [ inl low ↦ absurd (omega arith) | inr high ↦ absurd (omega arith) ])
]

some_label : (version : ℕ) (bytes : List ℕ) → ((rest : List ℕ) × (bytes ≡ version ∷ rest)) ⊎ ((rest : List ℕ) → bytes ≢ version ∷ rest)
    → (r : Result (List ℕ) Error) × LabelReads version bytes r
some_label version bytes (inl front) = elim (utf8_or_not front.0) [
  | inl utf8 ↦ (Ok front.0, (utf8, front.1))
  | inr other ↦ (Err NotUtf8, (front.0, front.1, other))
]
some_label version bytes (inr other) = (Err InvalidVersion, other)

label_refused : (version : ℕ) (bytes : List ℕ) (e : Error) → LabelReads version bytes (Err e)
    → ((e ≡ InvalidVersion) × ((rest : List ℕ) → bytes ≢ version ∷ rest)) ⊎ ((e ≡ NotUtf8) × ((rest : List ℕ) × (bytes ≡ version ∷ rest) × ¬ (IsUtf8 rest)))
label_refused version bytes InvalidVersion p = inl (refl, p)
label_refused version bytes NotUtf8 p = inr (refl, p)
label_refused version bytes e p = absurd p

same_rest : (version : ℕ) (bytes xs ys : List ℕ) → bytes ≡ version ∷ xs → bytes ≡ version ∷ ys → xs ≡ ys
same_rest version bytes xs ys p q = cc

not_label_refused : (version : ℕ) (bytes v : List ℕ) (e : Error) → IsUtf8 v → bytes ≡ version ∷ v → LabelReads version bytes (Err e) → ⊥
not_label_refused version bytes v e utf8 is p = elim (label_refused version bytes e p) [
  | inl other_version ↦ other_version.1 v is
  | inr other ↦ other.1.2 (rw (same_rest version bytes other.1.0 v other.1.1 is) utf8)
]

one_label_refusal : (version : ℕ) (bytes : List ℕ) (d e : Error) → LabelReads version bytes (Err d) → LabelReads version bytes (Err e) → d ≡ e
one_label_refusal version bytes d e p q = elim (label_refused version bytes d p) [
  | inl other_version ↦ elim (label_refused version bytes e q) [
    | inl same ↦ other_version.0 ∙ sym same.0
    | inr other ↦ absurd (other_version.1 other.1.0 other.1.1)
  ]
  | inr text ↦ elim (label_refused version bytes e q) [
    | inl other_version ↦ absurd (other_version.1 text.1.0 text.1.1)
    | inr same ↦ text.0 ∙ sym same.0
  ]
]

one_label : (version : ℕ) (bytes : List ℕ) (r s : Result (List ℕ) Error) → LabelReads version bytes r → LabelReads version bytes s → r ≡ s
one_label version bytes (Ok v) (Ok w) p q = ap Ok (same_rest version bytes v w p.1 q.1)
one_label version bytes (Ok v) (Err e) p q = absurd (not_label_refused version bytes v e p.0 p.1 q)
one_label version bytes (Err e) (Ok w) p q = absurd (not_label_refused version bytes w e q.0 q.1 p)
one_label version bytes (Err d) (Err e) p q = ap Err (one_label_refusal version bytes d e p q)

pub label_sound : (version : ℕ) → IsSound (label version)
label_sound version = record {
  some = λ bytes small. some_label version bytes (version_or_not version bytes);
  one = one_label version;
  back = λ v utf8 spelled. (utf8, refl);
}
