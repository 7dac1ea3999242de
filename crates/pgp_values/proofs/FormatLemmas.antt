-- A table that is halved.
use Rattle.pgp_values.proofs.Common.{◌≡◌, ℕ, zero, suc, ◌+◌, ◌<◌, ◌≤◌, true, false, nat_le, eqb, List, [], ◌∷◌, length, drop, get_or, Some, None, refl, sym, ap, ◌∙◌, arith, add-one, le_of_suc-le-suc, not-suc-le-zero, drop_of_length-le, and_parts, leb-true, Entry, format_in, rises}

record Parts (n : ℕ) (f : Entry) (fs : List Entry) : Type 0 where
  pub from : n ≤ f.0
  pub rest : rises (f.0 + 1) fs ≡ true

parts : (n : ℕ) (f : Entry) (fs : List Entry) → rises n (f ∷ fs) ≡ true → Parts n f fs
unfolding rises
parts n f fs h =
    let both = and_parts (nat_le n f.0) (rises (f.0 + 1) fs) h in
    record { from = leb-true n f.0 both.0; rest = both.1 }

pub other : (m n : ℕ) → (m ≡ n → ⊥) → eqb m n ≡ false
other m n h = grind arith

same : (n : ℕ) → eqb n n ≡ true
same n = grind arith

none : (oid : ℕ) → format_in [] oid ≡ None
unfolding format_in
none oid = refl

not_here : (f : Entry) (fs : List Entry) (oid : ℕ) → (f.0 ≡ oid → ⊥) → format_in (f ∷ fs) oid ≡ format_in fs oid
unfolding format_in
not_here f fs oid h = rw (other f.0 oid h) refl

here : (f : Entry) (fs : List Entry) (oid : ℕ) → f.0 ≡ oid → format_in (f ∷ fs) oid ≡ Some f.1
unfolding format_in
here f fs oid e = rw (e, same oid) refl

-- no entry has a number below them
below : (n : ℕ) (fs : List Entry) (oid : ℕ) → rises n fs ≡ true → oid < n → format_in fs oid ≡ None
below n [] oid up low = none oid
below n (f ∷ fs) oid up low =
    let p = parts n f fs up in
    let a = p.from in
    not_here f fs oid (λ e. omega (arith, e)) ∙ below (f.0 + 1) fs oid p.rest (omega arith)

at_least : (n : ℕ) (fs : List Entry) (k : ℕ) (d : Entry) → rises n fs ≡ true → k < length fs → n ≤ (get_or fs k d).0
at_least n [] k d up lt = absurd (not-suc-le-zero lt)
at_least n (f ∷ fs) zero d up lt = (parts n f fs up).from
at_least n (f ∷ fs) (suc k) d up lt =
    let p = parts n f fs up in
    let a = p.from in
    let later = at_least (f.0 + 1) fs k d p.rest (le_of_suc-le-suc lt) in
    omega arith

passed : (n : ℕ) (fs : List Entry) (k oid : ℕ) (d : Entry) → rises n fs ≡ true → k < length fs → (get_or fs k d).0 < oid → format_in fs oid ≡ format_in (drop (suc k) fs) oid
passed n [] k oid d up lt behind = absurd (not-suc-le-zero lt)
passed n (f ∷ fs) zero oid d up lt behind = let less : f.0 < oid = behind in not_here f fs oid (λ e. omega (arith, e, less))
passed n (f ∷ fs) (suc k) oid d up lt behind =
    let p = parts n f fs up in
    let later = at_least (f.0 + 1) fs k d p.rest (le_of_suc-le-suc lt) in
    let last : (get_or fs k d).0 < oid = behind in
    not_here f fs oid (λ e. omega (arith, e)) ∙ passed (f.0 + 1) fs k oid d p.rest (le_of_suc-le-suc lt) behind

pub behind_one : (fs : List Entry) (k oid : ℕ) (d : Entry) → rises 0 fs ≡ true → k < length fs → (get_or fs k d).0 < oid → format_in fs oid ≡ format_in (drop (k + 1) fs) oid
behind_one fs k oid d up lt behind = passed 0 fs k oid d up lt behind ∙ ap (λ m. format_in (drop m fs) oid) (sym (add-one k))

before_from : (n : ℕ) (fs : List Entry) (k oid : ℕ) (d : Entry) → rises n fs ≡ true → k < length fs → oid < (get_or fs k d).0 → format_in (drop k fs) oid ≡ None
before_from n [] k oid d up lt low = absurd (not-suc-le-zero lt)
before_from n (f ∷ fs) zero oid d up lt low =
    let first : oid < f.0 = low in
    not_here f fs oid (λ e. omega (arith, e, first)) ∙ below (f.0 + 1) fs oid (parts n f fs up).rest (omega arith)
before_from n (f ∷ fs) (suc k) oid d up lt low = before_from (f.0 + 1) fs k oid d (parts n f fs up).rest (le_of_suc-le-suc lt) low

pub before_one : (fs : List Entry) (k oid : ℕ) (d : Entry) → rises 0 fs ≡ true → k < length fs → oid < (get_or fs k d).0 → format_in (drop k fs) oid ≡ None
before_one fs k oid d up lt low = before_from 0 fs k oid d up lt low

found_from : (n : ℕ) (fs : List Entry) (k oid : ℕ) (d : Entry) → rises n fs ≡ true → k < length fs → (get_or fs k d).0 ≡ oid → format_in fs oid ≡ Some (get_or fs k d).1
found_from n [] k oid d up lt e = absurd (not-suc-le-zero lt)
found_from n (f ∷ fs) zero oid d up lt e = here f fs oid e
found_from n (f ∷ fs) (suc k) oid d up lt e =
    let p = parts n f fs up in
    let later = at_least (f.0 + 1) fs k d p.rest (le_of_suc-le-suc lt) in
    let at : (get_or fs k d).0 ≡ oid = e in
    not_here f fs oid (λ h. omega (arith, h, at)) ∙ found_from (f.0 + 1) fs k oid d p.rest (le_of_suc-le-suc lt) e

pub found : (fs : List Entry) (k oid : ℕ) (d : Entry) → rises 0 fs ≡ true → k < length fs → oid ≡ (get_or fs k d).0 → format_in fs oid ≡ Some (get_or fs k d).1
found fs k oid d up lt e = found_from 0 fs k oid d up lt (sym e)

-- nothing stands after the last
pub behind_all : (fs : List Entry) (k oid : ℕ) → length fs ≤ k → format_in (drop k fs) oid ≡ None
behind_all fs k oid le = ap (λ l. format_in l oid) (drop_of_length-le fs le) ∙ none oid
