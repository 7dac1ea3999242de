-- A table that is halved.
use Rattle.pgp_saslprep.proofs.Common.{◌≡◌, ℕ, zero, suc, ◌+◌, ◌<◌, ◌≤◌, true, false, ◌&&◌, nat_le, List, [], ◌∷◌, length, drop, get_or, refl, sym, ap, ◌∙◌, arith, add-one, le_of_suc-le-suc, not-suc-le-zero, drop_of_length-le, and_parts, and_from, and_left, and_right, or_right, leb-true, le-leb, lt-leb, Range, in_table, ranges_rise}

pub record Parts (n : ℕ) (r : Range) (rs : List Range) : Type 0 where
  pub from : n ≤ r.0
  pub some : r.0 ≤ r.1
  pub rest : ranges_rise (r.1 + 1) rs ≡ true

parts : (n : ℕ) (r : Range) (rs : List Range) → ranges_rise n (r ∷ rs) ≡ true → Parts n r rs
unfolding ranges_rise
parts n r rs h =
    let both = and_parts (nat_le n r.0 && nat_le r.0 r.1) (ranges_rise (r.1 + 1) rs) h in
    let head = and_parts (nat_le n r.0) (nat_le r.0 r.1) both.0 in
    record { from = leb-true n r.0 head.0; some = leb-true r.0 r.1 head.1; rest = both.1 }

not_here : (r : Range) (rs : List Range) (c : ℕ) → (nat_le r.0 c && nat_le c r.1) ≡ false → in_table (r ∷ rs) c ≡ in_table rs c
unfolding in_table
not_here r rs c no_ = rw no_ refl

here : (r : Range) (rs : List Range) (c : ℕ) → (nat_le r.0 c && nat_le c r.1) ≡ true → in_table (r ∷ rs) c ≡ true
unfolding in_table
here r rs c yes_ = rw yes_ refl

later : (r : Range) (rs : List Range) (c : ℕ) → in_table rs c ≡ true → in_table (r ∷ rs) c ≡ true
unfolding in_table
later r rs c yes_ = or_right _ _ yes_

none : (c : ℕ) → in_table [] c ≡ false
unfolding in_table
none c = refl

-- each range ends at n or later
ends_from : (n : ℕ) (rs : List Range) (k : ℕ) (d : Range) → ranges_rise n rs ≡ true → k < length rs → n ≤ (get_or rs k d).1
ends_from n [] k d up lt = absurd (not-suc-le-zero lt)
ends_from n (r ∷ rs) zero d up lt = let p = parts n r rs up in let a = p.from in let b = p.some in omega arith
ends_from n (r ∷ rs) (suc k) d up lt =
    let p = parts n r rs up in
    let a = p.from in
    let b = p.some in
    let later = ends_from (r.1 + 1) rs k d p.rest (le_of_suc-le-suc lt) in
    omega arith

-- no range has what is below them
pub below : (n : ℕ) (rs : List Range) (c : ℕ) → ranges_rise n rs ≡ true → c < n → in_table rs c ≡ false
below n [] c up low = none c
below n (r ∷ rs) c up low =
    let p = parts n r rs up in
    let a = p.from in
    let b = p.some in
    not_here r rs c (and_left _ _ (lt-leb r.0 c (omega arith))) ∙ below (r.1 + 1) rs c p.rest (omega arith)

-- what lies after a range is looked for after it
passed : (n : ℕ) (rs : List Range) (k c : ℕ) (d : Range) → ranges_rise n rs ≡ true → k < length rs → (get_or rs k d).1 < c → in_table rs c ≡ in_table (drop (suc k) rs) c
passed n [] k c d up lt behind = absurd (not-suc-le-zero lt)
passed n (r ∷ rs) zero c d up lt behind = not_here r rs c (and_right _ _ (lt-leb c r.1 behind))
passed n (r ∷ rs) (suc k) c d up lt behind =
    let p = parts n r rs up in
    let later = ends_from (r.1 + 1) rs k d p.rest (le_of_suc-le-suc lt) in
    let last : (get_or rs k d).1 < c = behind in
    not_here r rs c (and_right _ _ (lt-leb c r.1 (omega arith))) ∙ passed (r.1 + 1) rs k c d p.rest (le_of_suc-le-suc lt) behind

pub behind_one : (rs : List Range) (k c : ℕ) (d : Range) → ranges_rise 0 rs ≡ true → k < length rs → (get_or rs k d).1 < c → in_table rs c ≡ in_table (drop (k + 1) rs) c
behind_one rs k c d up lt behind = passed 0 rs k c d up lt behind ∙ ap (λ m. in_table (drop m rs) c) (sym (add-one k))

-- what lies before a range isn't in it, nor after it
before_from : (n : ℕ) (rs : List Range) (k c : ℕ) (d : Range) → ranges_rise n rs ≡ true → k < length rs → c < (get_or rs k d).0 → in_table (drop k rs) c ≡ false
before_from n [] k c d up lt low = absurd (not-suc-le-zero lt)
before_from n (r ∷ rs) zero c d up lt low =
    let p = parts n r rs up in
    let some = p.some in
    let first : c < r.0 = low in
    not_here r rs c (and_left _ _ (lt-leb r.0 c low)) ∙ below (r.1 + 1) rs c p.rest (omega arith)
before_from n (r ∷ rs) (suc k) c d up lt low = before_from (r.1 + 1) rs k c d (parts n r rs up).rest (le_of_suc-le-suc lt) low

pub before_one : (rs : List Range) (k c : ℕ) (d : Range) → ranges_rise 0 rs ≡ true → k < length rs → c < (get_or rs k d).0 → in_table (drop k rs) c ≡ false
before_one rs k c d up lt low = before_from 0 rs k c d up lt low

-- what lies in a range is listed
pub in_one : (rs : List Range) (k c : ℕ) (d : Range) → k < length rs → (get_or rs k d).0 ≤ c → c ≤ (get_or rs k d).1 → in_table rs c ≡ true
in_one [] k c d lt from upto = absurd (not-suc-le-zero lt)
in_one (r ∷ rs) zero c d lt from upto = here r rs c (and_from _ _ (le-leb r.0 c from) (le-leb c r.1 upto))
in_one (r ∷ rs) (suc k) c d lt from upto = later r rs c (in_one rs k c d (le_of_suc-le-suc lt) from upto)

-- nothing is listed after the last range
pub behind_all : (rs : List Range) (k c : ℕ) → length rs ≤ k → in_table (drop k rs) c ≡ false
behind_all rs k c le = ap (λ l. in_table l c) (drop_of_length-le rs le) ∙ none c
