-- Where the setting of a name stands among names in order, or where it has its place.
use Rattle.pgp_session.proofs.Common.{◌≡◌, ℕ, zero, suc, ◌+◌, ◌-◌, ◌≤◌, true, false, List, [], ◌∷◌, length, get_or, Result, Ok, Err, refl, sym, ap, subst, arith, ◌∙◌, inl, inr, AllByRecursion, bytes_eq, cases_Bool, Setting, bytes_eq-Decides, AreInOrder, StandsAt, cost, cost_at, is_before, put_in, replaced, size, without, slice_cmp, nat_list_cmp_total, texts_ties, is_eq, is_lt, nat_cmp, ordering_index, ordering_reverse}
use Rattle.std.proofs.Common.{◌<◌}
use Rattle.std.specs.List.Sorted.{IsSearchInRange, IsBinarySearchResult, IsNonDecreasingBy}
use Rattle.std.specs.declared.cmp.Ordering.{Ordering}
use Rattle.std.specs.declared.cmp.Ordering.TheVariants.{Less, Equal, Greater}
use Rattle.std.proofs.lemmas.List.Sorted.{searchable_from_sorted}
use Rattle.std.proofs.lemmas.List.Sums.{sum_by-cons}

abbrev compared : List ℕ → List ℕ → Ordering
compared = slice_cmp nat_cmp

-- what the order says of two names
other_from : (a b : List ℕ) (o : Ordering) → compared a b ≡ o → is_eq o ≡ false → bytes_eq a b ≡ false
other_from a b o e unequal = texts_ties a b ∙ ap is_eq e ∙ unequal

before_is_other : (a b : List ℕ) → is_before a b ≡ true → bytes_eq a b ≡ false
before_is_other a b e = texts_ties a b ∙ not_both (compared a b) e
  where
    not_both : (o : Ordering) → is_lt o ≡ true → is_eq o ≡ false
    not_both Less e = refl
    not_both Equal e = sym e
    not_both Greater e = refl

less : (o : Ordering) → is_lt o ≡ true → o ≡ Less
less Less e = refl
less Equal e = absurd (no e)
  where
    no : false ≡ true → ⊥
    no e = cc
less Greater e = absurd (no e)
  where
    no : false ≡ true → ⊥
    no e = cc

chained : (a b c : List ℕ) → is_before a b ≡ true → is_before b c ≡ true → is_before a c ≡ true
chained a b c e f = ap is_lt (nat_list_cmp_total.trans a b c (less (compared a b) e) (less (compared b c) f))

behind : (a b : List ℕ) → bytes_eq a b ≡ false → is_before a b ≡ false → is_before b a ≡ true
behind a b other later = ap is_lt (nat_list_cmp_total.antisymm b a) ∙ turned (compared a b) (sym (texts_ties a b) ∙ other) later
  where
    turned : (o : Ordering) → is_eq o ≡ false → is_lt o ≡ false → is_lt (ordering_reverse o) ≡ true
    turned Less e f = sym f
    turned Equal e f = sym e
    turned Greater e f = refl

-- ---- all of a list

all_at : (P : Setting → Type 0) (kept : List Setting) (i : ℕ) (d : Setting) → AllByRecursion P kept → i < length kept → P (get_or kept i d)
all_at P [] i d all lt = absurd (omega (arith, lt))
all_at P (s ∷ kept) zero d all lt = all.0
all_at P (s ∷ kept) (suc i) d all lt = all_at P kept i d all.1 (omega (arith, lt))

all_weaker : (P Q : Setting → Type 0) → ((s : Setting) → P s → Q s) → (kept : List Setting) → AllByRecursion P kept → AllByRecursion Q kept
all_weaker P Q weaker [] all = tt
all_weaker P Q weaker (s ∷ kept) all = (weaker s all.0, all_weaker P Q weaker kept all.1)

all_replaced : (P : Setting → Type 0) (s : Setting) (kept : List Setting) → P s → AllByRecursion P kept → AllByRecursion P (replaced s kept)
all_replaced P s [] own all = (own, tt)
all_replaced P s (x ∷ kept) own all =
    elim (cases_Bool (bytes_eq x.name s.name)) [
      | inl same ↦ rw same (own, all.1)
      | inr other ↦ elim (cases_Bool (is_before x.name s.name)) [
        | inl before ↦ rw (other, before) (all.0, all_replaced P s kept own all.1)
        | inr later ↦ rw (other, later) (own, all)
      ]
    ]

-- a setting more keeps the order
pub stays_in_order : (s : Setting) (kept : List Setting) → AreInOrder kept → AreInOrder (replaced s kept)
stays_in_order s [] order = (tt, tt)
stays_in_order s (x ∷ kept) order =
    elim (cases_Bool (bytes_eq x.name s.name)) [
      | inl same ↦ rw same (subst (λ (n : List ℕ). AllByRecursion (λ (y : Setting). is_before n y.name ≡ true) kept) ((bytes_eq-Decides x.name s.name).0 same) order.0, order.1)
      | inr other ↦ elim (cases_Bool (is_before x.name s.name)) [
        | inl before ↦ rw (other, before) (all_replaced (λ y. is_before x.name y.name ≡ true) s kept before order.0, stays_in_order s kept order.1)
        | inr later ↦
            let first = behind x.name s.name other later in
            let all = all_weaker (λ y. is_before x.name y.name ≡ true) (λ y. is_before s.name y.name ≡ true) (λ y e. chained s.name x.name y.name first e) kept order.0 in
            rw (other, later) ((first, all), order)
      ]
    ]

-- ---- the place that a search finds

size_more : (s : Setting) (kept : List Setting) → size (s ∷ kept) ≡ cost s + size kept
size_more = sum_by-cons cost

more_rest : (s : Setting) (name : List ℕ) (kept : List Setting) (n : ℕ) → size kept ≡ n + size (without name kept) → size (s ∷ kept) ≡ n + size (s ∷ without name kept)
more_rest s name kept n e =
    let all = size_more s kept in
    let others = size_more s (without name kept) in
    omega (arith, all, others, e)

more_grown : (s x : Setting) (kept : List Setting) → size (replaced x kept) ≡ cost x + size (without x.name kept) → size (s ∷ replaced x kept) ≡ cost x + size (s ∷ without x.name kept)
more_grown s x kept e =
    let all = size_more s (replaced x kept) in
    let others = size_more s (without x.name kept) in
    omega (arith, all, others, e)

stands : (name : List ℕ) (kept : List Setting) (i : ℕ) (d : Setting) → AreInOrder kept → i < length kept → (get_or kept i d).name ≡ name → StandsAt name kept (Ok i)
stands name [] i d order lt same = absurd (omega (arith, lt))
stands name (s ∷ kept) zero d order lt same =
    let here = (bytes_eq-Decides s.name name).1 same in
    record { is_place = omega arith; value = λ d. rw here refl; put = λ v. rw here refl; rest = λ d. rw here (size_more s kept); grown = λ v. rw here (size_more (record { name = name; value = v }) kept) }
stands name (s ∷ kept) (suc i) d order lt same =
    let in_rest : i < length kept = omega (arith, lt) in
    let before : is_before s.name name ≡ true = subst (λ (n : List ℕ). is_before s.name n ≡ true) same (all_at (λ y. is_before s.name y.name ≡ true) kept i d order.0 in_rest) in
    let rest = stands name kept i d order.1 in_rest same in
    let other = before_is_other s.name name before in
    record {
      is_place = omega (arith, rest.is_place);
      value = λ d. rw other (rest.value d);
      put = λ v. rw (other, before) (ap (λ l. s ∷ l) (rest.put v));
      rest = λ d. rw other (more_rest s name kept (cost (get_or kept i d)) (rest.rest d));
      grown = λ v. rw (other, before) (more_grown s (record { name = name; value = v }) kept (rest.grown v));
    }

has_place : (name : List ℕ) (kept : List Setting) (i : ℕ) → i ≤ length kept
    → ((k : ℕ) (d : Setting) → k < i → compared (get_or kept k d).name name ≡ Less)
    → ((k : ℕ) (d : Setting) → i ≤ k → k < length kept → compared (get_or kept k d).name name ≡ Greater)
    → StandsAt name kept (Err i)
has_place name [] zero le before after = record { is_place = omega arith; value = λ d. refl; put = λ v. refl; rest = λ d. refl; grown = λ v. size_more (record { name = name; value = v }) [] }
has_place name [] (suc i) le before after = absurd (omega (arith, le))
has_place name (s ∷ kept) zero le before after =
    let here = after 0 s (omega arith) (omega arith) in
    let rest = has_place name kept zero (omega arith) (λ k d lt. absurd (omega (arith, lt))) (λ k d le lt. after (suc k) d (omega arith) (omega (arith, lt))) in
    let other = other_from s.name name Greater here refl in
    let all : size (s ∷ kept) ≡ size (s ∷ without name kept) = omega (arith, more_rest s name kept 0 (rest.rest s)) in
    record {
      is_place = omega arith;
      value = λ d. rw other (rest.value d);
      put = λ v. rw (other, ap is_lt here) refl;
      rest = λ d. rw other (more_rest s name kept 0 (rest.rest d));
      grown = λ v. rw (other, ap is_lt here) (size_more (record { name = name; value = v }) (s ∷ kept) ∙ ap (λ n. cost (record { name = name; value = v }) + n) all);
    }
has_place name (s ∷ kept) (suc i) le before after =
    let here = before 0 s (omega arith) in
    let rest = has_place name kept i (omega (arith, le)) (λ k d lt. before (suc k) d (omega (arith, lt))) (λ k d le lt. after (suc k) d (omega (arith, le)) (omega (arith, lt))) in
    let other = other_from s.name name Less here refl in
    record {
      is_place = omega (arith, rest.is_place);
      value = λ d. rw other (rest.value d);
      put = λ v. rw (other, ap is_lt here) (ap (λ l. s ∷ l) (rest.put v));
      rest = λ d. rw other (more_rest s name kept 0 (rest.rest d));
      grown = λ v. rw (other, ap is_lt here) (more_grown s (record { name = name; value = v }) kept (rest.grown v));
    }

-- the names rise, as a binary search asks
neighbours : (kept : List Setting) (k : ℕ) (d : Setting) → AreInOrder kept → k + 1 < length kept → is_before (get_or kept k d).name (get_or kept (k + 1) d).name ≡ true
neighbours [] k d order lt = absurd (omega (arith, lt))
neighbours (s ∷ kept) zero d order lt = all_at (λ y. is_before s.name y.name ≡ true) kept 0 d order.0 (omega (arith, lt))
neighbours (s ∷ kept) (suc k) d order lt =
    let next : suc (k + 1) ≡ suc k + 1 = omega arith in
    subst (λ (n : ℕ). is_before (get_or kept k d).name (get_or (s ∷ kept) n d).name ≡ true) next (neighbours kept k d order.1 (omega (arith, lt)))

not_back : (a b : List ℕ) → is_before a b ≡ true → is_before b a ≡ false
not_back a b e = ap is_lt (nat_list_cmp_total.antisymm b a) ∙ ap (λ o. is_lt (ordering_reverse o)) (less (compared a b) e)

rises : (name : List ℕ) (kept : List Setting) → AreInOrder kept → IsNonDecreasingBy (λ s. ordering_index (compared s.name name)) kept
rises name kept order =
    searchable_from_sorted nat_list_cmp_total (λ s. s.name) kept name (λ k d at lt. not_back (get_or kept k d).name (get_or kept (k + 1) d).name (neighbours kept k d order lt))

same_name : (a b : List ℕ) → compared a b ≡ Equal → a ≡ b
same_name a b e = (bytes_eq-Decides a b).0 (texts_ties a b ∙ ap is_eq e)

none : Setting
none = record { name = []; value = [] }

-- a binary search ends at the setting, or where it has its place
pub searched : (name : List ℕ) (kept : List Setting) (place : Result ℕ ℕ) → AreInOrder kept → IsSearchInRange place (length kept) → IsBinarySearchResult (λ s. compared s.name name) kept place → StandsAt name kept place
searched name kept (Ok i) order in_range equal = stands name kept i none order in_range (same_name (get_or kept i none).name name (equal none))
searched name kept (Err i) order in_range parted =
    let p = parted (rises name kept order) in
    has_place name kept i in_range (λ k d lt. p.0 k d (omega arith) lt) (λ k d le lt. p.1 k d le lt)

-- what the others take
pub others_take : (name : List ℕ) (kept lent lent' : List Setting) (place : Result ℕ ℕ) (taken others : ℕ) → lent ≡ kept → lent' ≡ kept → StandsAt name lent place → taken ≡ size kept
    → ((d : Setting) → others ≡ taken - cost_at place lent' d) → others ≡ size (without name kept)
others_take name kept lent lent' place taken others e e' stand total take =
    let rest = subst (λ (l : List Setting). size l ≡ cost_at place l none + size (without name l)) e (stand.rest none) in
    let left = subst (λ (l : List Setting). others ≡ taken - cost_at place l none) e' (take none) in
    omega (arith, rest, left, total)

-- what is put at the place stands as it is to
pub put_there : (name value : List ℕ) (kept lent new : List Setting) (place : Result ℕ ℕ) (entry : Setting) → lent ≡ kept → StandsAt name lent place → entry ≡ record { name = name; value = value } → new ≡ put_in place entry kept
    → new ≡ replaced (record { name = name; value = value }) kept
put_there name value kept lent new place entry e stand is put =
    put ∙ ap (λ x. put_in place x kept) is ∙ sym (subst (λ (l : List Setting). replaced (record { name = name; value = value }) l ≡ put_in place (record { name = name; value = value }) l) e (stand.put value))

pub takes_so_much : (name value : List ℕ) (kept lent : List Setting) (place : Result ℕ ℕ) → lent ≡ kept → StandsAt name lent place → size (replaced (record { name = name; value = value }) kept) ≡ cost (record { name = name; value = value }) + size (without name kept)
takes_so_much name value kept lent place e stand =
    subst (λ (l : List Setting). size (replaced (record { name = name; value = value }) l) ≡ cost (record { name = name; value = value }) + size (without name l)) e (stand.grown value)
