-- All items of a list, read into an array of the caller's.
use Rattle.for_c.proofs.Common.{All, ◌≡◌, ℕ, ◌+◌, ◌<◌, List, [], ◌∷◌, ◌++◌, map, take, drop, length, get_or, set, refl, sym, ap, subst, ◌∙◌, arith, map-append, take_more_set, drop-set-lt, set-get_or, drop-drop, All-append, All-cons, All-nil, Takes, TakesAll, PgpCursor}

module _ {V X : Type 0} (Spelled : ℕ → V → List ℕ → Type 0) (bytes : List ℕ) (meaning : X → V) (Inside : X → Type 0) (before : PgpCursor) (old : List X) where
  -- the first n are the items so far, and the others are as they were
  pub record SoFar (now : PgpCursor) (n : ℕ) (items : List X) : Type 0 where
    pub taken : TakesAll Spelled bytes before now (map meaning (take n items))
    pub inside : All Inside (take n items)
    pub behind : drop n items ≡ drop n old

  pub none_so_far : SoFar before 0 old
  none_so_far = record { taken = TakesAll.none; inside = All-nil Inside; behind = refl }

  pub one_more : (now next : PgpCursor) (n : ℕ) (items : List X) (x : X) → n < length items → SoFar now n items → Takes Spelled bytes now next (meaning x) → Inside x → SoFar next (n + 1) (set items n x)
  one_more now next n items x few s takes inside =
      let is = take_more_set items n x few in
      let shown : map meaning (take (n + 1) (set items n x)) ≡ map meaning (take n items) ++ meaning x ∷ [] = ap (map meaning) is ∙ map-append meaning (take n items) (x ∷ []) in
      record {
        taken = subst (TakesAll Spelled bytes before next) (sym shown) (TakesAll.more s.taken takes);
        inside = subst (All Inside) (sym is) (All-append Inside (take n items) (x ∷ []) s.inside (All-cons Inside x [] inside (All-nil Inside)));
        behind = drop-set-lt (n + 1) items n x (omega arith) ∙ sym (drop-drop 1 n items) ∙ ap (drop 1) s.behind ∙ drop-drop 1 n old;
      }

  pub none_more : (now : PgpCursor) (n : ℕ) (items : List X) (x d : X) → x ≡ get_or items n d → SoFar now n items → SoFar now n (set items n x)
  none_more now n items x d same s = subst (SoFar now n) (sym (ap (set items n) same ∙ set-get_or items n d)) s
