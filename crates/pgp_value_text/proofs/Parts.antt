-- Parts of a text, one at a time.
use Rattle.std.proofs.Common.{◌≡◌, ℕ, ◌+◌, suc, List, [], ◌∷◌, ◌++◌, None, refl, sym, ap, ◌∙◌, subst, arith}
use Rattle.pgp_value_text.proofs.Common.{length, ShowsEach, ShowsList, listed, IsFinished, TakesItem, Walk}

-- What is still to come makes of the text what all was to make of it, and the other way round.
abbrev pub Left : {V : Type 0} → (V → List ℕ → Type 0) → (ℕ → List ℕ → List ℕ) → Walk V → List ℕ → ℕ → Walk V → List ℕ → Type 0
Left shows placed all old place left out =
    ((t : List ℕ) → ShowsEach shows placed place left.items out t → ShowsEach shows placed 0 all.items old t)
    × ((t : List ℕ) → ShowsEach shows placed 0 all.items old t → ShowsEach shows placed place left.items out t)
    × (left.end ≡ all.end) × (place + length left.items ≡ length all.items)

module _ {V : Type 0} (shows : V → List ℕ → Type 0) (placed : ℕ → List ℕ → List ℕ) where
  module _ (all : Walk V) (old : List ℕ) (place : ℕ) (before after : Walk V) (out : List ℕ) (left : Left shows placed all old place before out) where
    -- a part that has no text
    pub left_none : (x : V) → TakesItem before x after → ((t : List ℕ) → shows x t → ⊥) → (t : List ℕ) → ShowsEach shows placed 0 all.items old t → ⊥
    left_none x takes none t s =
        let h : ShowsEach shows placed place (x ∷ after.items) out t = subst (λ l. ShowsEach shows placed place l out t) takes.items (left.1 t s) in
        none h.0 h.1

    pub left_end : (size : ℕ) → IsFinished before after → place ≡ size → (all.end ≡ None) × (length all.items ≡ size) × ShowsEach shows placed 0 all.items old out
    left_end size is e =
        let none : length before.items ≡ 0 = ap (λ l. length l) is.items in
        (sym left.2 ∙ is.end, omega (arith, left.3, none, e), left.0 out (subst (λ l. ShowsEach shows placed place l out out) (sym is.items) refl))

  module _ (one : (v : V) (a b : List ℕ) → shows v a → shows v b → a ≡ b) where
    pub one_each : (place : ℕ) (vs : List V) (old a b : List ℕ) → ShowsEach shows placed place vs old a → ShowsEach shows placed place vs old b → a ≡ b
    one_each place [] old a b s t = s ∙ sym t
    one_each place (v ∷ vs) old a b s t =
        one_each (place + 1) vs (old ++ placed place s.0) a b s.2
        (subst (λ x. ShowsEach shows placed (place + 1) vs (old ++ placed place x) b) (one v t.0 s.0 t.1 s.1) t.2)

    -- one part more
    pub left_step : (all : Walk V) (old : List ℕ) (place : ℕ) (before after : Walk V) (out mid : List ℕ) → Left shows placed all old place before out → (x : V) → TakesItem before x after
        → (t : List ℕ) × shows x t × (mid ≡ out ++ placed place t) → Left shows placed all old (place + 1) after mid
    left_step all old place before after out mid left x takes pushed =
        let fewer : length before.items ≡ suc (length after.items) = ap (λ l. length l) takes.items in (
          λ t s. left.0 t (subst (λ l. ShowsEach shows placed place l out t) (sym takes.items) (pushed.0, pushed.1, subst (λ m. ShowsEach shows placed (place + 1) after.items m t) pushed.2 s)),
          λ t s.
              let h : ShowsEach shows placed place (x ∷ after.items) out t = subst (λ l. ShowsEach shows placed place l out t) takes.items (left.1 t s) in
              subst (λ m. ShowsEach shows placed (place + 1) after.items m t) (ap (λ u. out ++ placed place u) (one x h.0 pushed.0 h.1 pushed.1) ∙ sym pushed.2) h.2,
          takes.end ∙ left.2,
          omega (arith, fewer, left.3),
        )

pub one_list : {V : Type 0} (shows : V → List ℕ → Type 0) → ((v : V) (a b : List ℕ) → shows v a → shows v b → a ≡ b) → (begin end : List ℕ) (w : Walk V) (a b : List ℕ) → ShowsList shows begin end w a → ShowsList shows begin end w b → a ≡ b
one_list shows one begin end w a b s t = s.4 ∙ (ap (λ x. x ++ end) (one_each shows listed one 0 w.items begin s.2 t.2 s.3 t.3) ∙ sym t.4)
