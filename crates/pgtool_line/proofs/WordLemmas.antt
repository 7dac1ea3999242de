-- One word more, after those that stand.
use Rattle.pgtool_line.proofs.Common.{◌≡◌, ℕ, suc, ◌+◌, List, [], ◌∷◌, ◌++◌, length, length-append, subst, sym, ap, ◌∙◌, arith, TextsFrom}
use Rattle.std.specs.Str.{IsUtf8}

module _ (Stands : ℕ → List ℕ → Type 0) where
  texts_more : (place at : ℕ) (words : List (List ℕ)) (word : List ℕ) → TextsFrom Stands place words → at ≡ place + length words → Stands at word → IsUtf8 word → TextsFrom Stands place (words ++ word ∷ [])
  texts_more place at [] word texts here stands utf8 = (subst (λ p. Stands p word) (here ∙ omega arith) stands, utf8, tt)
  texts_more place at (w ∷ words) word texts here stands utf8 =
      (texts.0, texts.1, texts_more (suc place) at words word texts.2 (omega (arith, here)) stands utf8)

  pub one_more : (at : ℕ) (words new : List (List ℕ)) (word : List ℕ) → TextsFrom Stands 1 words → at ≡ 1 + length words → Stands at word → IsUtf8 word → new ≡ words ++ word ∷ [] → TextsFrom Stands 1 new × (at + 1 ≡ 1 + length new)
  one_more at words new word texts here stands utf8 added = (
    subst (TextsFrom Stands 1) (sym added) (texts_more 1 at words word texts here stands utf8),
    omega (arith, here, ap length added, length-append words (word ∷ [])),
  )
