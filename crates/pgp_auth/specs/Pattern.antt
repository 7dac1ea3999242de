-- Texts that are single characters and runs, in a given order, and where other texts leave that order.
use Rattle.std.specs.Prelude.{◌≡◌, ◌≢◌, ℕ, Bool, false, ⊤, List, [], ◌∷◌, ◌++◌, map, Some, slice_get}
use Rattle.std.specs.List.{AllPass}

-- a part of a text: one character, or a run of characters that pass a test
pub data Part : Type 0 where
  Character : ℕ → Part
  Run : (ℕ → Bool) → Part

-- each character of a word
abbrev pub word : List ℕ → List Part
word = map Character

-- a run that stands before this text is as long as it can be
abbrev pub EndsRun : (ℕ → Bool) → List ℕ → Type 0
EndsRun test [] = ⊤
EndsRun test (c ∷ text) = test c ≡ false

-- the text begins with the parts: its runs there, each as long as it can be, and what stands after
pub data Begins : List Part → List ℕ → List (List ℕ) → List ℕ → Type 0 where
  here : {rest : List ℕ} → Begins [] rest [] rest
  character : {c : ℕ} {parts : List Part} {text rest : List ℕ} {runs : List (List ℕ)}
      → Begins parts text runs rest → Begins (Character c ∷ parts) (c ∷ text) runs rest
  run : {test : ℕ → Bool} {parts : List Part} {front text rest : List ℕ} {runs : List (List ℕ)}
      → AllPass test front → EndsRun test text → Begins parts text runs rest
      → Begins (Run test ∷ parts) (front ++ text) (front ∷ runs) rest

-- the text begins with some of the parts, and another character, or none, stands at the next one's
-- place: the text from there on
pub record Leaves (parts : List Part) (text rest : List ℕ) : Type 0 where
  pub before : List Part
  pub c : ℕ
  pub after : List Part
  pub parts_are : parts ≡ before ++ Character c ∷ after
  pub runs : List (List ℕ)
  pub begins : Begins before text runs rest
  pub other : slice_get rest 0 ≢ Some c
