-- The words that a process was started with.
use Rattle.std.specs.Prelude.{◌≡◌, ⊤, ◌⊎◌, ℕ, suc, ◌+◌, List, [], ◌∷◌, length}
use Rattle.std.specs.Str.{IsUtf8}

-- the greatest number of the machine, which is the size of no buffer
abbrev pub greatest : ℕ
greatest = 18446744073709551615

-- Where words stand so:
module _ (Stands : ℕ → List ℕ → Type 0) where
  -- these words are UTF-8, and stand one after another from the place on
  abbrev pub TextsFrom : ℕ → List (List ℕ) → Type 0
  TextsFrom place [] = ⊤
  TextsFrom place (word ∷ words) = Stands place word × IsUtf8 word × TextsFrom (suc place) words

  -- after the program's name, which stands at the place 0, a word isn't UTF-8, and those before it are
  pub record HasOther : Type 0 where
    pub before : List (List ℕ)
    pub texts : TextsFrom 1 before
    pub word : List ℕ
    pub stands : Stands (1 + length before) word
    pub other : ¬ IsUtf8 word

  -- these are all the words after the program's name, where none stands at such places
  pub record AreWords (Ends : ℕ → Type 0) (words : List (List ℕ)) : Type 0 where
    pub texts : TextsFrom 1 words
    pub end : Ends (1 + length words)

  -- a text stands at each place after the program's name, up to the greatest number of the machine, which stands for no place
  pub record FillPlaces : Type 0 where
    pub words : List (List ℕ)
    pub texts : TextsFrom 1 words
    pub all : 1 + length words ≡ greatest

-- Why there is no memory for the word at a place: an allocation failed, or the word is longer than any buffer.
abbrev pub LacksWord : Type 0 → (Longer : ℕ → ℕ → Type 0) → ℕ → Type 0
LacksWord lacks Longer place = lacks ⊎ Longer place greatest

-- Why there is no memory for all of them: an allocation failed, or one is longer than any buffer, or they never end.
abbrev pub LacksWords : Type 0 → (Stands : ℕ → List ℕ → Type 0) → (Longer : ℕ → ℕ → Type 0) → Type 0
LacksWords lacks Stands Longer = lacks ⊎ ((place : ℕ) × Longer place greatest) ⊎ FillPlaces Stands
