-- A run of a program: what is done for its words, and what is said on standard error.
use Rattle.std.specs.Prelude.{◌≡◌, ◌⊎◌, ℕ, List, Option}
use Rattle.std.specs.Io.KnownBytes.{Appends, Keeps}
use Rattle.pgtool_line.specs.Taken.{AppendsFront}
use Rattle.pgtool_line.specs.Words.{AreWords, HasOther, LacksWords}
use Rattle.pgtool_line.specs.declared.fault.Fault.{Fault}
use Rattle.pgtool_line.specs.declared.fault.Fault.TheVariants.{Memory, Read, Write}

-- Before and after: what the reader has left, what the writer holds.
pub record Streams : Type 0 where
  pub input : Option (List ℕ)
  pub output : Option (List ℕ)

-- What stands after a fault, where memory is refused, reading stops with such faults, and writes fail so: one of memory comes only where an
-- allocation failed, or reading stopped for lack of memory; one of reading only where it stopped otherwise; one of writing where a write failed.
abbrev pub Caused : Type 0 → (Fault → Type 0) → Type 0 → Fault → Type 0
Caused lacks ReadStops write_failed Memory = lacks ⊎ ReadStops Memory
Caused lacks ReadStops write_failed Read = ReadStops Read
Caused lacks ReadStops write_failed Write = write_failed

-- The words aren't obeyed: this is reported, and nothing is read or written.
pub record IsUnread (text : List ℕ) (code : ℕ) (before after : Streams) (status : ℕ) (complaint : List ℕ) : Type 0 where
  pub reported : complaint ≡ text
  pub failed : status ≡ code
  pub input : Keeps before.input after.input
  pub output : Keeps before.output after.output

-- What is to be said on standard error is said and passed on; or a front of it is said, where a call of its writer failed.
abbrev pub IsSaid : Type 0 → Type 0 → Option (List ℕ) → Option (List ℕ) → List ℕ → Type 0
IsSaid failed passed old new text = (Appends old new text × passed) ⊎ (failed × AppendsFront old new text)

-- Where words are obeyed so:
module _ (Obeys : List (List ℕ) → Streams → Streams → ℕ → List ℕ → Type 0) where
  -- A run: the words are obeyed, and it is said what is then to be said.
  pub record Runs (said_failed said_passed : Type 0) (words : List (List ℕ)) (before after : Streams) (old new : Option (List ℕ)) (status : ℕ) : Type 0 where
    pub complaint : List ℕ
    pub obeyed : Obeys words before after status complaint
    pub said : IsSaid said_failed said_passed old new complaint

  -- What is done for the words of the process, where words stand so and none stands at such places.
  module _ (Stands : ℕ → List ℕ → Type 0) (Ends : ℕ → Type 0) where
    -- They are obeyed, and no other words.
    pub record ObeysAll (before after : Streams) (status : ℕ) (complaint : List ℕ) : Type 0 where
      pub words : List (List ℕ)
      pub own : AreWords Stands Ends words
      pub obeyed : Obeys words before after status complaint

    -- Where a word is so long, a growth is refused so, and this is reported of words that ask for nothing, and of lack of
    -- memory:
    module _ (Longer : ℕ → ℕ → Type 0) (lacks : Type 0) (usage no_memory : List ℕ) where
      -- They are obeyed; or one of them isn't UTF-8; or there is no memory for them.
      abbrev pub ObeysOwn : Streams → Streams → ℕ → List ℕ → Type 0
      ObeysOwn before after status complaint = ObeysAll before after status complaint
          ⊎ (HasOther Stands × IsUnread usage 2 before after status complaint)
          ⊎ (LacksWords lacks Stands Longer × IsUnread no_memory 1 before after status complaint)

      -- A run on the words of the process.
      pub record RunsOwn (said_failed said_passed : Type 0) (before after : Streams) (old new : Option (List ℕ)) (status : ℕ) : Type 0 where
        pub complaint : List ℕ
        pub obeyed : ObeysOwn before after status complaint
        pub said : IsSaid said_failed said_passed old new complaint
