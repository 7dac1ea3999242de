-- The law of a walk: over each buffer there is one list of items with an end, and no other.
use Rattle.std.specs.Prelude.{◌≡◌, ℕ, List, Option}
use Rattle.pgp_base.specs.declared.error.Error.{Error}
use Rattle.pgp_base.specs.Wire.{IsBytes}
use Rattle.pgp_base.specs.Items.{CountedItems, MarkedItems}

-- a walk of so many items
pub record HasOneCountedList {V : Type 0} (Spelled : ℕ → V → List ℕ → Type 0) (Refused : List ℕ → Error → Type 0) : Type 0 where
  pub some : (n : ℕ) (buffer : List ℕ) → IsBytes buffer → (items : List V) × (end : Option Error) × CountedItems Spelled Refused n buffer items end
  pub one : (n : ℕ) (buffer : List ℕ) (xs ys : List V) (d e : Option Error) → CountedItems Spelled Refused n buffer xs d → CountedItems Spelled Refused n buffer ys e → (xs ≡ ys) × (d ≡ e)

-- a walk that a byte 0 ends
pub record HasOneMarkedList {V : Type 0} (Spelled : ℕ → V → List ℕ → Type 0) (Refused : List ℕ → Error → Type 0) : Type 0 where
  pub some : (buffer : List ℕ) → IsBytes buffer → (items : List V) × (end : Option Error) × MarkedItems Spelled Refused buffer items end
  pub one : (buffer : List ℕ) (xs ys : List V) (d e : Option Error) → MarkedItems Spelled Refused buffer xs d → MarkedItems Spelled Refused buffer ys e → (xs ≡ ys) × (d ≡ e)
