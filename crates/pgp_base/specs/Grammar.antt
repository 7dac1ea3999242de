-- What a reader of items owes its grammar.
use Rattle.std.specs.Prelude.{◌≡◌, ℕ, ◌<◌, List, ◌++◌, length, Result, Ok, Err}
use Rattle.pgp_base.specs.declared.error.Error.{Error}
use Rattle.pgp_base.specs.declared.error.Error.TheVariants.{NotDrained}
use Rattle.pgp_base.specs.Wire.{IsBytes}

-- an item stands at the front of the bytes
pub record StandsAt {V : Type 0} (Spelled : ℕ → V → List ℕ → Type 0) (place : ℕ) (bytes : List ℕ) (x : V) (after : List ℕ) : Type 0 where
  pub front : List ℕ
  pub whole : bytes ≡ front ++ after
  pub spelled : Spelled place x front

-- A reader and a grammar are the same: what is read is spelled so, and what is spelled so is read; likewise each error.
pub record IsReader {V : Type 0} (Spelled : ℕ → V → List ℕ → Type 0) (Refused : List ℕ → Error → Type 0) (read : ℕ → List ℕ → Result (V × List ℕ) Error) : Type 0 where
  pub found : (place : ℕ) (bytes : List ℕ) (x : V) (after : List ℕ) → IsBytes bytes → read place bytes ≡ Ok (x, after) → StandsAt Spelled place bytes x after
  pub again : (place : ℕ) (x : V) (front after : List ℕ) → Spelled place x front → read place (front ++ after) ≡ Ok (x, after)
  pub refused : (place : ℕ) (bytes : List ℕ) (e : Error) → IsBytes bytes → read place bytes ≡ Err e → Refused bytes e
  pub refuses : (place : ℕ) (bytes : List ℕ) (e : Error) → Refused bytes e → read place bytes ≡ Err e
  pub some : (place : ℕ) (x : V) (front : List ℕ) → Spelled place x front → 0 < length front
  pub own : (bytes : List ℕ) → Refused bytes NotDrained → ⊥
