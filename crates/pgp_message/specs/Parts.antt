-- What the bodies of backend messages hold, as plain data.
use Rattle.std.specs.Prelude.{ℕ, ℤ, List, [], ◌∷◌, Option, Some, None, if◌then◌else◌, bytes_eq}

pub record Notification : Type 0 where
  pub process_id : ℤ
  pub channel : List ℕ
  pub message : List ℕ

-- the key has 4 to 256 bytes, by this project's profile of protocol 3.2
pub record KeyData : Type 0 where
  pub process_id : ℤ
  pub secret_key : List ℕ

pub record Setting : Type 0 where
  pub name : List ℕ
  pub value : List ℕ

-- the value under a name
abbrev pub value_of : List ℕ → List Setting → Option (List ℕ)
value_of name [] = None
value_of name (s ∷ kept) = if bytes_eq s.name name then Some s.value else value_of name kept

-- without the setting of this name
abbrev pub without : List ℕ → List Setting → List Setting
without name [] = []
without name (s ∷ kept) = if bytes_eq s.name name then kept else s ∷ without name kept

-- a count, and the bytes after it, which only a walk reads
pub record CountedBytes : Type 0 where
  pub count : ℕ
  pub storage : List ℕ

-- a version's number, the count of the options, and the bytes after it, which only a walk reads
pub record Negotiation : Type 0 where
  pub version : ℤ
  pub count : ℕ
  pub options : List ℕ

-- the format of a copy as a whole, and of each column
pub record CopyFormats : Type 0 where
  pub format : ℕ
  pub count : ℕ
  pub storage : List ℕ
