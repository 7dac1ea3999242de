-- What a writer or a reader of one value comes to.
use Rattle.std.specs.Prelude.{◌≡◌, ℕ, ◌<◌, ◌≤◌, List, ◌++◌, length, drop, Err}
use Rattle.pgp_base.specs.Error.{number_of}
use Rattle.pgp_base.specs.declared.error.Error.{Error}
use Rattle.pgp_types.specs.Format.{Format, Reads}

-- the spelling fits, stands at the front of the memory, and its length is reported; after it the memory is as it
-- was
pub record Wrote (spelling old new : List ℕ) (reported : ℕ) : Type 0 where
  pub length_is : reported ≡ length spelling
  pub fits : length spelling ≤ length old
  pub stands : new ≡ spelling ++ drop (length spelling) old

-- nothing was written: the spelling is longer than the memory
pub record Lacks (spelling old : List ℕ) (reported code : ℕ) : Type 0 where
  pub length_is : reported ≡ 0
  pub code_is : code ≡ 1
  pub longer : length old < length spelling

-- the bytes are rejected as this type, and this is the error's number
pub record Refuses {V R : Type 0} (f : Format V R) (bytes : List ℕ) (code : ℕ) : Type 0 where
  pub error : Error
  pub reads : Reads f bytes (Err error)
  pub code_is : code ≡ number_of error
