-- What a server may send to its client's requests, as bytes.
-- PostgreSQL manual, "Message Flow".
use Rattle.std.specs.Prelude.{◌≡◌, ℕ, ◌+◌, Bool, false, List, [], ◌∷◌, ◌++◌, ◌⊎◌, length, Option, Some, None, Ok, Err}
use Rattle.pgp_base.specs.declared.error.Error.{Error}
use Rattle.pgp_base.specs.declared.error.Error.TheVariants.{UnknownTag}
use Rattle.pgp_client.specs.Flow.{Belong}
use Rattle.pgp_client.specs.Kinds.{kind_of, kind_of_tag}
use Rattle.pgp_client.specs.declared.event.Event.{Event}
use Rattle.pgp_client.specs.declared.kind.Kind.{Kind}
use Rattle.pgp_client.specs.declared.request.Asked.{Asked}
use Rattle.pgp_client.specs.declared.request.Request.{Request}
use Rattle.pgp_message.specs.BackendMessage.{Message}
use Rattle.pgp_message.specs.Stream.{IsLengthFault, IsPartial, TakesFrame}

-- each request is called by its place
abbrev pub named_from : ℕ → List Request → List Asked
named_from n [] = []
named_from n (r ∷ rs) = record { request = r; name = n } ∷ named_from (n + 1) rs

abbrev pub named : List Request → List Asked
named rs = named_from 0 rs

-- a frame of a tag that no message of `pgp_message` has: a FunctionCallResponse, a CopyBothResponse, or one that has no place
abbrev pub kind_of_fault : Error → Option Kind
kind_of_fault (UnknownTag tag) = kind_of_tag tag
kind_of_fault e = None

-- The frame is one message of this kind; of one that `pgp_message` doesn't read no more is said than its tag and its length.
abbrev pub IsOne : List ℕ → Kind → Type 0
IsOne frame kind = ((m : Message) × TakesFrame frame (Ok m) [] × (kind ≡ kind_of m)) ⊎ ((e : Error) × TakesFrame frame (Err e) [] × (kind_of_fault e ≡ Some kind))

-- The bytes are `N`s, which answer questions for encryption before the first message, and then messages of these kinds.
pub data Spells : List Kind → List ℕ → Type 0 where
  Nothing : Spells [] []
  Declined : {bytes : List ℕ} → Spells [] bytes → Spells [] (bytes ++ 0x4e ∷ [])
  OneMore : {kinds : List Kind} {bytes : List ℕ} (frame : List ℕ) (kind : Kind) → IsOne frame kind → Spells kinds bytes → Spells (kinds ++ kind ∷ []) (bytes ++ frame)

-- To these requests a server may send these bytes: they are messages of these kinds, or a front of such bytes where the session is over and was cut
-- off, and by the client's grammar each belongs to its request.
pub record Answered (requests : List Request) (kinds : List Kind) (events : List Event) (is_over : Bool) (sent : List ℕ) : Type 0 where
  pub belong : Belong (named requests) kinds events
  pub cut_off : List ℕ
  pub whole : is_over ≡ false → cut_off ≡ []
  pub spelled : Spells kinds (sent ++ cut_off)

-- a message of this kind stands at the front of the bytes, so many of them
pub record IsFront (bytes : List ℕ) (kind : Kind) (len : ℕ) : Type 0 where
  pub frame : List ℕ
  pub rest : List ℕ
  pub whole : bytes ≡ frame ++ rest
  pub is : IsOne frame kind
  pub len_is : len ≡ length frame

-- no whole message of a server stands there: bytes are missing, or the length is too small, or the frame is none
abbrev pub BeginsWithNone : List ℕ → Type 0
BeginsWithNone bytes = IsPartial bytes ⊎ (IsLengthFault bytes ⊎ ((e : Error) × (rest : List ℕ) × TakesFrame bytes (Err e) rest × (kind_of_fault e ≡ None)))

abbrev pub HasNone : List ℕ → Option (Kind × ℕ) → Type 0
HasNone bytes None = BeginsWithNone bytes
HasNone bytes (Some x) = Unit {0}
