-- A Bind that was written in a buffer that had the bytes to send.
use Rattle.pgp_session.proofs.Common.{◌≡◌, ℕ, List, ◌++◌, None, ap, ◌∙◌, Held, ◌⊕◌, Leaves, ClientMessage, IsInRange, bytes_of, cause, Added}
use Rattle.pgp_session.specs.ConnectionBind.{Has}
use Rattle.pgp_base.proofs.Parts.{bytes_more}

pub put_by : {K : Type 0} (m : ClientMessage) (items grown : List ℕ) (old new : Held K) → Has items old → grown ≡ new.bytes → cause m ≡ None → IsInRange m → new ≡ old ⊕ bytes_of m → Added m items grown
put_by m items grown old new has is none range appended = record { none = none; in_range = range; bytes = is ∙ bytes_more old new (bytes_of m) appended ∙ ap (λ b. b ++ bytes_of m) has.bytes }

pub left_by : {K : Type 0} (items grown : List ℕ) (old new : Held K) → Has items old → grown ≡ new.bytes → Leaves old new → grown ≡ items
left_by items grown old new has is left = is ∙ left.bytes ∙ has.bytes
