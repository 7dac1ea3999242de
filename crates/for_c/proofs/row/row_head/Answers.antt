use Rattle.for_c.proofs.Common.{ℕ, List, Ok, DataRow, subst}
use Rattle.pgp_message.specs.Parts.{CountedBytes}
use Rattle.pgp_message.specs.Stream.{TakesFrame}
use Rattle.for_c.proofs.row.row_head.Goals as goal

pub returns-in-None-clause-none : goal.returns-in-None-clause-none
returns-in-None-clause-none c none =
    subst (λ b. (row : CountedBytes) (rest : List ℕ) → TakesFrame b (Ok (DataRow row)) rest → ⊥) c.new-messages.ensures c.in-None.ensures.0
