-- Private: how a list says where it ends, and what it makes of a message then.
use Rattle.std.specs.Prelude.{ℕ, List, Option}
use Rattle.pgp_base.specs.Cause.{Cause, count_cause, length_cause}
use Rattle.pgp_base.specs.Held.{Held}
use Rattle.pgp_base.specs.declared.error.Error.{Error}
use Rattle.pgp_frontend.specs.Payload.{Part, joined}
use Rattle.pgp_message_write.specs.Given.{uncounted, SoFarRefused}
use Rattle.pgp_message_write.specs.Lists.{counted_list, wide_list, marked_list}
use Rattle.pgp_message_write.specs.declared.list_message_of.Ending.{Ending}
use Rattle.pgp_message_write.specs.declared.list_message_of.Ending.TheVariants.{Count, WideCount, Zero}

-- the cause of so many items
abbrev pub number_cause : Ending → ℕ → Cause
number_cause Count n = count_cause n
number_cause WideCount n = length_cause n
number_cause Zero n = uncounted n

-- the parts of the list
abbrev pub list_parts : {A : Type 0} → Ending → (A → List Part) → List A → List Part
list_parts Count item xs = counted_list item xs
list_parts WideCount item xs = wide_list item xs
list_parts Zero item xs = marked_list item xs

-- the list alone was rejected
abbrev pub ListRefused : {K A : Type 0} → (List A → Option A → Type 0) → (ℕ → Cause) → (List A → List Part) → (Held K → ℕ → Type 0) → Held K → Error → Type 0
ListRefused given number ps lacks old e = SoFarRefused given number ps (λ xs. joined (ps xs)) lacks old e
