-- With those that are still to come they are all.
use Rattle.pgtrace_session.proofs.Common.{◌≡◌, length, columns_from, columns_of}
use Rattle.pgtrace_session.proofs.fields.columns_of.Given as goal

abbrev pub invariant-fields : goal.invariant-fields
invariant-fields g l = columns_from l.named l.columns l.fields.items l.fields.end ≡ columns_of l.fn.named l.fn.fields.items l.fn.fields.end

abbrev pub decreases-fields : goal.decreases-fields
decreases-fields g l = length l.fields.items
