use Rattle.pgp_value_text.proofs.Common.{ShowsElement, placed}
use Rattle.pgp_value_text.proofs.Parts.{Left}
use Rattle.pgp_value_text.proofs.array.push_elements.Given as goal

abbrev pub invariant-elements : goal.invariant-elements
invariant-elements g l =
    Left (ShowsElement l.fn.array.element_type) (placed l.fn.array.element_type l.fn.size l.fn.array.dimensions.items) l.fn.array.values l.fn.out.items l.place l.values l.out.items
