use Rattle.pgp_value_text.proofs.Common.{ap, sym, subst, ◌∙◌, Shows, Tells, ShowsMultirange, bound_of, multirange}
use Rattle.pgp_value_text.proofs.Ranges.{plain_element}
use Rattle.pgp_value_text.proofs.element.put_element_by.Goals as goal

pub returns-in-Range : goal.returns-in-Range
returns-in-Range g c = rw c.in-Range.is c.put_range.ensures

pub returns-in-Multirange : goal.returns-in-Multirange
returns-in-Multirange g c =
    rw c.in-Multirange.is (subst (λ b. Tells (Shows multirange (ShowsMultirange b) c.args.bytes.now) g.A.Memory.Lacks c.args.text.now.items c.put_multirange.new.text.items c.put_multirange.result) (c.bound_of.ensures ∙ ap bound_of c.binary_format_of.ensures) c.put_multirange.ensures)

pub returns-in_default : goal.returns-in_default
returns-in_default g c =
    subst (λ shows. Tells (shows c.args.bytes.now) g.A.Memory.Lacks c.args.text.now.items c.put_formatted.new.text.items c.put_formatted.result) (sym (plain_element c.args.format c.args.type_oid c.in_default.not-Range c.in_default.not-Multirange)) c.put_formatted.ensures
