use Rattle.pgtrace_summary.proofs.Common.{◌∙◌, ap, sym, Some, slice_get, option_map, slice_get-map}
use Rattle.pgtrace_summary.proofs.names.Names.at.Goals as goal

pub returns-in-Some : goal.returns-in-Some
returns-in-Some g c = ap (λ k. Some (k, c.in-Some.value.now)) c.as_slice.ensures.value ∙ ap (option_map (λ e. (e.0.items, e.1))) c.in-Some.ensures.entry
    ∙ sym (slice_get-map (λ e. (e.0.items, e.1)) _ c.args.place) ∙ ap (λ l. slice_get l c.args.place) c.self.view_is

pub returns-in-None : goal.returns-in-None
returns-in-None g c = ap (option_map (λ e. (e.0.items, e.1))) c.in-None.ensures.entry
    ∙ sym (slice_get-map (λ e. (e.0.items, e.1)) _ c.args.place) ∙ ap (λ l. slice_get l c.args.place) c.self.view_is
