use Rattle.for_c.proofs.Common.{rules, refl, ap, sym, subst, ◌∙◌, copies, fronts, YieldsList, YieldsList-from_slice, YieldsList-from_copied, Parse, Yielded, window_held, window_lacks, some_same, parse_refused, FromItself}
use Rattle.for_c.proofs.Lists.{all_same}
use Rattle.pgp_frontend.proofs.Lists.{all_same as all_given}
use Rattle.for_c.proofs.Sending.{sends, refuses}
use Rattle.for_c.proofs.listing.pgp_parse.Goals as goal

pub returns-in-Ok-clause-sent : goal.returns-in-Ok-clause-sent
returns-in-Ok-clause-sent c z =
    let e = c.in-Ok.ensures in
    let types : YieldsList (copies fronts) (λ x. x) c.copied.result c.args.types.now = YieldsList-from_copied (YieldsList-from_slice c.args.types.now cc) in
    let f = e.whole.1 in
    let ts = all_same (copies fronts) f.iterator c.args.types.now (subst (λ s. YieldsList (copies fronts) (λ x. x) s c.args.types.now) (sym f.from) types) e.whole.0 f.left f.received in
    sends (Parse c.args.name.now c.args.query.now c.args.types.now) e.message (e.whole.2 ∙ ap (λ l. Parse c.args.name.now c.args.query.now l) ts)
    c.new-window.result c.parse.new.buf c.args.out.now _ c.new-window.ensures e.in_range e.none e.appended _ (search rules) _ c.sent.ensures.reported

pub returns-in-Err-clause-refused : goal.returns-in-Err-clause-refused
returns-in-Err-clause-refused c z =
    let all = c.args.types.now in
    let source = c.copied.result in
    let road : YieldsList (copies fronts) (λ x. x) source all = YieldsList-from_copied (YieldsList-from_slice all cc) in
    let why = parse_refused c.args.name.now c.args.query.now all (Yielded FromItself (copies fronts) source)
    (λ xs k. all_given FromItself (copies fronts) source all (λ it from. subst (λ s. YieldsList (copies fronts) (λ x. x) s all) (sym from) road) xs k)
    (λ xs x k. some_same FromItself (copies fronts) source all (λ it from. subst (λ s. YieldsList (copies fronts) (λ x. x) s all) (sym from) road) xs x k)
    window_lacks (window_held c.new-window.result) c.in-Err.e c.in-Err.ensures.0 in
    refuses (Parse c.args.name.now c.args.query.now all) (Parse c.args.name.now c.args.query.now all) refl
    c.new-window.result c.args.out.now _ c.new-window.ensures c.in-Err.e _ _ why c.refused.ensures.code c.refused.ensures.reported
