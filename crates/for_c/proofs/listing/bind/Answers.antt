use Rattle.for_c.proofs.Common.{rules, map, refl, ap, sym, subst, ◌∙◌, Bor, copies, fronts, YieldsList, YieldsList-from_slice, YieldsList-from_copied, Yielded, number_of, window_held, window_lacks, Bind, all_given, some_given, some_same, PgpValue, error_of, value_of, FromItself}
use Rattle.pgp_frontend.proofs.Lists.{all_same as same_given}
use Rattle.for_c.proofs.BindRefusals.{bind_refused}
use Rattle.for_c.proofs.Lists.{keeps, all_made, all_received, all_same, fused, same_bind}
use Rattle.for_c.proofs.Sending.{sends, refuses}
use Rattle.for_c.proofs.listing.bind.Goals as goal

pub bind-answer-requires-clause-owes : goal.bind-answer-requires-clause-owes
bind-answer-requires-clause-owes c = λ f f' x b b' r p s. keeps x.now window_lacks (window_held b.now) (window_held b'.now) r (search rules)

pub returns-in-Ok-clause-sent : goal.returns-in-Ok-clause-sent
returns-in-Ok-clause-sent c z =
    let e = c.in-Ok.ensures.1 in
    let w = e.whole in
    let formats : YieldsList (copies fronts) (λ x. x) c.copied.result c.args.formats.now = YieldsList-from_copied (YieldsList-from_slice c.args.formats.now cc) in
    let results : YieldsList (copies fronts) (λ x. x) c.copied-2.result c.args.result_formats.now = YieldsList-from_copied (YieldsList-from_slice c.args.result_formats.now cc) in
    let values = YieldsList-from_slice c.args.values.now cc in
    let f = w.1 in
    let fs = all_same (copies fronts) f.iterator c.args.formats.now (subst (λ s. YieldsList (copies fronts) (λ x. x) s c.args.formats.now) (sym f.from) formats) w.0 f.left f.received in
    let s = w.2.1 in
    let v = s.received in
    let xs = all_received fronts (λ (x : Bor _). x.now) v.iterator c.args.values.now (subst (λ s. YieldsList fronts (λ (x : Bor _). x.now) s c.args.values.now) (sym v.from) values) s.xs v.left v.received in
    let vs = all_made window_held _ window_lacks (λ u u' x b b' r t. search rules) _ _ s.xs w.2.0 _ s.made ∙ fused s.xs ∙ ap (λ l. map value_of l) xs in
    let r = w.2.2.1 in
    let rs = all_same (copies fronts) r.iterator c.args.result_formats.now (subst (λ s. YieldsList (copies fronts) (λ x. x) s c.args.result_formats.now) (sym r.from) results) w.2.2.0 r.left r.received in
    sends (Bind c.args.portal.now c.args.statement.now c.args.formats.now (map value_of c.args.values.now) c.args.result_formats.now) e.message
    (w.2.2.2 ∙ same_bind c.args.portal.now c.args.statement.now w.0 c.args.formats.now w.2.0 (map value_of c.args.values.now) w.2.2.0 c.args.result_formats.now fs vs rs)
    c.new-window.result c.bind-answer.new.buf c.args.out.now _ c.new-window.ensures e.in_range e.none e.appended _ (search rules) _ c.sent.ensures.reported

pub returns-in-Err-clause-refused : goal.returns-in-Err-clause-refused
returns-in-Err-clause-refused c z =
    let formats : YieldsList (copies fronts) (λ x. x) c.copied.result c.args.formats.now = YieldsList-from_copied (YieldsList-from_slice c.args.formats.now cc) in
    let results : YieldsList (copies fronts) (λ x. x) c.copied-2.result c.args.result_formats.now = YieldsList-from_copied (YieldsList-from_slice c.args.result_formats.now cc) in
    let values = YieldsList-from_slice c.args.values.now cc in
    let format_road : (it : _) → FromItself c.copied.result it → YieldsList (copies fronts) (λ x. x) it c.args.formats.now = λ it from. subst (λ s. YieldsList (copies fronts) (λ x. x) s c.args.formats.now) (sym from) formats in
    let result_road : (it : _) → FromItself c.copied-2.result it → YieldsList (copies fronts) (λ x. x) it c.args.result_formats.now = λ it from. subst (λ s. YieldsList (copies fronts) (λ x. x) s c.args.result_formats.now) (sym from) results in
    let value_road : (it : _) → FromItself c.iter-2.result it → YieldsList fronts (λ (x : Bor PgpValue). x.now) it c.args.values.now = λ it from. subst (λ s. YieldsList fronts (λ (x : Bor PgpValue). x.now) s c.args.values.now) (sym from) values in
    let w = c.in-Err.ensures in
    let why = bind_refused window_held _ window_lacks (λ u u' x b b' r t. search rules) c.args.portal.now c.args.statement.now c.args.formats.now c.args.values.now c.args.result_formats.now
    (Yielded FromItself (copies fronts) c.copied.result) (Yielded FromItself fronts c.iter-2.result) (Yielded FromItself (copies fronts) c.copied-2.result)
    (λ xs k. same_given FromItself (copies fronts) c.copied.result c.args.formats.now format_road xs k) (λ xs x k. some_same FromItself (copies fronts) c.copied.result c.args.formats.now format_road xs x k)
    (λ xs k. all_given FromItself fronts c.iter-2.result (λ (x : Bor PgpValue). x.now) c.args.values.now value_road xs k) (λ xs x k. some_given FromItself fronts c.iter-2.result (λ (x : Bor PgpValue). x.now) c.args.values.now value_road xs x k)
    (λ xs k. same_given FromItself (copies fronts) c.copied-2.result c.args.result_formats.now result_road xs k) (λ xs x k. some_same FromItself (copies fronts) c.copied-2.result c.args.result_formats.now result_road xs x k)
    _ w.0 _ c.in-Err.e w.1.0 in
    let m = Bind c.args.portal.now c.args.statement.now c.args.formats.now (map value_of c.args.values.now) c.args.result_formats.now in
    refuses m m refl c.new-window.result c.args.out.now _ c.new-window.ensures (error_of c.in-Err.e) _ _ why (c.refused.ensures.code ∙ ap number_of c.error_of.ensures) c.refused.ensures.reported
