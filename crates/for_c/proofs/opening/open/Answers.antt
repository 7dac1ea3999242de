use Rattle.for_c.proofs.Common.{rules, map, ap, ◌∙◌, refl, inr, fronts, YieldsList-from_slice, YieldsList-at, window_held, Startup, minor_of, pair_of}
use Rattle.for_c.proofs.Openings.{pair_is, pairs_given, pairs_refused}
use Rattle.for_c.proofs.Sending.{sends, refuses}
use Rattle.for_c.proofs.opening.open.Goals as goal

pub returns-in-Ok-clause-sent : goal.returns-in-Ok-clause-sent
returns-in-Ok-clause-sent c z =
    let all = c.args.parameters.now in
    let e = c.in-Ok.ensures in
    let road = YieldsList-at c.map-pairs.ensures.source (YieldsList-from_slice all cc) in
    let is = pairs_given fronts _ c.map-pairs.result e.whole.0 e.whole.1 all road _ c.map-pairs.ensures.closure (λ x r q k. (search rules, pair_is r x.now (search rules) (search rules))) in
    sends (Startup (minor_of c.args.version) (map pair_of all)) e.message (e.whole.2 ∙ ap (λ l. Startup (minor_of c.args.version) l) is)
    c.new-window.result c.startup_message_version.new.buf c.args.out.now _ c.new-window.ensures e.in_range e.none e.appended _ (search rules) _ c.sent.ensures.reported

pub returns-in-Err-clause-refused : goal.returns-in-Err-clause-refused
returns-in-Err-clause-refused c z =
    let all = c.args.parameters.now in
    let road = YieldsList-at c.map-pairs.ensures.source (YieldsList-from_slice all cc) in
    let why = pairs_refused fronts _ c.map-pairs.result c.args.version (window_held c.new-window.result) c.in-Err.e c.in-Err.ensures.0 all road _ c.map-pairs.ensures.closure (λ x r q k. (search rules, pair_is r x.now (search rules) (search rules))) in
    let refused = refuses (Startup (minor_of c.args.version) (map pair_of all)) (Startup (minor_of c.args.version) (map pair_of all)) refl
    c.new-window.result c.args.out.now _ c.new-window.ensures c.in-Err.e _ _ why c.refused.ensures.code c.refused.ensures.reported in
    (c.refused.ensures.reported, inr refused.why)
