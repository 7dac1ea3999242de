use Rattle.pgtrace_summary.proofs.Common.{OnOk, ap, ◌∙◌, Ok, Err, Result, put, Ran, more_of, tallies_of}
use Rattle.pgtrace_summary.proofs.Places.{none_more, put_put, some_more}
use Rattle.pgtrace_summary.proofs.entry.tally.Goals as goal

on_ok : {T E P Q : Type 0} (r : Result T E) → (P → Q) → OnOk r P → OnOk r Q
on_ok (Ok x) f p = f p
on_ok (Err e) f p = tt

pub returns-in_ok-ran-in-Ok-clause-tallied : goal.returns-in_ok-ran-in-Ok-clause-tallied
returns-in_ok-ran-in-Ok-clause-tallied g c = on_ok c.put.result (λ e. ap tallies_of (e ∙ ap (put c.args.text.now c.in_ok-ran-in-Ok.ran) c.in-Ok.ensures.put ∙ put_put c.args.text.now c.none.result c.in_ok-ran-in-Ok.ran c.args.entries.now
    ∙ ap (λ (r : Ran). put c.args.text.now r c.args.entries.now) c.in_ok-ran-in-Ok.ensures.added)
    ∙ some_more c.args.text.now c.args.more c.in-Ok.ran c.args.entries.now c.in-Ok.ensures.had) c.put.ensures.put

pub returns-in_ok-first-in-Err-clause-tallied : goal.returns-in_ok-first-in-Err-clause-tallied
returns-in_ok-first-in-Err-clause-tallied g c = on_ok c.put-in-Err.result (λ e. ap tallies_of (e ∙ ap (put c.args.text.now c.in_ok-first-in-Err.first) c.in-Err.ensures.same
    ∙ ap (λ (r : Ran). put c.args.text.now r c.args.entries.now) (c.in_ok-first-in-Err.ensures.added ∙ ap (more_of c.args.more) (c.in-Err.ensures.back ∙ c.none.ensures)))
    ∙ none_more c.args.text.now c.args.more c.args.entries.now c.in-Err.ensures.unknown) c.put-in-Err.ensures.put
