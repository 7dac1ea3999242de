use Rattle.pgtrace_summary.proofs.Common.{◌≡◌, ◌≤◌, length, ◌∙◌, None, Some, State, tallies_of, text_due, text_under, rules, subst}
use Rattle.pgtrace_summary.proofs.Due.{bound_due, known_due}
use Rattle.pgtrace_summary.proofs.summary.Summary.text_due.Goals as goal

pub returns-in_default : goal.returns-in_default
returns-in_default g c =
    let here : State = record { folds = c.self.inside.folds; statements = c.self.inside.statements; portals = c.self.inside.portals; waiting = c.self.inside.waiting.items; counted = c.self.inside.counted; rows = c.self.inside.rows; last_end = c.self.inside.last_end; tallies = tallies_of c.self.inside.entries } in
    let all : length here.waiting ≤ c.len.result = search rules in
    c.text_under.ensures ∙ subst (λ (s : State). text_under c.args.portal.now here.portals ≡ text_due c.args.portal.now s) c.self.view_is (known_due here c.args.portal.now c.len.result all c.in_default.ensures)

pub returns-in-Some-last_given : goal.returns-in-Some-last_given
returns-in-Some-last_given g c =
    let here : State = record { folds = c.self.inside.folds; statements = c.self.inside.statements; portals = c.self.inside.portals; waiting = c.self.inside.waiting.items; counted = c.self.inside.counted; rows = c.self.inside.rows; last_end = c.self.inside.last_end; tallies = tallies_of c.self.inside.entries } in
    let all : length here.waiting ≤ c.len.result = search rules in
    subst (λ (s : State). c.in-Some-last_given.text.now ≡ text_due c.args.portal.now s) c.self.view_is (bound_due here c.args.portal.now c.in-Some.statement.now c.len.result c.in-Some.place (Some (c.in-Some-last_given.field-0-0, c.in-Some-last_given.text.now)) all c.in-Some.ensures c.in-Some-last_given.ensures)

pub returns-in-None : goal.returns-in-None
returns-in-None g c =
    let here : State = record { folds = c.self.inside.folds; statements = c.self.inside.statements; portals = c.self.inside.portals; waiting = c.self.inside.waiting.items; counted = c.self.inside.counted; rows = c.self.inside.rows; last_end = c.self.inside.last_end; tallies = tallies_of c.self.inside.entries } in
    let all : length here.waiting ≤ c.len.result = search rules in
    c.text_under-in-None.ensures ∙ subst (λ (s : State). text_under c.in-Some.statement.now here.statements ≡ text_due c.args.portal.now s) c.self.view_is (bound_due here c.args.portal.now c.in-Some.statement.now c.len.result c.in-Some.place None all c.in-Some.ensures c.in-None.ensures)
