use Rattle.pgtrace_session.proofs.Common.{◌≡◌, ◌≤◌, ◌++◌, ℕ, List, length, map, arith, ap, subst, IfOk, OnErr, View, view_of, CutsTable, ListsTable, length-map}
use Rattle.std.specs.Borrow.{Bor}
use Rattle.pgtrace_session.proofs.Several.{several_done, several_stopped}
use Rattle.pgtrace_session.proofs.run.list_sessions.Goals as goal

abbrev texts : List (Bor (List ℕ)) → List (List ℕ)
texts names = map (λ (name : Bor (List ℕ)). name.now) names

some : (names items : List (Bor (List ℕ))) → 2 ≤ length names → names ≡ items → 2 ≤ length (texts items)
some names items le is = omega (arith, le, ap length is, length-map items (λ (name : Bor (List ℕ)). name.now))

pub returns-in_default-clause-done : goal.returns-in_default-clause-done
returns-in_default-clause-done g c =
    let items = c.args.options.now.files.items in
    let m = c.args.options.now.marking in
    let old = g.W.Write.contents c.args.output.now in
    let new = g.W.Write.contents c.list_table.new.output in
    several_done g.R.Recordings.Gives _ m (g.R.Read.remaining c.args.input.now) old new c.list_table.result (texts items) (some c.as_slice.result.now items c.in_default.len_at_least c.as_slice.ensures.value)
    (subst (λ (v : View). IfOk c.list_table.result (λ ended. ListsTable g.R.Recordings.Gives v m (texts items) old new ended.status (ended.first.now ++ ended.second.now ++ ended.third.now))) c.session_by-view.ensures
    (subst (λ (l : List (Bor (List ℕ))). IfOk c.list_table.result (λ ended. ListsTable g.R.Recordings.Gives (view_of c.session_by-view.result) m (texts l) old new ended.status (ended.first.now ++ ended.second.now ++ ended.third.now))) c.as_slice.ensures.value c.list_table.ensures.done))

pub returns-in_default-clause-stops : goal.returns-in_default-clause-stops
returns-in_default-clause-stops g c =
    let items = c.args.options.now.files.items in
    let m = c.args.options.now.marking in
    let old = g.W.Write.contents c.args.output.now in
    let new = g.W.Write.contents c.list_table.new.output in
    several_stopped g.R.Recordings.Gives _ m (g.R.Read.remaining c.args.input.now) old new _ c.list_table.result (texts items) (some c.as_slice.result.now items c.in_default.len_at_least c.as_slice.ensures.value)
    (subst (λ (v : View). OnErr c.list_table.result (CutsTable g.R.Recordings.Gives v m (texts items) old new)) c.session_by-view.ensures
    (subst (λ (l : List (Bor (List ℕ))). OnErr c.list_table.result (CutsTable g.R.Recordings.Gives (view_of c.session_by-view.result) m (texts l) old new)) c.as_slice.ensures.value c.list_table.ensures.stops))
