use Rattle.pgtrace_session.proofs.Common.{ℕ, List, [], ◌∷◌, ◌+◌, ◌<◌, ◌∙◌, ap, sym, subst, arith, map, take, length, view_of, AddsFiles, NoFile, Whole, Keeps-refl, Keeps-trans}
use Rattle.std.proofs.lemmas.List.{map-append, take_more}
use Rattle.std.specs.Borrow.{Bor}
use Rattle.pgtrace_session.specs.Several.{worst}
use Rattle.pgtrace_session.proofs.files.add_files.Goals as goal

pub loop-name-init : goal.loop-name-init
loop-name-init g c = (subst (λ t. AddsFiles g.R.Recordings.Gives (view_of c.args.view) c.args.marking [] t Whole) (sym c.requires.none) NoFile, Keeps-refl (g.W.Write.contents c.args.output.now))

pub loop-name-preserved : goal.loop-name-preserved
loop-name-preserved g c =
    let text : Bor (List ℕ) → List ℕ = λ name. name.now in
    let names = c.args.names.now in
    let i = c.loop-name.name-index in
    let here : i < length names = omega (arith, c.loop-name-test.true, c.loop-name.auto.name-index-end) in
    let one_more = ap (map text) (take_more names i _ here) ∙ map-append text (take i names) (_ ∷ []) in
    let added = c.in_ok-its.ensures.added (map text (take i names)) c.loop-name.end c.loop-name.invariant.0 in (
      subst (λ e. AddsFiles g.R.Recordings.Gives (view_of c.args.view) c.args.marking (map text (take (i + 1) names)) c.add_file.new.table.tallies e) (sym c.worst-end.ensures)
          (subst (λ l. AddsFiles g.R.Recordings.Gives (view_of c.args.view) c.args.marking l c.add_file.new.table.tallies (worst c.loop-name.end c.in_ok-its.its)) (sym one_more) added),
      Keeps-trans _ _ _ c.loop-name.invariant.1 c.in_ok-its.ensures.kept,
    )
