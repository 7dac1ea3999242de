use Rattle.pgtrace_summary.proofs.Common.{◌∙◌, ap, sym, Some, found, put, read}
use Rattle.pgtrace_summary.proofs.NameLemmas.{found_read, set_read}
use Rattle.pgtrace_summary.proofs.names.Names.swap.Goals as goal
use Rattle.pgtrace_summary.proofs.names.Names.swap.Goals.{in-Some, in-None}

pub returns-clause-put : goal.returns-clause-put
returns-clause-put g c = elim c.match-get_mut.branch [
  | in-Some w ↦ rw (w.result-is, w.self-inside-is) (ap (read (λ k. k.items)) (c.get_mut.follows.holds w.replace.new.dest).0
      ∙ set_read (λ k. k.items) c.args.name.now w.replace.new.dest w.in-Some.place.now c.self.inside.map.entries (sym w.in-Some.ensures.value)
      ∙ ap (put c.args.name.now w.replace.new.dest) c.self.view_is ∙ ap (λ v. put c.args.name.now v c.args.self.now) w.replace.ensures.after)
  | in-None w ↦ rw w.result-is tt
]

pub returns-clause-had : goal.returns-clause-had
returns-clause-had g c = elim c.match-get_mut.branch [
  | in-Some w ↦ rw w.result-is (ap (found c.args.name.now) (sym c.self.view_is) ∙ sym (found_read (λ k. k.items) c.args.name.now _) ∙ sym w.in-Some.ensures.value ∙ ap (λ v. Some v) (sym w.replace.ensures.value))
  | in-None w ↦ rw w.result-is tt
]

pub returns-clause-unknown : goal.returns-clause-unknown
returns-clause-unknown g c = elim c.match-get_mut.branch [
  | in-Some w ↦ rw w.result-is tt
  | in-None w ↦ rw w.result-is (ap (found c.args.name.now) (sym c.self.view_is) ∙ sym (found_read (λ k. k.items) c.args.name.now _) ∙ sym w.in-None.ensures.value)
]
