-- Words that name two files or more.
use Rattle.pgtrace_session.proofs.Common.{◌≤◌, ◌++◌, ℕ, List, [], ◌∷◌, length, Option, Result, Ok, Err, IfOk, OnErr, arith, Keeps-refl, View, Marking, CutsTable, ListsTable, IfErr}
use Rattle.pgtool_line.specs.declared.fault.Fault.{Fault}
use Rattle.pgtrace_session.specs.Command.{DoesSession, StopsSession}
use Rattle.pgtrace_session.specs.declared.outcome.Ended.{Ended}

module _ (Gives : List ℕ → List ℕ → Type 0) (view : View) (marking : Marking) (input old new : Option (List ℕ)) where
  done : (files : List (List ℕ)) (status : ℕ) (said : List ℕ) → 2 ≤ length files → ListsTable Gives view marking files old new status said
      → DoesSession Gives files view marking (record { input = input; output = old }) (record { input = input; output = new }) status said
  done [] status said some lists = absurd (omega (arith, some))
  done (one ∷ []) status said some lists = absurd (omega (arith, some))
  done (one ∷ two ∷ more) status said some lists = (Keeps-refl input, lists)

  pub several_done : (r : Result Ended Fault) (files : List (List ℕ)) → 2 ≤ length files → IfOk r (λ ended. ListsTable Gives view marking files old new ended.status (ended.first.now ++ ended.second.now ++ ended.third.now))
      → IfOk r (λ ended. DoesSession Gives files view marking (record { input = input; output = old }) (record { input = input; output = new }) ended.status (ended.first.now ++ ended.second.now ++ ended.third.now))
  several_done (Ok ended) files some lists = done files ended.status (ended.first.now ++ ended.second.now ++ ended.third.now) some lists
  several_done (Err fault) files some lists = tt

  stopped : (passed : Type 0) (files : List (List ℕ)) (fault : Fault) → 2 ≤ length files → CutsTable Gives view marking files old new
      → StopsSession Gives passed files view marking fault (record { input = input; output = old }) (record { input = input; output = new })
  stopped passed [] fault some cuts = absurd (omega (arith, some))
  stopped passed (one ∷ []) fault some cuts = absurd (omega (arith, some))
  stopped passed (one ∷ two ∷ more) fault some cuts = (Keeps-refl input, cuts)

  pub several_stopped : (passed : Type 0) (r : Result Ended Fault) (files : List (List ℕ)) → 2 ≤ length files → OnErr r (CutsTable Gives view marking files old new)
      → IfErr r (λ fault. StopsSession Gives passed files view marking fault (record { input = input; output = old }) (record { input = input; output = new }))
  several_stopped passed (Ok ended) files some cuts = tt
  several_stopped passed (Err fault) files some cuts = stopped passed files fault some cuts
