-- Asking and hearing in turn, and the order of what is reported.
use Rattle.std.specs.Prelude.{ℕ, List, [], ◌∷◌}
use Rattle.pgp_client.specs.declared.request.Asked.{Asked}
use Rattle.pgp_client.specs.declared.kind.Kind.{Kind}
use Rattle.pgp_client.specs.declared.event.Event.{Event}
use Rattle.pgp_client.specs.declared.event.Event.TheVariants.{Part, Last, Aside, Ended}

pub data Turn : Type 0 where
  Asks : Asked → Turn
  Hears : Kind → Event → Turn

abbrev pub asked_in : List Turn → List Asked
asked_in [] = []
asked_in (Asks a ∷ turns) = a ∷ asked_in turns
asked_in (Hears k e ∷ turns) = asked_in turns

abbrev pub observed_in : List Turn → List Kind
observed_in [] = []
observed_in (Asks a ∷ turns) = observed_in turns
observed_in (Hears k e ∷ turns) = k ∷ observed_in turns

abbrev pub reported_in : List Turn → List Event
reported_in [] = []
reported_in (Asks a ∷ turns) = reported_in turns
reported_in (Hears k e ∷ turns) = e ∷ reported_in turns

-- ---- the order of what is reported

abbrev pub names : List Asked → List ℕ
names [] = []
names (a ∷ rs) = a.name ∷ names rs

-- What is reported of the requests of these names: of each some parts and then the last, or a front of that, or nothing, and of
-- none before those that stand before it. What belongs to no request may stand anywhere.
pub data InOrder : List ℕ → List Event → Type 0 where
  NoneReported : {ns : List ℕ} → InOrder ns []
  PartReported : {n : ℕ} {ns : List ℕ} {es : List Event} → InOrder (n ∷ ns) es → InOrder (n ∷ ns) (Part n ∷ es)
  LastReported : {n : ℕ} {ns : List ℕ} {es : List Event} → InOrder ns es → InOrder (n ∷ ns) (Last n ∷ es)
  GoneBy : {n : ℕ} {ns : List ℕ} {es : List Event} → InOrder ns es → InOrder (n ∷ ns) es
  AsideReported : {ns : List ℕ} {es : List Event} → InOrder ns es → InOrder ns (Aside ∷ es)
  EndReported : {ns : List ℕ} {es : List Event} → InOrder ns es → InOrder ns (Ended ∷ es)
