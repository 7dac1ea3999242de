-- What a whole session comes by.
use Rattle.pgp_login.proofs.Common.{List, [], ◌∷◌, ◌++◌, refl, sym, subst, ClientMessage}
use Rattle.std.proofs.Common.{append_assoc}
use Rattle.std.proofs.lemmas.List.{append-nil}
use Rattle.pgp_client.specs.Kinds.{kind_of}
use Rattle.pgp_client.specs.Taking.{asked}
use Rattle.pgp_client.specs.Talk.{Talk}
use Rattle.pgp_client.specs.Telling.{Asks, Follows, FollowsTo, Hears as HearsTurn, Turn, start}
use Rattle.pgp_message.specs.BackendMessage.{Message}
use Rattle.pgp_login.specs.Machine.{State, Ways}
use Rattle.pgp_login.specs.Session.{Begins, Hears, Plays}
use Rattle.pgp_login.specs.Talks.{AsksOne, HearsOne, Opens, Talks}

taken_so : (t : Talk) (turns : List Turn) (now : Talk) → FollowsTo t turns now → Follows t turns
taken_so t [] now f = tt
taken_so t (Asks a ∷ turns) now f = taken_so (asked t a) turns now f
taken_so t (HearsTurn k e ∷ turns) now f = (f.0, f.1, f.2, taken_so f.0 turns now f.3)

module _ (w : Ways) where
  pub plays : {gave : List ClientMessage} {observed : List Message} {turns : List Turn} {t : Talk} {s : State} → Talks w gave observed turns t s → Plays w gave observed s
  plays Opens = Begins
  plays (AsksOne a p) = plays p
  plays (HearsOne encrypted m e takes goes_on logs p) = Hears encrypted m logs (plays p)

  follows_on : {gave : List ClientMessage} {observed : List Message} {turns : List Turn} {t : Talk} {s : State} → Talks w gave observed turns t s → (rest : List Turn) (now : Talk) → FollowsTo t rest now → FollowsTo start (turns ++ rest) now
  follows_on Opens rest now f = f
  follows_on (AsksOne {turns = turns} a p) rest now f = subst (λ ts. FollowsTo start ts now) (sym (append_assoc turns (Asks a ∷ []) rest)) (follows_on p (Asks a ∷ rest) now f)
  follows_on (HearsOne {turns = turns} {next = next} encrypted m e takes goes_on logs p) rest now f =
      subst (λ ts. FollowsTo start ts now) (sym (append_assoc turns (HearsTurn (kind_of m) e ∷ []) rest)) (follows_on p (HearsTurn (kind_of m) e ∷ rest) now (next, takes, goes_on, f))

  pub follows_to : {gave : List ClientMessage} {observed : List Message} {turns : List Turn} {t : Talk} {s : State} → Talks w gave observed turns t s → FollowsTo start turns t
  follows_to {turns = turns} {t = t} p = subst (λ ts. FollowsTo start ts t) (append-nil turns) (follows_on p [] t refl)

  pub follows : {gave : List ClientMessage} {observed : List Message} {turns : List Turn} {t : Talk} {s : State} → Talks w gave observed turns t s → Follows start turns
  follows {turns = turns} {t = t} p = taken_so start turns t (follows_to p)
