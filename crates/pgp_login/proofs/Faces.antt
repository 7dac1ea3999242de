-- What C keeps of a log-in, where a message is none of the log-in's.
use Rattle.pgp_login.proofs.Common.{◌≡◌, ℕ, Bool, false, List, None, refl}
use Rattle.pgp_login.specs.Login.{is_asked}
use Rattle.pgp_login.specs.Machine.{Asking, LoggedOn, Nothing, NothingAsked, State, Ways}

pub unasked : (w : Ways) (encrypted : Bool) (asked : Asking) (s : State) (out : List ℕ) → is_asked asked ≡ false → LoggedOn w encrypted asked s s out out
unasked w encrypted Nothing s out e = record { reply = None; logs = NothingAsked; adds = refl }
unasked w encrypted asked s out e = absurd cc
