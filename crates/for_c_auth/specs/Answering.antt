-- What the log-in answers, by the numbers that C is told.
use Rattle.std.specs.Prelude.{◌≡◌, ℕ, List}
use Rattle.pgp_login.specs.Face.{state_of, ways_of}
use Rattle.pgp_login.specs.Fault.{Fault, number_of}
use Rattle.pgp_login.specs.Machine.{Asking, Declines, LoggedOn}
pub use Rattle.pgp_login.specs.Machine.{asking}
use Rattle.pgp_login.specs.declared.face.PgpLogin.{PgpLogin}
use Rattle.pgp_login.specs.declared.face.PgpWays.{PgpWays}

-- the numbers of the first phase and of the last
abbrev pub awaits_request : ℕ
awaits_request = 0

abbrev pub done : ℕ
done = 4

-- What was asked is answered so, and the reply appended.
abbrev pub HasAnswered : PgpWays → Asking → PgpLogin → PgpLogin → List ℕ → List ℕ → Type 0
HasAnswered w asked old new out grown = LoggedOn (ways_of w) w.is_encrypted asked (state_of old) (state_of new) out grown

-- why it isn't
abbrev pub NotAnsweredFor : Type 0 → PgpWays → PgpLogin → ℕ → Asking → Type 0
NotAnsweredFor lacks w old code asked = (f : Fault) × (code ≡ number_of f) × Declines lacks (ways_of w) w.is_encrypted (state_of old) asked f
