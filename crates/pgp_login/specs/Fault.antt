-- Why a log-in fails, and by which number C is told.
use Rattle.std.specs.Prelude.{ℕ, ◌+◌}
use Rattle.pgp_base.specs.Error.{number_of as error_number}
use Rattle.pgp_base.specs.declared.error.Error.{Error}
use Rattle.pgp_auth.specs.ScramRefusal.{Refusal, OutOfMemory}
use Rattle.pgp_auth.specs.ScramErrorView.{number_of as refusal_number, refusal}
use Rattle.pgp_login.specs.declared.fault.LoginError.{LoginError}
use Rattle.pgp_login.specs.declared.fault.LoginError.TheVariants as code

pub data Fault : Type 0 where
  -- the message isn't due
  Undue : Fault
  -- the way isn't admitted
  NotAdmitted : Fault
  -- the exchange's mechanism isn't offered
  NotOffered : Fault
  TooFewRounds : Fault
  -- the caller's nonce is none
  BadNonce : Fault
  -- the exchange rejected the server's text, or lacked memory
  Scram : Refusal → Fault
  -- the reply couldn't be written
  Unwritten : Error → Fault

-- what the code's errors say
abbrev pub fault : {A : Type 0} → LoginError A → Fault
fault code.Undue = Undue
fault code.NotAdmitted = NotAdmitted
fault code.NotOffered = NotOffered
fault code.TooFewRounds = TooFewRounds
fault code.BadNonce = BadNonce
fault (code.Scram e) = Scram (refusal e)
fault (code.Unwritten e) = Unwritten e

-- an exchange's error: lack of memory is 1 as everywhere, the others follow 64
abbrev pub code_of : Refusal → ℕ
code_of OutOfMemory = 1
code_of e = 64 + refusal_number e

abbrev pub number_of : Fault → ℕ
number_of Undue = 89
number_of NotAdmitted = 90
number_of NotOffered = 91
number_of TooFewRounds = 92
number_of BadNonce = 80
number_of (Scram e) = code_of e
number_of (Unwritten e) = error_number e
