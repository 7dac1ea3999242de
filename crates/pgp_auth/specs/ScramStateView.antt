-- Private: the code's states as those of the definitions.
use Rattle.std.specs.Prelude.{ℕ}
use Rattle.pgp_auth.specs.declared.scram.state.Start.{Start}
use Rattle.pgp_auth.specs.declared.scram.state.Signed.{Signed}
use Rattle.pgp_auth.specs.declared.scram.state.State.{State as CodeState}
use Rattle.pgp_auth.specs.declared.scram.state.State.TheVariants as code
use Rattle.pgp_auth.specs.ScramClient.{Begun, Answered, State, AwaitsFirst, AwaitsFinal, Over}

abbrev pub begun_of : {A : Type 0} → Start A → Begun
begun_of start = record { password = start.password.items; binding = start.binding; nonce = start.nonce.items }

abbrev pub answered_of : {A : Type 0} → Signed A → Answered
answered_of signed = record { key = signed.key; auth = signed.auth.items; final = signed.final_text.items }

abbrev pub state_of : {A : Type 0} → CodeState A → State
state_of (code.AwaitsFirst start) = AwaitsFirst (begun_of start)
state_of (code.AwaitsFinal signed) = AwaitsFinal (answered_of signed)
state_of code.Over = Over

-- the HMACs that an exchange may still make
abbrev pub reserve : {A : Type 0} → CodeState A → ℕ
reserve (code.AwaitsFirst start) = 100004
reserve (code.AwaitsFinal signed) = 2
reserve code.Over = 0
