-- Our client against our server: RFC 5802, section 5.
use Rattle.std.specs.Prelude.{◌≡◌, ℕ, ◌≤◌, false, List}
use Rattle.pgp_base.specs.Wire.{IsBytes}
use Rattle.pgp_auth.specs.Verifier.{verifier}
use Rattle.pgp_auth.specs.ScramText.{IsNonce}
use Rattle.pgp_auth.specs.ScramRefusal.{OutOfMemory as RefusedMemory}
use Rattle.pgp_auth.specs.ScramErrorView.{refusal}
use Rattle.pgp_auth.specs.ScramClient.{Begun, AwaitsFirst as ClientAwaitsFirst, Over as ClientOver, Client}
use Rattle.pgp_auth.specs.ScramServing.{Serving, Challenge, Server, AwaitsFirst, Over, IsTaken, AcceptsFinal}
use Rattle.pgp_auth.specs.declared.scram.server_error.ServerError.TheVariants as server_errors
use Rattle.pgp_auth.specs.declared.scram.server_error.ExchangeError.{ExchangeError}
use Rattle.pgp_auth.specs.declared.scram.server_error.ExchangeError.TheVariants as exchange_errors

-- a client and a server that have begun: the server takes the client's binding, and holds the verifier of its password
pub record Meeting (client : Client) (server : Server) : Type 0 where
  pub begun : Begun
  pub serving : Serving
  pub salt : List ℕ
  pub count : ℕ
  pub client_is : client.state ≡ ClientAwaitsFirst begun
  pub server_is : server ≡ AwaitsFirst serving
  pub is_nonce : IsNonce begun.nonce
  pub own_is : IsNonce serving.own
  pub taken : IsTaken serving.offer begun.binding
  pub not_mock : serving.is_mock ≡ false
  pub verifier_is : serving.verifier ≡ verifier begun.password salt count
  pub salt_is : IsBytes salt
  pub few : count ≤ 100000

-- both are through: the server accepted, and the client too
pub record Met (client : Client) (server : Server) : Type 0 where
  pub challenge : Challenge
  pub final : List ℕ
  pub accepts : AcceptsFinal challenge final
  pub client_over : client.state ≡ ClientOver
  pub server_over : server ≡ Over

-- one of the two was refused memory
abbrev pub OnlyMemory : {A : Type 0} → Type 0 → ExchangeError A → Type 0
OnlyMemory lacks (exchange_errors.Client e) = (refusal e ≡ RefusedMemory) × lacks
OnlyMemory lacks (exchange_errors.Server e) = (e ≡ server_errors.OutOfMemory) × lacks
