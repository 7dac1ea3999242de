-- A connection's run is a session of the one law's.
use Rattle.for_c_auth.proofs.Common.{◌≡◌, ℕ, List, [], Option, true, sym, subst, ap, Link, ClientMessage, Message, PgpWays, Talk}
use Rattle.pgp_client.specs.Telling.{Turn, start}
use Rattle.pgp_login.specs.Face.{state_at, state_of, ways_of}
use Rattle.pgp_login.specs.Machine.{AwaitsOffer, Done, State}
use Rattle.pgp_login.specs.Talks.{AsksOne, HearsOne, Opens, Talks}
use Rattle.pgp_login.proofs.Speaking.{packet_spoken, spoken_after}
use Rattle.pgp_login.specs.Face.{offered_in}
use Rattle.pgp_login.specs.Versions.{is_admitted, spoken}
use Rattle.pgp_frontend.specs.declared.startup.ProtocolVersion.{ProtocolVersion}
use Rattle.for_c_auth.specs.Connection.{is_done}
use Rattle.for_c_auth.specs.Runs.{Asked, Begins, Heard, Runs}

module _ (w : PgpWays) where
  opens : (c : Link) (t : Talk) (n : ℕ) → n ≡ 0 → t ≡ start → Talks (ways_of w) [] [] [] t (state_at n c.login.signature)
  opens c t n is starts = rw is (rw starts Opens)

  pub talks : {gave : List ClientMessage} {heard : List Message} {turns : List Turn} {now : Link} → Runs w gave heard turns now → Talks (ways_of w) gave heard turns now.talk (state_of now.login)
  talks (Begins c phase talk none) = opens c c.talk c.login.phase phase talk
  talks (Asked r name run may) = AsksOne (record { request = r; name = name }) (talks run)
  talks (Heard given m e reply run t goes_on) = HearsOne w.is_encrypted m e t.taken goes_on t.logged.logs (talks run)

  pub talks_done : {gave : List ClientMessage} {heard : List Message} {turns : List Turn} {now : Link} → Runs w gave heard turns now → now.login.phase ≡ 4 → Talks (ways_of w) gave heard turns now.talk Done
  talks_done {gave} {heard} {turns} {now} run is = subst (λ (s : State). Talks (ways_of w) gave heard turns now.talk s) (ap (λ n. state_at n now.login.signature) is) (talks run)

  abbrev pub IsSpoken : Option ProtocolVersion → Type 0
  IsSpoken before = is_admitted (offered_in w).versions (spoken (offered_in w).versions before) ≡ true

  pub speaks : {gave : List ClientMessage} {heard : List Message} {turns : List Turn} {now : Link} → Runs w gave heard turns now → IsSpoken now.version
  speaks (Begins c phase talk none) = subst IsSpoken (sym none) (packet_spoken (offered_in w).versions)
  speaks (Asked r name run may) = speaks run
  speaks (Heard {old = old} given m e reply run t goes_on) = subst IsSpoken (sym (ap (λ (c : Link). c.version) t.is)) (spoken_after (is_done old.login) old.version (offered_in w) m t.fit.0 (speaks run))
