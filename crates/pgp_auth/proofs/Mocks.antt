-- A made-up verifier lets nobody in.
use Rattle.pgp_auth.proofs.Common.{◌≡◌, true, false, List, ℕ, sym, ap, ◌∙◌, ◌↔◌, Serving, Challenge, Server, Challenges, Admits, RefusesProof, other_exchange, no_proof, other_proof, mock, ServerError}
use Rattle.pgp_auth.specs.ScramServing.{AwaitsFirst}
use Rattle.pgp_auth.specs.ScramMock.{as_known, ShowsNoProof}
use Rattle.pgp_auth.proofs.EndsMeet.{same_serving, same_challenge}
use Rattle.std.proofs.Common.{true≢false}

pub never_accepted : (serving : Serving) (between new : Server) (first answer last signature : List ℕ) → serving.is_mock ≡ true
    → Challenges (AwaitsFirst serving) first between answer → Admits between last new signature → ⊥
never_accepted serving between new first answer last signature yes_ h d =
    let one : serving ≡ h.serving = same_serving serving h.serving h.due in
    let two : h.challenge ≡ d.challenge = same_challenge h.challenge d.challenge (sym h.new_is ∙ d.due) in
    let real : h.challenge.is_mock ≡ false = ap (λ (c : Challenge). c.is_mock) two ∙ d.not_mock in
    let made_up : h.challenge.is_mock ≡ true = h.opens.mock_is ∙ (sym (ap (λ (s : Serving). s.is_mock) one) ∙ yes_) in
    true≢false (sym made_up ∙ real)

-- ---- an error is that of a server which has a verifier

as_refused : (c : Challenge) (text stored server : List ℕ) (e : ServerError) → ShowsNoProof c text stored → RefusesProof c text e → RefusesProof (as_known c stored server) text e
as_refused c text stored server _ none (other_exchange front auth x no_) = other_exchange front auth x no_
as_refused c text stored server _ none (no_proof front auth shown x is no_) = no_proof front auth shown x is no_
as_refused c text stored server _ none (other_proof front auth shown proof x is len shows differs) = other_proof front auth shown proof x is len shows (none front auth shown proof x is shows)
as_refused c text stored server _ none (mock front auth shown proof x is len shows yes_) = other_proof front auth shown proof x is len shows (none front auth shown proof x is shows)

mock_refused : (c : Challenge) (text stored server : List ℕ) (e : ServerError) → c.is_mock ≡ true → RefusesProof (as_known c stored server) text e → RefusesProof c text e
mock_refused c text stored server _ yes_ (other_exchange front auth x no_) = other_exchange front auth x no_
mock_refused c text stored server _ yes_ (no_proof front auth shown x is no_) = no_proof front auth shown x is no_
mock_refused c text stored server _ yes_ (other_proof front auth shown proof x is len shows differs) = mock front auth shown proof x is len shows yes_
mock_refused c text stored server _ yes_ (mock front auth shown proof x is len shows real) = mock front auth shown proof x is len shows yes_

pub reported_alike : (c : Challenge) (text stored server : List ℕ) (e : ServerError) → c.is_mock ≡ true → ShowsNoProof c text stored → (RefusesProof c text e ↔ RefusesProof (as_known c stored server) text e)
reported_alike c text stored server e yes_ none = (λ r. as_refused c text stored server e none r, λ r. mock_refused c text stored server e yes_ r)
