use Rattle.pgp_uses.proofs.Common.{◌≡◌, ℕ, List, Some, Option, ap, subst, sym, ◌∙◌, Client, message_of, RefusesMessage, first_message}
use Rattle.pgp_auth.specs.Nonce.{drawn_chars}
use Rattle.pgp_auth.specs.ScramText.{Binding, Unsupported, client_first}
use Rattle.pgp_uses.proofs.login.begin_with.Goals as goal

-- what stands in both
same_text : (x y : List ℕ) (o : Option (List ℕ)) → Some x ≡ o → o ≡ Some y → x ≡ y
same_text x y o h k = let e : Some x ≡ Some y = h ∙ k in cc

pub returns-in-Ok-sasl_initial_response-clause-sent : goal.returns-in-Ok-sasl_initial_response-clause-sent
returns-in-Ok-sasl_initial_response-clause-sent g c = record { text = c.in-Some.first.now; said = sym c.in-Some.ensures; sent = c.in-Ok-sasl_initial_response.ensures.1.1 }

pub returns-in-Err-sasl_initial_response-clause-refused : goal.returns-in-Err-sasl_initial_response-clause-refused
returns-in-Err-sasl_initial_response-clause-refused g c =
    let nonce = (drawn_chars 24 (g.R.Rng.stream c.args.rng.now)).0 in
    let is = same_text c.in-Some.first.now (client_first Unsupported nonce) _ c.in-Some.ensures (ap (λ (client : Client). message_of client.state) c.in-Ok.ensures.ok ∙ ap (λ (b : Binding). Some (client_first b nonce)) c.unsupported-binding.ensures) in
    subst (λ text. RefusesMessage (first_message text) g.B.Buffer.Lacks (g.B.Buffer.held c.args.out.now) c.in-Err-sasl_initial_response.e) is c.in-Err-sasl_initial_response.ensures.1.0
