-- Each message's calls, one after another.
use Rattle.pgtrace_lines.proofs.Common.{◌≡◌, [], ◌∷◌, ap, subst, ◌∙◌, codes, string_bytes, OnOk, client_value, first_text, signed_part, followed, key, type_part}
use Rattle.pgtrace_lines.specs.Client.{counted}
use Rattle.pgp_frontend_read.specs.Whole.{shown}
use Rattle.pgtrace_lines.proofs.client_body.put_client_message.Goals as goal

pub returns-in_ok-put_values-in-Bind-clause-says : goal.returns-in_ok-put_values-in-Bind-clause-says
returns-in_ok-put_values-in-Bind-clause-says g c =
    rw c.in-Bind.is (subst (λ l. OnOk c.put_formats-in-Bind.result (string_bytes c.put_formats-in-Bind.new.line ≡ followed c.args.style l (counted (codes "results") (codes "result_formats") signed_part c.in-Bind.result_formats)))
    (c.in_ok-put_values-in-Bind.ensures.parts
    ∙ ap (λ l. followed c.args.style l (counted (codes "values") (codes "values") client_value c.in-Bind.values)) (c.in_ok-put_formats-in-Bind.ensures.parts
    ∙ ap (λ l. followed c.args.style l (counted (codes "formats") (codes "formats") signed_part c.in-Bind.formats)) c.in_ok-put_texts-in-Bind.ensures.parts))
    c.put_formats-in-Bind.ensures.parts)

pub returns-in_ok-put_texts-in-Parse-clause-says : goal.returns-in_ok-put_texts-in-Parse-clause-says
returns-in_ok-put_texts-in-Parse-clause-says g c =
    rw c.in-Parse.is (subst (λ l. OnOk c.put_types.result (string_bytes c.put_types.new.line ≡ followed c.args.style l (counted (codes "types") (codes "types") type_part c.in-Parse.param_types))) c.in_ok-put_texts-in-Parse.ensures.parts c.put_types.ensures.parts)

pub returns-in-PasswordMessage-clause-says : goal.returns-in-PasswordMessage-clause-says
returns-in-PasswordMessage-clause-says g c = rw c.in-PasswordMessage.is c.put_secret.ensures.parts

pub returns-in_ok-put_one-in-SaslInitialResponse-clause-says : goal.returns-in_ok-put_one-in-SaslInitialResponse-clause-says
returns-in_ok-put_one-in-SaslInitialResponse-clause-says g c =
    rw c.in-SaslInitialResponse.is (subst (λ l. OnOk c.put_first.result (string_bytes c.put_first.new.line ≡ followed c.args.style l (key (codes "data") ∷ first_text c.args.style (shown c.in-SaslInitialResponse.response) ∷ [])))
    c.in_ok-put_one-in-SaslInitialResponse.ensures.parts c.put_first.ensures.parts)
