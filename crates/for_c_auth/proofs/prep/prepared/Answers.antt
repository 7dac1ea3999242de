use Rattle.for_c_auth.proofs.Common.{◌≡◌, rules, inl, inr, refl, ap, ◌∙◌, List, ℕ, Option, Some, unwrap_or, string_bytes}
use Rattle.pgp_saslprep.specs.SaslPrep.{prepared_bytes}
use Rattle.for_c_auth.specs.Prep.{IsUsed}
use Rattle.for_c_auth.proofs.Texts.{delivers, longer}
use Rattle.for_c_auth.proofs.prep.prepared.Goals as goal

pub returns-in_default-clause-sent : goal.returns-in_default-clause-sent
returns-in_default-clause-sent g c z = delivers (IsUsed c.args.password.now) c.args.password.now _ _ _ (inr (c.in_default.ensures.cases.0, refl)) (c.deliver.ensures.sent z)

pub returns-in_default-clause-why : goal.returns-in_default-clause-why
returns-in_default-clause-why g c z =
    let why = c.deliver.ensures.why z in
    (why.0, inr (longer (IsUsed c.args.password.now) c.args.password.now _ (inr (c.in_default.ensures.cases.0, refl)) why.1))

pub returns-in-Ok-Some-clause-sent : goal.returns-in-Ok-Some-clause-sent
returns-in-Ok-Some-clause-sent g c z =
    let same = c.in-Ok.ensures.cases in
    let made : Some (string_bytes c.in-Ok-Some.made) ≡ prepared_bytes c.in-Ok.text.now = search rules in
    let is : IsUsed c.args.password.now c.as_bytes.result.now = inl (same.1, c.as_bytes.ensures.value ∙ ap (λ (o : Option (List ℕ)). unwrap_or o c.args.password.now) (made ∙ ap prepared_bytes same.0)) in
    delivers (IsUsed c.args.password.now) c.as_bytes.result.now _ _ _ is (c.deliver-in-Ok-Some.ensures.sent z)

pub returns-in-Ok-Some-clause-why : goal.returns-in-Ok-Some-clause-why
returns-in-Ok-Some-clause-why g c z =
    let same = c.in-Ok.ensures.cases in
    let made : Some (string_bytes c.in-Ok-Some.made) ≡ prepared_bytes c.in-Ok.text.now = search rules in
    let is : IsUsed c.args.password.now c.as_bytes.result.now = inl (same.1, c.as_bytes.ensures.value ∙ ap (λ (o : Option (List ℕ)). unwrap_or o c.args.password.now) (made ∙ ap prepared_bytes same.0)) in
    let why = c.deliver-in-Ok-Some.ensures.why z in
    (why.0, inr (longer (IsUsed c.args.password.now) c.as_bytes.result.now _ is why.1))
