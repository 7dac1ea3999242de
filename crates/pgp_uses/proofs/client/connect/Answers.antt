use Rattle.pgp_uses.proofs.Common.{◌≡◌, ◌∷◌, [], ℕ, codes, Some, None, false, refl, rules, sym, ap, subst, ◌∙◌, Startup, Shown, begun, shown, scram_alone}
use Rattle.pgp_login.specs.Exchange.{seen_client}
use Rattle.pgp_login.specs.Login.{Kept as Login}
use Rattle.pgp_login.specs.declared.login.LoginPhase.TheVariants.{AwaitsOffer}
use Rattle.pgp_session.specs.Session.{Known, and_wrote, nothing}
use Rattle.pgp_login.specs.declared.versions.Versions.TheVariants.{Only3_0}
use Rattle.pgp_uses.proofs.client.connect.Goals as goal

pub returns-in-Ok : goal.returns-in-Ok
returns-in-Ok g c =
    let ways = scram_alone c.args.exchange in
    let login : Login = record { phase = AwaitsOffer; scram = Some (seen_client c.args.exchange); md5 = None; cleartext = None; none = false; least = 0; encrypted = false } in
    let parameters = (codes "user", c.args.user.now) ∷ [] in
    let old = shown c.new-connection.result in
    let new = shown c.start.new.self in
    let is : old ≡ begun login 16777216 = c.new-connection.ensures in
    let known : Known ways nothing old = subst (λ (s : Shown). Known ways nothing s) (sym is) (c.calls_are_known.ensures.begun login 16777216 refl) in
    let name : c.in-Ok.field-0 ≡ 0 = c.in-Ok.ensures.starts.named ∙ ap (λ (s : Shown). s.names) is in
    subst (λ (n : ℕ). Known ways (and_wrote (Startup 0 parameters) n nothing) new) name (c.calls_are_known.ensures.starts ways nothing old new Only3_0 parameters c.in-Ok.field-0 (search rules) c.in-Ok.ensures.starts known)
