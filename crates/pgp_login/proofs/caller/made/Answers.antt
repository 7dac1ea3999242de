use Rattle.pgp_login.proofs.Common.{Option, ap, option_map}
use Rattle.pgp_auth.specs.ScramText.{Binding}
use Rattle.pgp_login.specs.Exchange.{begun_with, seen_caller}
use Rattle.pgp_login.proofs.Exchanges.{no_binding, unmade}
use Rattle.pgp_login.proofs.caller.made.Goals as goal

pub returns-in-Ok-clause-err : goal.returns-in-Ok-clause-err
returns-in-Ok-clause-err g c =
    let x = c.args.exchange.now in
    let with_binding = λ (b : Binding). begun_with x.password.now x.nonce.now b in
    unmade g.A.Memory.Lacks (begun_with x.password.now x.nonce.now c.in-Ok.binding) (seen_caller x) c.made_with.result (ap (λ (o : Option Binding). option_map with_binding o) c.in-Ok.ensures.ok) c.made_with.ensures.err

pub returns-in-Err-clause-err : goal.returns-in-Err-clause-err
returns-in-Err-clause-err g c =
    let x = c.args.exchange.now in
    let with_binding = λ (b : Binding). begun_with x.password.now x.nonce.now b in
    no_binding g.A.Memory.Lacks x.kind x.certificate.now (seen_caller x) _ (λ is. ap (λ (o : Option Binding). option_map with_binding o) is) c.in-Err.ensures.err
