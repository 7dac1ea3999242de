use Rattle.pgp_session.proofs.Common.{◌≡◌, Bool, refl, ap, subst, ◌∙◌, Unread, Refuses}
use Rattle.pgp_frontend_read.specs.Views.{kind_view}
use Rattle.pgp_frontend_read.proofs.Steps.{left}
use Rattle.pgp_session.proofs.proxy.pass_on.Goals as goal

pub returns-in-Err : goal.returns-in-Err
returns-in-Err g c =
    let from : Unread = c.args.from.now in
    let same : c.resume-messages.result ≡ from = c.resume-messages.ensures ∙ ap (λ b. left b c.is_open.result) c.rest.ensures ∙ ap (λ (o : Bool). left from.bytes o) c.is_open.ensures in
    let refused : Refuses (kind_view c.args.kind) c.resume-messages.result c.in-Err.e c.next_with_bytes.new.self = c.in-Err.ensures in
    (subst (λ (u : Unread). Refuses (kind_view c.args.kind) u c.in-Err.e c.next_with_bytes.new.self) same refused, refl)
