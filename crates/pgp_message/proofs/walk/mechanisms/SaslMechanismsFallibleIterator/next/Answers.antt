use Rattle.pgp_message.proofs.Common.{rules, ◌≡◌, false, is_marked, marked_item}
use Rattle.pgp_message.proofs.walk.mechanisms.SaslMechanismsFallibleIterator.next.Goals as goal

pub returns : goal.returns
returns g c =
    let buf = c.self.inside.0.now in
    let unmarked : is_marked buf ≡ false = search rules in
    rw (← c.self.view_is) (marked_item _ buf _ c.in_ok-mechanism.rest.now c.is_read.ensures.falls unmarked (search rules))
