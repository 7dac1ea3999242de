use Rattle.pgp_session.proofs.Common.{[], sym}
use Rattle.pgp_session.proofs.settings.Settings.get.Goals as goal

pub returns-in-Err : goal.returns-in-Err
returns-in-Err g c = rw (← c.self.view_is, ← c.deref.ensures.value) (sym (c.in-Err.ensures.value (record { name = []; value = [] })))
