use Rattle.postgres_protocol.proofs.Rooms.{array_by_room}
use Rattle.postgres_protocol.proofs.laws.window.arrays_that_fit_are_bound.Goals as goal

pub returns : goal.returns
returns c = array_by_room
