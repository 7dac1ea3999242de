use Rattle.postgres_protocol.proofs.Rooms.{message_by_room}
use Rattle.postgres_protocol.proofs.laws.window.what_fits_is_added.Goals as goal

pub returns : goal.returns
returns c = message_by_room
