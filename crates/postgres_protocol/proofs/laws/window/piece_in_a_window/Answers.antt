use Rattle.postgres_protocol.proofs.Common.{CopyData}
use Rattle.postgres_protocol.proofs.Rooms.{piece_by_room}
use Rattle.postgres_protocol.proofs.laws.window.piece_in_a_window.Goals as goal

pub returns : goal.returns
returns g c = piece_by_room (CopyData (g.T.Buf.unread c.args.piece)) _ _ c.args.piece c.copy_data.result c.copy_data.ensures
