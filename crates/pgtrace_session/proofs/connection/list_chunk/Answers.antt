use Rattle.pgtrace_session.proofs.Common.{Client, Server, string_bytes, view_of, chunk_of, half_of, kept_of, known_of, numbers_in}
use Rattle.pgtrace_session.proofs.ChunkLists.{ok_side}
use Rattle.pgtrace_session.proofs.connection.list_chunk.Goals as goal

pub returns-in-Client-clause-lines : goal.returns-in-Client-clause-lines
returns-in-Client-clause-lines g c =
    ok_side c.list_bytes.result (view_of c.args.view) Client (kept_of c.args.talk.now) (chunk_of c.args.chunk) (numbers_in c.set_time.new.numbers) c.started-start.result (string_bytes c.put_mark.new.text) (known_of c.list_bytes.new.known) (half_of c.list_bytes.new.half)
    (string_bytes c.args.texts.now.lines) (string_bytes c.list_bytes.new.texts.lines) c.in-Client.is c.set_time.ensures c.started-start.ensures c.in_ok-put_mark.ensures.is c.list_bytes.ensures.lines

pub returns-in-Server-clause-lines : goal.returns-in-Server-clause-lines
returns-in-Server-clause-lines g c =
    ok_side c.list_bytes-in-Server.result (view_of c.args.view) Server (kept_of c.args.talk.now) (chunk_of c.args.chunk) (numbers_in c.set_time.new.numbers) c.started-start.result (string_bytes c.put_mark.new.text) (known_of c.list_bytes-in-Server.new.known) (half_of c.list_bytes-in-Server.new.half)
    (string_bytes c.args.texts.now.lines) (string_bytes c.list_bytes-in-Server.new.texts.lines) c.in-Server.is c.set_time.ensures c.started-start.ensures c.in_ok-put_mark.ensures.is c.list_bytes-in-Server.ensures.lines
