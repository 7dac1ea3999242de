use Rattle.pgp_session.proofs.Common.{◌≡◌, ◌++◌, [], List, ℕ, subst, ap, ◌∙◌, ClientMessage, bytes_of, Puts}
use Rattle.pgp_session.proofs.Connections.{put_by}
use Rattle.pgp_base.proofs.Parts.{lengthened_by}
use Rattle.pgp_session.proofs.connection_parts.put_startup.Goals as goal

pub returns-in-Ok-clause-put : goal.returns-in-Ok-clause-put
returns-in-Ok-clause-put g c =
    let a = c.in-Ok.ensures in
    let empty : c.new-packet.result.buf.items ≡ [] = c.new-packet.ensures.empty in
    let all : c.startup_message_version.new.self.buf.items ≡ c.new-packet.result.buf.items ++ bytes_of a.0 = lengthened_by c.new-packet.result.buf.items c.startup_message_version.new.self.buf.items (bytes_of a.0) a.2.appended in
    let packet : c.bytes.result.now ≡ bytes_of a.0 = c.bytes.ensures.bytes ∙ all ∙ ap (λ (l : List ℕ). l ++ bytes_of a.0) empty in
    subst (λ (m : ClientMessage). Puts g.A.Memory.Lacks m c.args.out.now.items c.append.new.out.items c.append.result) a.1
    (put_by g.A.Memory.Lacks a.0 c.args.out.now.items c.append.new.out.items c.bytes.result.now c.append.result a.2.none a.2.in_range packet c.append.ensures.ok c.append.ensures.lacks)
