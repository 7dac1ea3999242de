use Rattle.pgp_session.proofs.Binds.{left_by, put_by}
use Rattle.pgp_session.proofs.out_buffer.put_bind.Goals as goal

pub returns-in-Ok : goal.returns-in-Ok
returns-in-Ok g c =
    let e = c.in-Ok.ensures.1 in
    let old = g.B.Buffer.held c.swap.new.self in
    let new = g.B.Buffer.held c.bind-result.new.buf in
    let has = c.swap.ensures.mine in
    (c.in-Ok.ensures.0, (e.message, (old, has, e.whole), put_by e.message c.args.out.now.items c.swap-2.new.out.items old new has c.swap-2.ensures.yours e.none e.in_range e.appended))

pub returns : goal.returns
returns g c =
    let e = c.in-Err.ensures.1 in
    let old = g.B.Buffer.held c.swap.new.self in
    let new = g.B.Buffer.held c.bind-result.new.buf in
    let has = c.swap.ensures.mine in
    (c.in-Err.ensures.0, ((old, has, e.0), left_by c.args.out.now.items c.swap-2.new.out.items old new has c.swap-2.ensures.yours e.1))
