use Rattle.pgp_login.proofs.Common.{rules, subst, sym}
use Rattle.pgp_message.specs.Views.{view}
use Rattle.pgp_login.specs.Face.{state_of, ways_of}
use Rattle.pgp_login.specs.Machine.{LoggedOn, State, asking}
use Rattle.pgp_login.proofs.Faces.{unasked}
use Rattle.pgp_login.proofs.face.answer.Goals as goal

pub returns-in-Ok-clause-answered : goal.returns-in-Ok-clause-answered
returns-in-Ok-clause-answered g c z =
    let w = ways_of c.args.ways.now in
    let encrypted = c.args.ways.now.is_encrypted in
    let followed = c.in-Ok.ensures.follows w encrypted (state_of c.args.login.now) c.resumed-resumed.ensures in
    subst (λ (s : State). LoggedOn w encrypted (asking (view c.args.message.now)) (state_of c.args.login.now) s c.args.out.now.items c.hear.new.out.items) (sym (c.put_back.ensures.stands w encrypted followed.state followed.stands)) followed.logged

pub returns-then-not-is_asked-clause-answered : goal.returns-then-not-is_asked-clause-answered
returns-then-not-is_asked-clause-answered g c z =
    unasked (ways_of c.args.ways.now) c.args.ways.now.is_encrypted (asking (view c.args.message.now)) (state_of c.args.login.now) c.args.out.now.items (search rules)
