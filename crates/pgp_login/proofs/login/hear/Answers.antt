use Rattle.pgp_message.specs.Views.{view}
use Rattle.pgp_login.specs.Login.{kept}
use Rattle.pgp_login.specs.Machine.{asking}
use Rattle.pgp_login.proofs.LogIns.{declines_if, simulates_if}
use Rattle.pgp_login.proofs.login.hear.Goals as goal

pub returns-clause-follows : goal.returns-clause-follows
returns-clause-follows g c =
    simulates_if _ g.A.Memory.Lacks (kept g.E.Exchange.shown c.args.login.now) (kept g.E.Exchange.shown c.heard.new.login) c.args.out.now.items c.heard.new.out.items (asking (view c.args.message.now)) c.heard.result c.heard.ensures.observed

pub returns-clause-declines : goal.returns-clause-declines
returns-clause-declines g c =
    declines_if _ g.A.Memory.Lacks (kept g.E.Exchange.shown c.args.login.now) (kept g.E.Exchange.shown c.heard.new.login) c.args.out.now.items c.heard.new.out.items (asking (view c.args.message.now)) c.heard.result c.heard.ensures.observed
