use Rattle.pgp_session.proofs.Proxied.{calls_pass, all_pass}
use Rattle.pgp_session.proofs.proxy.what_went_out_is_what_came_in.Goals as goal

pub returns : goal.returns
returns g c = record { all = λ refused. calls_pass refused g.B.Buffer.Lacks; up_to_the_first = λ refused. all_pass refused g.B.Buffer.Lacks }
