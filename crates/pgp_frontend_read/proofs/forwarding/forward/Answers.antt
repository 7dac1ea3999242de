use Rattle.pgp_frontend_read.proofs.Common.{rules, ◌≡◌, FitsSigned, to_z, of_z, w16}
use Rattle.std.proofs.Math.Facts.{to_z-of_z}
use Rattle.pgp_frontend_read.proofs.forwarding.forward.Goals as goal

pub returns-in-Bind : goal.returns-in-Bind
returns-in-Bind g c = rw c.in-Bind.is c.bind.ensures

pub returns-in-FunctionCall : goal.returns-in-FunctionCall
returns-in-FunctionCall g c =
    let fits : FitsSigned w16 c.in-FunctionCall.result_format = search rules in
    let back : to_z w16 (of_z w16 c.in-FunctionCall.result_format) ≡ c.in-FunctionCall.result_format = to_z-of_z fits in
    rw (c.in-FunctionCall.is, ← back) c.function_call.ensures
