use Rattle.pgp_frontend_read.proofs.Common.{rules, ◌≡◌, int16}
use Rattle.pgp_frontend_read.proofs.Rewritten.{writes_function_call}
use Rattle.pgp_frontend_read.proofs.forwarding.function_call.Goals as goal

pub returns : goal.returns
unfolding int16
returns g c =
    let format : c.to_be_bytes.result ≡ int16 c.args.result_format = search rules in
    writes_function_call g.B.Buffer.Lacks (g.B.Buffer.held c.args.buf.now) (g.B.Buffer.held c.message.new.buf) c.message.result
    c.args.function c.spelled.result.0 c.spelled.result.1.now c.spelled-2.result.0 c.spelled-2.result.1.now c.to_be_bytes.result c.args.formats.now c.args.arguments.now c.args.result_format
    c.ranges.function.fits c.spelled.ensures.has c.spelled.ensures.whole c.spelled-2.ensures.has c.spelled-2.ensures.whole c.ranges.result_format format (search rules)
