use Rattle.pgp_stream.proofs.Additions.{reads_nothing}
use Rattle.pgp_stream.proofs.client_stream.ClientStream.over.Goals as goal

pub invariant_of-result : goal.invariant_of-result
invariant_of-result g c = reads_nothing (g.B.Buffer.held c.args.buf).bytes c.requires
