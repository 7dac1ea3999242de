use Rattle.for_c.proofs.Common.{rules, refl}
use Rattle.for_c.proofs.Extensions.{extends_by_head, parts_of}
use Rattle.for_c.proofs.stream.pgp_stream_copy_data_head.Goals as goal

pub returns-clause-added : goal.returns-clause-added
returns-clause-added c z =
    extends_by_head c.args.data_len c.args.stream.now _ c.pgp_copy_data_head-code.new.out _ c.pgp_copy_data_head-code.new.written _ _ refl c.if-len-stream.false (c.pgp_copy_data_head-code.ensures.sent z) c.saturating_add-stream.ensures (search rules) (search rules) (parts_of c.args.stream.now) (search rules)
