use Rattle.for_c.proofs.Common.{rules, refl, true, map, Bind, value_of}
use Rattle.for_c.proofs.Extensions.{extends, parts_of}
use Rattle.for_c.proofs.stream.pgp_stream_bind.Goals as goal

pub returns-clause-added : goal.returns-clause-added
returns-clause-added c z =
    extends (Bind c.args.portal.now c.args.statement.now c.args.formats.now (map value_of c.args.values.now) c.args.result_formats.now) c.args.stream.now _ c.bind-code.new.out _ c.bind-code.new.written _ _ refl c.if-len-stream.false (c.bind-code.ensures.sent z) c.saturating_add-stream.ensures (search rules) (search rules) (parts_of c.args.stream.now) true (search rules) (λ e. absurd cc) refl
