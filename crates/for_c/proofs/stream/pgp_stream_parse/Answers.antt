use Rattle.for_c.proofs.Common.{rules, refl, true, Parse}
use Rattle.for_c.proofs.Extensions.{extends, parts_of}
use Rattle.for_c.proofs.stream.pgp_stream_parse.Goals as goal

pub returns-clause-added : goal.returns-clause-added
returns-clause-added c z =
    extends (Parse c.args.name.now c.args.query.now c.args.types.now) c.args.stream.now _ c.pgp_parse-code.new.out _ c.pgp_parse-code.new.written _ _ refl c.if-len-stream.false (c.pgp_parse-code.ensures.sent z) c.saturating_add-stream.ensures (search rules) (search rules) (parts_of c.args.stream.now) true (search rules) (λ e. absurd cc) refl
