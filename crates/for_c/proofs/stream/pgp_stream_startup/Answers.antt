use Rattle.for_c.proofs.Common.{rules, refl, ◌∙◌, map, true, false, to_z-of_z, Startup, minor_of, pair_of}
use Rattle.for_c.proofs.Extensions.{extends_to, may_open, parts_of}
use Rattle.for_c.proofs.stream.pgp_stream_startup.Goals as goal

pub returns-then-code-eq0-clause-added : goal.returns-then-code-eq0-clause-added
returns-then-code-eq0-clause-added c z =
    let all = c.args.parameters.now in
    let s = c.pgp_startup-code.ensures.sent z in (
      s.0,
      s.1 ∙ to_z-of_z c.ranges.version,
      extends_to (Startup (minor_of s.0) (map pair_of all)) c.args.stream.now _ c.pgp_startup-code.new.out _ c.pgp_startup-code.new.written _ _ refl c.if-len-stream.false s.2 c.saturating_add-stream.ensures (search rules) (search rules) (parts_of c.args.stream.now)
          false (search rules) (may_open s.0 all (c.pgp_startup-code.ensures.named z)) true refl,
    )
