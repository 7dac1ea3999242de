use Rattle.pgtrace_lines.proofs.Common.{rules, IsBytes}
use Rattle.pgtrace_lines.proofs.Inners.{int32_front}
use Rattle.pgtrace_lines.proofs.inner.uint32_at.Goals as goal

pub returns-clause-some : goal.returns-clause-some
returns-clause-some c =
    let bytes : IsBytes c.args.bytes.now = search rules in
    let parts = c.in_ok-front.ensures.cases in
    int32_front c.args.bytes.now c.in_ok-front.front.now c.in_ok-front.rest.now c.u32_of.result bytes c.u32_of.ensures parts.0 parts.1 parts.2
