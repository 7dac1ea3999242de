use Rattle.pgtrace_lines.proofs.Common.{rules, IsBytes}
use Rattle.pgtrace_lines.proofs.Inners.{int64_front}
use Rattle.pgtrace_lines.proofs.inner.uint64_at.Goals as goal

pub returns-clause-some : goal.returns-clause-some
returns-clause-some c =
    let bytes : IsBytes c.args.bytes.now = search rules in
    let parts = c.in_ok-front.ensures.cases in
    int64_front c.args.bytes.now c.in_ok-front.front.now c.in_ok-front.rest.now c.u64_of.result bytes c.u64_of.ensures parts.0 parts.1 parts.2
