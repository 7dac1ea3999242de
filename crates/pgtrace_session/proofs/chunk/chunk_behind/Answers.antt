use Rattle.pgtrace_session.proofs.Common.{inr, refl, rules, IsBytes}
use Rattle.pgtrace_session.proofs.Chunks.{short, whole}
use Rattle.pgtrace_session.proofs.chunk.chunk_behind.Goals as goal

pub returns-then-behind-len : goal.returns-then-behind-len
returns-then-behind-len c =
    let each : IsBytes c.args.bytes.now = search rules in
    inr (short c.args.bytes.now c.in-Some.micros.now c.in-Some.behind.now c.in-Some-split_first_chunk.len.now c.in-Some-split_first_chunk.behind.now c.u32_of-len.result
    (record { each = each; time = c.in-Some.ensures.cases; size = c.in-Some-split_first_chunk.ensures.cases }) c.u32_of-len.ensures c.if-behind-len.true)

pub returns : goal.returns
returns c =
    let each : IsBytes c.args.bytes.now = search rules in (
      refl,
      whole c.args.sender c.args.bytes.now c.in-Some.micros.now c.in-Some.behind.now c.in-Some-split_first_chunk.len.now c.in-Some-split_first_chunk.behind.now c.split_at.result.0.now c.split_at.result.1.now c.u64_of-micros.result c.u32_of-len.result
          (record { each = each; time = c.in-Some.ensures.cases; size = c.in-Some-split_first_chunk.ensures.cases }) c.u64_of-micros.ensures c.u32_of-len.ensures c.split_at.ensures.front c.split_at.ensures.back c.if-behind-len.false,
    )
