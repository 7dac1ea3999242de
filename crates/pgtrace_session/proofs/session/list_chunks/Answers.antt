use Rattle.pgtrace_session.proofs.Common.{subst, string_bytes, view_of, chunk_bytes, magic, TakesPart, chunk_of, kept_of}
use Rattle.pgtrace_session.proofs.Sessions.{all_bytes, all_listed, and_begun, and_listed, ends_bytes, nothing_listed, stops, takes_chunk, takes_magic, waits}
use Rattle.pgtrace_session.proofs.session.list_chunks.Goals as goal

pub chunks-init : goal.chunks-init
chunks-init g c =
    let ends = all_bytes c.args.bytes.now in
    (nothing_listed (view_of c.args.view) c.args.begun (kept_of c.args.talk.now) c.args.bytes.now (string_bytes c.args.texts.now.lines), ends.0, ends.1)

pub chunks-preserved-in-Magic : goal.chunks-preserved-in-Magic
chunks-preserved-in-Magic g c =
    let rest = c.chunks.rest.now in
    let behind = c.first_part.result.1.now in
    let takes = takes_magic c.chunks.opened rest behind (subst (λ p. TakesPart c.chunks.opened rest p behind) c.in-Magic.is c.first_part.ensures) in
    let ends = ends_bytes c.args.bytes.now rest magic behind takes.1 c.chunks.invariant.1 c.chunks.invariant.2 in (
      and_begun (view_of c.args.view) c.args.begun c.chunks.opened (kept_of c.args.talk.now) (kept_of c.chunks.talk) c.args.bytes.now rest behind (string_bytes c.args.texts.now.lines) (string_bytes c.chunks.texts.lines) c.chunks.invariant.0 takes.0 takes.1,
      ends.0,
      ends.1,
    )

pub chunks-preserved : goal.chunks-preserved
chunks-preserved g c =
    let rest = c.chunks.rest.now in
    let behind = c.first_part.result.1.now in
    let chunk = chunk_of c.in-Chunk.chunk in
    let takes = takes_chunk c.chunks.opened rest behind c.in-Chunk.chunk (subst (λ p. TakesPart c.chunks.opened rest p behind) c.in-Chunk.is c.first_part.ensures) in
    let ends = ends_bytes c.args.bytes.now rest (chunk_bytes chunk) behind takes.1.whole c.chunks.invariant.1 c.chunks.invariant.2 in (
      and_listed (view_of c.args.view) c.args.begun c.chunks.opened (kept_of c.args.talk.now) (kept_of c.chunks.talk) (kept_of c.list_chunk.new.talk) chunk c.args.bytes.now rest behind (string_bytes c.args.texts.now.lines) (string_bytes c.chunks.texts.lines) (string_bytes c.list_chunk.new.texts.lines)
          c.chunks.invariant.0 takes.0 takes.1 c.in_ok-list_chunk-in-Chunk.ensures.lines,
      ends.0,
      ends.1,
    )

pub returns-in-Waits-clause-all : goal.returns-in-Waits-clause-all
returns-in-Waits-clause-all g c =
    let rest = c.chunks.rest.now in
    let behind = c.first_part.result.1.now in
    all_listed (view_of c.args.view) c.args.begun c.chunks.opened _ (kept_of c.args.talk.now) (kept_of c.chunks.talk) c.args.bytes.now rest _ (string_bytes c.args.texts.now.lines) (string_bytes c.chunks.texts.lines) c.chunks.invariant.0
    (waits c.chunks.opened rest behind (subst (λ p. TakesPart c.chunks.opened rest p behind) c.in-Waits.is c.first_part.ensures)) c.chunks.invariant.1

pub returns-in-Stops-clause-all : goal.returns-in-Stops-clause-all
returns-in-Stops-clause-all g c =
    let rest = c.chunks.rest.now in
    let behind = c.first_part.result.1.now in
    all_listed (view_of c.args.view) c.args.begun c.chunks.opened _ (kept_of c.args.talk.now) (kept_of c.chunks.talk) c.args.bytes.now rest _ (string_bytes c.args.texts.now.lines) (string_bytes c.chunks.texts.lines) c.chunks.invariant.0
    (stops c.chunks.opened rest behind (subst (λ p. TakesPart c.chunks.opened rest p behind) c.in-Stops.is c.first_part.ensures)) c.chunks.invariant.1
