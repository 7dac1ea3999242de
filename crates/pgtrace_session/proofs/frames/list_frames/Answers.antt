use Rattle.pgtrace_session.proofs.Common.{refl, rules, subst, ◌∙◌, string_bytes, view_of, ListsFrame, ListsOneFrame, known_of, nothing_yet}
use Rattle.std.specs.Prelude.{List, ℕ}
use Rattle.pgtrace_session.proofs.FrameLists.{one_more, shorter}
use Rattle.pgtrace_session.proofs.frames.list_frames.Goals as goal

pub frames-init : goal.frames-init
frames-init g c = (nothing_yet (ListsFrame (view_of c.args.view) (string_bytes c.args.texts.now.mark) c.args.sender) c.args.place (known_of c.args.known.now) c.args.bytes.now (string_bytes c.args.texts.now.lines), refl)

pub frames-preserved : goal.frames-preserved
frames-preserved g c =
    let view = view_of c.args.view in
    let mid = known_of c.frames.known in
    let to = known_of c.list_next.new.known in
    let rest = c.frames.rest.now in
    let behind = c.in_ok-next.behind.now in
    let now = string_bytes c.frames.texts.lines in
    let new = string_bytes c.list_next.new.texts.lines in
    let one : ListsOneFrame view (string_bytes c.frames.texts.mark) c.args.sender c.saturating_add-at.result mid rest behind now new to = search rules in (
      one_more view (string_bytes c.args.texts.now.mark) c.args.sender c.args.place c.saturating_add-at.result (known_of c.args.known.now) mid to c.args.bytes.now rest behind (string_bytes c.args.texts.now.lines) now new
          c.frames.invariant.0 c.saturating_add-at.ensures (subst (λ (m : List ℕ). ListsOneFrame view m c.args.sender c.saturating_add-at.result mid rest behind now new to) c.frames.invariant.1 one),
      c.in_ok-next.ensures.mark ∙ c.frames.invariant.1,
    )

pub frames-smaller : goal.frames-smaller
frames-smaller g c =
    let view = view_of c.args.view in
    let mid = known_of c.frames.known in
    let to = known_of c.list_next.new.known in
    let now = string_bytes c.frames.texts.lines in
    let new = string_bytes c.list_next.new.texts.lines in
    let one : ListsOneFrame view (string_bytes c.frames.texts.mark) c.args.sender c.saturating_add-at.result mid c.frames.rest.now c.in_ok-next.behind.now now new to = search rules in
    shorter view (string_bytes c.frames.texts.mark) c.args.sender c.saturating_add-at.result mid to c.frames.rest.now c.in_ok-next.behind.now now new one
