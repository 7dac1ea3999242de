use Rattle.pgtrace_lines.proofs.Common.{◌≡◌, ◌+◌, ◌-◌, ◌++◌, ◌∙◌, length, min, rules, ap, string_bytes, HasLine, Listed, side_of, view_of, shown, greatest}
use Rattle.pgtrace_lines.proofs.Shorter.{shorter}
use Rattle.pgtrace_lines.proofs.Rows.{nothing_yet}
use Rattle.pgtrace_lines.proofs.Traces.{line_listed}
use Rattle.pgtrace_lines.proofs.stream.list_frames.Goals as goal

pub frames-init : goal.frames-init
frames-init g c = nothing_yet (Listed (view_of c.args.view)) c.args.place (side_of c.args.side) c.args.bytes.now (string_bytes c.args.lines.now)

pub frames-preserved : goal.frames-preserved
frames-preserved g c =
    let bytes = c.args.bytes.now in
    let rest = c.frames.rest.now in
    let next = c.in_ok-next.behind.now in
    let line = string_bytes c.next_line.new.line in
    let mid = side_of c.frames.here in
    let to = side_of c.in_ok-next.to in
    let here = c.saturating_add.result in
    let at : here ≡ min (c.args.place + (length bytes - length rest)) greatest = c.saturating_add.ensures in
    let name = c.in-Line.name.now in
    let has : HasLine c.args.view.style here mid rest next line to name = search rules in
    line_listed (view_of c.args.view) c.args.place here (side_of c.args.side) mid to bytes rest next line name (string_bytes c.args.lines.now) (string_bytes c.frames.lines) (string_bytes c.add_shown.new.lines) c.frames.invariant at has
    (c.in_ok-add_shown-in-Line.ensures.added ∙ ap (λ l. string_bytes c.frames.lines ++ shown (view_of c.args.view) name l) c.as_str.ensures.value)

pub frames-smaller : goal.frames-smaller
frames-smaller g c =
    let rest = c.frames.rest.now in
    let next = c.in_ok-next.behind.now in
    let line = string_bytes c.next_line.new.line in
    let mid = side_of c.frames.here in
    let to = side_of c.in_ok-next.to in
    let name = c.in-Line.name.now in
    let has : HasLine c.args.view.style c.saturating_add.result mid rest next line to name = search rules in
    shorter c.args.view.style c.saturating_add.result mid to rest next line name has
