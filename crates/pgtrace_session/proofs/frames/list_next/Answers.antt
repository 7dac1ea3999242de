use Rattle.pgtrace_session.proofs.Common.{◌≡◌, ◌++◌, ◌∙◌, List, ℕ, ap, rules, subst, string_bytes, kind_view, expected, view_of, Line, side_in, text_of, told_by, KnowsNext, known_of, numbers_in, Said, Reads, ReadsSo, types_in, front_taken}
use Rattle.pgtrace_session.proofs.FrameLists.{front_long, lists_one}
use Rattle.pgtrace_session.proofs.Sayings.{line_read}
use Rattle.pgtrace_session.proofs.frames.list_next.Goals as goal

pub front_of-frame-requires : goal.front_of-frame-requires
front_of-frame-requires g c =
    let knows : KnowsNext c.args.view.style c.args.sender c.args.place (known_of c.args.known.now) c.args.bytes.now c.in_ok-next.behind.now (string_bytes c.next_line.new.line) (known_of c.next_line.new.known) (Line c.in-Line.name) = search rules in
    front_long c.args.bytes.now knows.listed.frame c.in_ok-next.behind.now knows.listed.whole

pub returns-in_ok-note-in-Line-clause-each : goal.returns-in_ok-note-in-Line-clause-each
returns-in_ok-note-in-Line-clause-each g c =
    let view = view_of c.args.view in
    let style = c.args.view.style in
    let mark = string_bytes c.args.texts.now.mark in
    let line = string_bytes c.next_line.new.line in
    let typed = string_bytes c.read_frame.new.line in
    let old = known_of c.args.known.now in
    let mid = known_of c.next_line.new.known in
    let new = known_of c.note.new.known in
    let sums = numbers_in c.read_frame.new.numbers in
    let types = types_in c.read_frame.new.types in
    let told = c.in_ok-told-in-Line.told in
    let noted = c.in_ok-told-in-Line.noted in
    let name = c.in-Line.name.now in
    let kind = kind_view c.expected-kind.result in
    let before = string_bytes c.args.texts.now.lines in
    let after = string_bytes c.list_line.new.texts.lines in
    let knows : KnowsNext style c.args.sender c.args.place old c.args.bytes.now c.in_ok-next.behind.now line mid (Line c.in-Line.name) = search rules in
    let has = knows.listed in
    let whole = c.front_of-frame.ensures ∙ front_taken has.frame c.in_ok-next.behind.now c.args.bytes.now has.whole in
    let all = subst (λ (f : List ℕ). (said : Said) → ReadsSo c.args.sender c.args.known.now.opened kind f said → Reads style c.args.place f said mid.numbers sums mid.types types line typed told noted) whole c.in_ok-told-in-Line.ensures.read in
    let reads = line_read (λ said. Reads style c.args.place has.frame said mid.numbers sums mid.types types line typed told noted) style c.args.place c.args.known.now kind has.frame line (side_in c.args.sender mid)
    (c.expected-kind.ensures ∙ ap expected c.as_slice.ensures.value) c.args.sender has.reported all in
    let grown : after ≡ before ++ text_of view mark (told_by mid.marked told) c.args.place c.as_slice-in-Line.result.now name typed =
    c.in_ok-list_line-in-Line.ensures.text ∙ ap (λ t. before ++ text_of view mark t c.args.place c.as_slice-in-Line.result.now name typed) c.told_by-told.ensures in
    rw c.in-Line.is (lists_one view mark c.args.sender c.args.place old mid new told noted sums types c.args.bytes.now c.in_ok-next.behind.now line typed name before after has knows.same reads
    (grown ∙ ap (λ r. before ++ text_of view mark (told_by mid.marked told) c.args.place r name typed) c.as_slice-in-Line.ensures.value) c.in_ok-note-in-Line.ensures.noted)
