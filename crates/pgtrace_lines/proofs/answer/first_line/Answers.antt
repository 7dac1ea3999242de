use Rattle.pgtrace_lines.proofs.Common.{◌≡◌, ◌∷◌, rules, sym, subst, ◌∙◌, List, ℕ, Some, None, string_bytes, Beginning, Messages, Server, phase_behind, server_at, HasLine, ListsNext, phase_of}
use Rattle.pgtrace_lines.proofs.Beginnings.{answer_lists, first_lists, none_there}
use Rattle.pgtrace_lines.proofs.answer.first_line.Goals as goal

pub returns-in-Some-phase_behind-clause-listed : goal.returns-in-Some-phase_behind-clause-listed
returns-in-Some-phase_behind-clause-listed g c =
    let byte = c.in-Some.byte.now in
    let behind = c.in-Some.behind.now in
    let phase = c.in-Some-phase_behind.phase in
    let bytes : c.args.bytes.now ≡ byte ∷ behind = search rules in
    let answers : phase_behind byte ≡ Some phase = sym c.phase_behind.ensures ∙ c.in-Some-phase_behind.is in
    subst (λ (l : List ℕ). HasLine c.args.style c.args.place (Server Beginning) l behind (string_bytes c.answer_line.new.line) (Server phase) c.answer_name.result.now) (sym bytes)
    (subst (λ n. HasLine c.args.style c.args.place (Server Beginning) (byte ∷ behind) behind (string_bytes c.answer_line.new.line) (Server phase) n) (sym c.answer_name.ensures)
    (answer_lists c.args.style c.args.place byte behind (string_bytes c.answer_line.new.line) phase answers c.in_ok-answer_line.ensures.line))

pub returns-clause-listed : goal.returns-clause-listed
returns-clause-listed g c =
    let byte = c.in-Some.byte.now in
    let behind = c.in-Some.behind.now in
    let rest = c.in_ok-next.rest.now in
    let next = c.in_ok-next.next in
    let now = c.in_ok-next.now in
    let line = string_bytes c.server_line.new.line in
    let bytes : c.args.bytes.now ≡ byte ∷ behind = search rules in
    let none : phase_behind byte ≡ None = sym c.phase_behind.ensures ∙ none_there c.phase_behind.result c.in_default-phase_behind.not-Some in
    let has : ListsNext c.args.style c.args.place (Server Messages) (byte ∷ behind) rest line (server_at now) next =
    subst (λ (l : List ℕ). ListsNext c.args.style c.args.place (Server Messages) l rest line (server_at now) next) bytes c.in_ok-next.ensures.listed in
    rw c.phase_of.ensures (subst (λ (l : List ℕ). ListsNext c.args.style c.args.place (Server Beginning) l rest line (Server (phase_of next now)) next) (sym bytes)
    (first_lists c.args.style c.args.place byte behind rest line now next none has))
