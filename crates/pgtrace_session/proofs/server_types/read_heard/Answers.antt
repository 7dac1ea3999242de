use Rattle.pgtrace_session.proofs.Common.{◌≡◌, ◌∙◌, sym, List, ℕ, get_or, length, None, Ok, Err, refl, rules, subst, string_bytes, Step, TakesFrame, Answers, Nothing, kind_of_tag, heard_as, numbers_in, Heard, Unsaid, Passes, Reads, types_in, Uncounted}
use Rattle.pgp_message.specs.Views.{view}
use Rattle.pgtrace_session.proofs.Readings.{answer_all, fault_all, heard_all, if_ok, none_all, passed_reads, unnoted_reads}
use Rattle.pgtrace_session.proofs.server_types.read_heard.Goals as goal

pub returns-in-Ok-Some-clause-read : goal.returns-in-Ok-Some-clause-read
returns-in-Ok-Some-clause-read g c =
    let frame = c.args.frame.now in
    let m = view c.in-Ok-Some.message in
    let new = c.next.new.self in
    let step : TakesFrame c.new-messages.result (Ok m) new = search rules in
    let takes : TakesFrame frame (Ok m) new = subst (λ (l : List ℕ). TakesFrame l (Ok m) new) c.new-messages.ensures step in
    if_ok c.read_message-heard.result (λ x reads opened kind. heard_all (λ said. Reads c.args.style c.args.place frame said (numbers_in c.args.numbers.now) (numbers_in c.read_message-heard.new.numbers) (types_in c.args.types.now) (types_in c.read_message-heard.new.types)
    (string_bytes c.args.line.now) (string_bytes c.read_message-heard.new.line) x.0 x.1) opened kind frame new m takes reads) c.read_message-heard.ensures.read

pub returns-in-Ok-None-clause-read : goal.returns-in-Ok-None-clause-read
returns-in-Ok-None-clause-read g c opened kind said =
    let frame = c.args.frame.now in
    let new = c.next.new.self in
    let step : Step ⊥ c.new-messages.result (Ok None) new = search rules in
    let some : length frame ≡ 1 → ⊥ = λ h. search rules in
    none_all (λ said. Reads c.args.style c.args.place frame said (numbers_in c.args.numbers.now) (numbers_in c.args.numbers.now) (types_in c.args.types.now) (types_in c.args.types.now) (string_bytes c.args.line.now) (string_bytes c.args.line.now) Uncounted Nothing) opened kind frame new (subst (λ (l : List ℕ). Step ⊥ l (Ok None) new) c.new-messages.ensures step) some said

pub returns-then-frame-eq1-clause-read : goal.returns-then-frame-eq1-clause-read
returns-then-frame-eq1-clause-read g c opened kind said =
    let frame = c.args.frame.now in
    let line = string_bytes c.args.line.now in
    let one : length frame ≡ 1 = search rules in
    answer_all (λ said. Reads c.args.style c.args.place frame said (numbers_in c.args.numbers.now) (numbers_in c.pass.new.numbers) (types_in c.args.types.now) (types_in c.pass.new.types) line line c.in_ok-told.told Answers) opened kind frame one
    (passed_reads c.args.style c.args.place frame Unsaid (numbers_in c.args.numbers.now) (numbers_in c.pass.new.numbers) (types_in c.args.types.now) (types_in c.pass.new.types) line c.in_ok-told.told Answers tt refl refl c.in_ok-told.ensures.passes) said

pub returns-in_ok-told-in-Err-clause-read : goal.returns-in_ok-told-in-Err-clause-read
returns-in_ok-told-in-Err-clause-read g c opened kind said =
    let frame = c.args.frame.now in
    let new = c.next.new.self in
    let e = c.in-Err.field-0 in
    let line = string_bytes c.args.line.now in
    let numbers = numbers_in c.args.numbers.now in
    let after = numbers_in c.pass-in-Err.new.numbers in
    let types = types_in c.args.types.now in
    let left = types_in c.pass-in-Err.new.types in
    let told = c.in_ok-told-in-Err.told in
    let step : Step ⊥ c.new-messages.result (Err e) new = c.in-Err.ensures.step in
    let some : length frame ≡ 1 → ⊥ = λ h. search rules in
    let passes : Passes (heard_as (kind_of_tag (get_or frame 0 0))) numbers after types left told = subst (λ r. Passes r numbers after types left told) c.heard_fault.ensures c.in_ok-told-in-Err.ensures.passes in
    fault_all (λ said. Reads c.args.style c.args.place frame said numbers after types left line line told Nothing) opened kind frame new e (subst (λ (l : List ℕ). Step ⊥ l (Err e) new) c.new-messages.ensures step) some
    (λ d. passed_reads c.args.style c.args.place frame (Heard (Err d)) numbers after types left line told Nothing tt refl refl passes) said

pub returns-then-notes_nothing-clause-read : goal.returns-then-notes_nothing-clause-read
returns-then-notes_nothing-clause-read g c opened kind said =
    unnoted_reads c.args.style c.args.place opened kind c.args.frame.now (numbers_in c.args.numbers.now) (types_in c.args.types.now) (string_bytes c.args.line.now) (sym c.notes_nothing.ensures ∙ c.if-notes_nothing.true) (λ h. search rules) said
