use Rattle.pgp_uses.proofs.Common.{rules, refl, true, ap, ◌∙◌, ℕ, ◌≡◌, ◌≤◌, Option, None, Some, List, [], ◌∷◌, once_item, once_steps, option_len, Once, YieldsList-from_once, Yielded, ClientMessage, Parse, Describe, Execute, Sync, Held, ParseWhole, Sent, IsAdded, int4, all_same, some_same, none_of_none, AreAdded, named_bound}
use Rattle.std.specs.Prelude.{pos}
use Rattle.pgp_uses.proofs.Asking.{none_yet, one_more, stops, parse_refused, bound_is, bind_left, bind_blames}
use Rattle.pgp_uses.proofs.Bound.{keeps_value}
use Rattle.pgp_uses.proofs.session.ask_named.Goals as goal

-- the iterator of no type
abbrev FromNone : Type 0 → Option ℕ → Once ℕ → Type 0
FromNone Ends source it = (once_item it ≡ source) × (option_len (once_item it) ≤ 1) × Ends

all_types : {Ends : Type 0} (xs : List ℕ) → Yielded (FromNone Ends) once_steps None xs None → xs ≡ []
all_types {Ends} xs k = all_same (FromNone Ends) once_steps None [] (λ it from. YieldsList-from_once None from.0) xs k

some_types : {Ends : Type 0} (xs : List ℕ) (x : ℕ) → Yielded (FromNone Ends) once_steps None xs (Some x) → ⊥
some_types {Ends} xs x k = none_of_none xs x (some_same (FromNone Ends) once_steps None [] (λ it from. YieldsList-from_once None from.0) xs x k)

parsed : {Ends B K : Type 0} (name sql : List ℕ) (held : B → Held K) (old new : Sent B) → old.opened ≡ true → (m : ClientMessage) × ParseWhole name sql (Yielded (FromNone Ends) once_steps None) m × IsAdded held m old new
    → AreAdded held (Parse name sql [] ∷ []) old new
parsed name sql held old new opens w = one_more held [] w.0 (Parse name sql []) old old new (none_yet held old opens) (w.1.2 ∙ ap (λ ts. Parse name sql ts) (all_types w.1.0 w.1.1)) w.2

pub returns-in_err-parse : goal.returns-in_err-parse
returns-in_err-parse g c =
    let start = c.args.stream.now in
    let refused = parse_refused c.args.name.now c.args.sql.now _ (λ xs k. all_types xs k) (λ xs x k. some_types xs x k) g.B.Buffer.Lacks (g.B.Buffer.held start.buf) _ c.in_err-parse.ensures.0 in
    stops g.B.Buffer.held [] (Parse c.args.name.now c.args.sql.now []) _ g.B.Buffer.Lacks _ start start c.parse.new.self _ c.from_residual.ensures.1 (none_yet g.B.Buffer.held start c.requires) c.in_err-parse.ensures.1 (λ b. b, refused)

pub bind_named-requires-clause-owes : goal.bind_named-requires-clause-owes
bind_named-requires-clause-owes g c = λ f f' x b b' r p s. keeps_value int4 g.B.Buffer.Lacks (Some f.0.now) (g.B.Buffer.held b.now) (g.B.Buffer.held b'.now) r (search rules)

pub returns-in_err-bind_named : goal.returns-in_err-bind_named
returns-in_err-bind_named g c =
    let name = c.args.name.now in
    let start = c.args.stream.now in
    let p = parsed name c.args.sql.now g.B.Buffer.held start c.parse.new.self c.requires c.in_ok-parse.ensures in
    let held = g.B.Buffer.held in
    let left = bind_left held _ g.B.Buffer.Lacks _ name c.args.value c.parse.new.self c.bind_named.new.stream _ c.in_err-bind_named.ensures in
    let blames = bind_blames held _ g.B.Buffer.Lacks _ name c.args.value c.parse.new.self c.bind_named.new.stream _ c.in_err-bind_named.ensures (λ u x b b' r s. search rules) in
    stops g.B.Buffer.held _ (named_bound name (Some (int4.written c.args.value))) _ g.B.Buffer.Lacks _ start c.parse.new.self c.bind_named.new.stream _ c.from_residual-in_err-bind_named.ensures.1 p left blames

pub returns-in_err-describe : goal.returns-in_err-describe
returns-in_err-describe g c =
    let held = g.B.Buffer.held in
    let name = c.args.name.now in
    let sql = c.args.sql.now in
    let bound = named_bound name (Some (int4.written c.args.value)) in
    let start = c.args.stream.now in
    let p = parsed name sql held start c.parse.new.self c.requires c.in_ok-parse.ensures in
    let b = one_more held _ bound bound start c.parse.new.self c.bind_named.new.stream p refl
    (bound_is held _ g.B.Buffer.Lacks _ name c.args.value c.parse.new.self c.bind_named.new.stream c.in_ok-bind_named.ensures (λ u x b b' r s. search rules)) in
    stops held _ (Describe 80 []) _ g.B.Buffer.Lacks _ start c.bind_named.new.stream c.describe.new.self _ c.from_residual-in_err-describe.ensures.1 b c.in_err-describe.ensures.1 (λ b. b, c.in_err-describe.ensures.0)

pub returns-in_err-execute : goal.returns-in_err-execute
returns-in_err-execute g c =
    let held = g.B.Buffer.held in
    let name = c.args.name.now in
    let sql = c.args.sql.now in
    let bound = named_bound name (Some (int4.written c.args.value)) in
    let start = c.args.stream.now in
    let p = parsed name sql held start c.parse.new.self c.requires c.in_ok-parse.ensures in
    let b = one_more held _ bound bound start c.parse.new.self c.bind_named.new.stream p refl
    (bound_is held _ g.B.Buffer.Lacks _ name c.args.value c.parse.new.self c.bind_named.new.stream c.in_ok-bind_named.ensures (λ u x b b' r s. search rules)) in
    let d = one_more held _ c.in_ok-describe.ensures.0 (Describe 80 []) start c.bind_named.new.stream c.describe.new.self b c.in_ok-describe.ensures.1 c.in_ok-describe.ensures.2 in
    stops held _ (Execute [] (pos 0)) _ g.B.Buffer.Lacks _ start c.describe.new.self c.execute.new.self _ c.from_residual-in_err-execute.ensures.1 d c.in_err-execute.ensures.1 (λ b. b, c.in_err-execute.ensures.0)

pub returns-in_err-sync : goal.returns-in_err-sync
returns-in_err-sync g c =
    let held = g.B.Buffer.held in
    let name = c.args.name.now in
    let sql = c.args.sql.now in
    let bound = named_bound name (Some (int4.written c.args.value)) in
    let start = c.args.stream.now in
    let p = parsed name sql held start c.parse.new.self c.requires c.in_ok-parse.ensures in
    let b = one_more held _ bound bound start c.parse.new.self c.bind_named.new.stream p refl
    (bound_is held _ g.B.Buffer.Lacks _ name c.args.value c.parse.new.self c.bind_named.new.stream c.in_ok-bind_named.ensures (λ u x b b' r s. search rules)) in
    let d = one_more held _ c.in_ok-describe.ensures.0 (Describe 80 []) start c.bind_named.new.stream c.describe.new.self b c.in_ok-describe.ensures.1 c.in_ok-describe.ensures.2 in
    let e = one_more held _ c.in_ok-execute.ensures.0 (Execute [] (pos 0)) start c.describe.new.self c.execute.new.self d c.in_ok-execute.ensures.1 c.in_ok-execute.ensures.2 in
    stops held _ (Sync) _ g.B.Buffer.Lacks _ start c.execute.new.self c.sync.new.self _ c.from_residual-in_err-sync.ensures.1 e c.in_err-sync.ensures.1 (λ b. b, c.in_err-sync.ensures.0)

pub returns : goal.returns
returns g c =
    let held = g.B.Buffer.held in
    let name = c.args.name.now in
    let sql = c.args.sql.now in
    let bound = named_bound name (Some (int4.written c.args.value)) in
    let start = c.args.stream.now in
    let p = parsed name sql held start c.parse.new.self c.requires c.in_ok-parse.ensures in
    let b = one_more held _ bound bound start c.parse.new.self c.bind_named.new.stream p refl
    (bound_is held _ g.B.Buffer.Lacks _ name c.args.value c.parse.new.self c.bind_named.new.stream c.in_ok-bind_named.ensures (λ u x b b' r s. search rules)) in
    let d = one_more held _ c.in_ok-describe.ensures.0 (Describe 80 []) start c.bind_named.new.stream c.describe.new.self b c.in_ok-describe.ensures.1 c.in_ok-describe.ensures.2 in
    let e = one_more held _ c.in_ok-execute.ensures.0 (Execute [] (pos 0)) start c.describe.new.self c.execute.new.self d c.in_ok-execute.ensures.1 c.in_ok-execute.ensures.2 in
    one_more held _ c.in_ok-sync.ensures.0 Sync start c.execute.new.self c.sync.new.self e c.in_ok-sync.ensures.1 c.in_ok-sync.ensures.2
