use Rattle.postgres_protocol.proofs.Common.{rules, ◌≡◌, List, [], ◌∷◌, ◌++◌, length, ℕ, Option, Some, sym, subst, option_map, column, IsInt4}
use Rattle.postgres_protocol.proofs.RowLemmas.{AreFirst, value_read, none_column, all_read}
use Rattle.postgres_protocol.proofs.laws.row.columns.Goals as goal

pub columns-preserved : goal.columns-preserved
columns-preserved g c =
    let table = c.args.index.now in
    let rs = c.columns.values.items in
    let v : Option (List ℕ) = option_map (λ value. value.now) c.in-Some.column in
    let at : Some v ≡ column table (length rs) = search rules in
    let read : IsInt4 v c.map-value.result = search rules in
    let grown : c.push.new.list.items ≡ rs ++ c.map-value.result ∷ [] = search rules in
    subst (AreFirst table.buffer table.places) (sym grown) (value_read table rs v c.map-value.result c.columns.invariant at read)

pub returns-clause-ok : goal.returns-clause-ok
returns-clause-ok g c =
    let table = c.args.index.now in
    let rs = c.columns.values.items in
    all_read table.buffer table.places rs c.columns.invariant (none_column table (length rs) (search rules))
