use Rattle.pgp_values.proofs.Common.{arith, IsBytes, refused_as, ListReads, lexeme}
use Rattle.pgp_values.proofs.ListLemmas.{list_read, list_few, list_refused}
use Rattle.pgp_values.proofs.LexemeLemmas.{lexeme_item}
use Rattle.pgp_values.proofs.tsvector.tsvector_from_sql.Goals as goal

pub returns-in_err-count-clause-value : goal.returns-in_err-count-clause-value
returns-in_err-count-clause-value c =
    let each : IsBytes c.args.buf.now = λ i. omega (arith, c.type_inv.buf i) in
    refused_as (ListReads lexeme.part c.args.buf.now) _ _ c.from_residual.ensures.1 (list_refused lexeme c.args.buf.now _ each c.in_err-count.ensures)

pub returns-clause-value : goal.returns-clause-value
returns-clause-value c =
    let each : IsBytes c.args.buf.now = λ i. omega (arith, c.type_inv.buf i) in
    rw c.new.ensures (list_read lexeme lexeme_item c.args.buf.now c.in_ok-count.count c.in_ok-count.lexemes.now each c.in_ok-count.ensures)

pub returns-clause-few : goal.returns-clause-few
returns-clause-few c =
    let each : IsBytes c.args.buf.now = λ i. omega (arith, c.type_inv.buf i) in
    rw c.new.ensures (list_few lexeme lexeme_item c.args.buf.now c.in_ok-count.count c.in_ok-count.lexemes.now each c.in_ok-count.ensures)
