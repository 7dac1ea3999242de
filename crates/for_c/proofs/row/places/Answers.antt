use Rattle.for_c.proofs.Common.{◌≡◌, ◌-◌, ◌<◌, None, arith, length, refl, subst, true, StandsAt, RangeSpelled, range_of, PgpColumn}
use Rattle.for_c.proofs.Rows.{begun, behind, here, more_read}
use Rattle.for_c.proofs.Walks.{stands_in}
use Rattle.for_c.proofs.row.places.Goals.{then-column, else-column}
use Rattle.for_c.proofs.row.places.Goals as goal

pub values-init : goal.values-init
values-init c = begun c.args.bytes.now c.args.end c.args.count c.args.columns.now _ c.requires.head c.requires.within refl

pub values-preserved : goal.values-preserved
values-preserved c =
    let bytes = c.args.bytes.now in
    let end = c.args.end in
    let count = c.args.count in
    let old = c.args.columns.now in
    let rest = c.values.rest.now in
    let more = c.in-Ok.more.now in
    let n = c.values.i in
    let columns = c.values.columns in
    let column = c.in-Ok.column in
    let reading = c.values.invariant in
    let few : n < length columns = omega (arith, c.values-test.true, c.values.auto.columns, c.requires.few) in
    let due : n < count = omega (arith, c.values-test.true) in
    let item = c.in-Ok.ensures.item bytes (stands_in bytes rest (here bytes end count old rest n) reading.left) in
    elim c.if-column.branch [
      | then-column w ↦
          let null : PgpColumn = record { start = 0; end = 0; is_null = true } in
          let none : range_of column ≡ None = rw w.if-column.true refl in
          let spelled = subst (λ m. StandsAt RangeSpelled (end - length rest) rest m more) none item in
          rw (w.columns-is, w.null.ensures) (more_read bytes end count old rest more n columns null few due reading spelled c.in-Ok.ensures.shorter (omega arith, omega arith))
      | else-column w ↦
          rw w.columns-is (more_read bytes end count old rest more n columns column few due reading item c.in-Ok.ensures.shorter (c.in-Ok.ensures.inside end (omega (arith, reading.fits))))
    ]

pub returns-in-Err-clause-behind : goal.returns-in-Err-clause-behind
returns-in-Err-clause-behind c =
    behind c.args.bytes.now c.args.end c.args.count c.args.columns.now c.values.rest.now c.values.i c.values.columns (omega (arith, c.values-test.true)) c.values.invariant
