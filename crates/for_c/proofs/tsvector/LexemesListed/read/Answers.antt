use Rattle.for_c.proofs.Common.{rules, arith, refl, pairs, lexeme_item, pairs_length}
use Rattle.for_c.proofs.TextSearch.{lexeme_placed, lexeme_size}
use Rattle.for_c.proofs.tsvector.LexemesListed.read.Goals as goal

pub returns-in-Err-clause-refused : goal.returns-in-Err-clause-refused
returns-in-Err-clause-refused c = lexeme_item.part.refused c.args.rest.now _ (search rules) c.in-Err.ensures

pub overflow_add-positions : goal.overflow_add-positions
overflow_add-positions c =
    omega (arith, c.requires, lexeme_size c.args.rest.now c.in-Ok.more.now _ (lexeme_item.part.found c.args.rest.now _ c.in-Ok.more.now (search rules) c.in-Ok.ensures))

pub overflow_add-positions-in-Ok : goal.overflow_add-positions-in-Ok
overflow_add-positions-in-Ok c =
    omega (arith, c.requires, lexeme_size c.args.rest.now c.in-Ok.more.now _ (lexeme_item.part.found c.args.rest.now _ c.in-Ok.more.now (search rules) c.in-Ok.ensures))

pub overflow_sub-positions : goal.overflow_sub-positions
overflow_sub-positions c =
    omega (arith, lexeme_size c.args.rest.now c.in-Ok.more.now _ (lexeme_item.part.found c.args.rest.now _ c.in-Ok.more.now (search rules) c.in-Ok.ensures))

pub returns-in-Ok-clause-item : goal.returns-in-Ok-clause-item
returns-in-Ok-clause-item c bytes from =
    let b = lexeme_item.part.found c.args.rest.now (c.in-Ok.text.now, pairs c.in-Ok.positions.now) c.in-Ok.more.now (search rules) c.in-Ok.ensures in
    lexeme_placed c.args.rest.now c.in-Ok.more.now (c.in-Ok.text.now, pairs c.in-Ok.positions.now) b bytes c.args.at _ _ from refl refl

pub returns-in-Ok-clause-shorter : goal.returns-in-Ok-clause-shorter
returns-in-Ok-clause-shorter c =
    omega (arith, lexeme_size c.args.rest.now c.in-Ok.more.now _ (lexeme_item.part.found c.args.rest.now _ c.in-Ok.more.now (search rules) c.in-Ok.ensures))

pub returns-in-Ok-clause-inside : goal.returns-in-Ok-clause-inside
returns-in-Ok-clause-inside c size within =
    let b = lexeme_item.part.found c.args.rest.now (c.in-Ok.text.now, pairs c.in-Ok.positions.now) c.in-Ok.more.now (search rules) c.in-Ok.ensures in
    let size_is = lexeme_size c.args.rest.now c.in-Ok.more.now _ b in
    let count = pairs_length c.in-Ok.positions.now in
    (omega (arith, within, size_is), omega (arith, within, size_is), omega (arith, size_is, count))
