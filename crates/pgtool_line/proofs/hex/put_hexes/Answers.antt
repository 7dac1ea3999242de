use Rattle.pgtool_line.proofs.Common.{arith, rules, ◌∙◌, ap, ◌++◌, string_bytes, flat_map, take_all, hex_byte}
use Rattle.pgtool_line.proofs.Parts.{text_more}
use Rattle.pgtool_line.proofs.hex.put_hexes.Goals as goal

pub loop-byte-preserved : goal.loop-byte-preserved
loop-byte-preserved g c = text_more hex_byte c.args.bytes.now (string_bytes c.args.line.now) (string_bytes c.loop-byte.line) _ c.loop-byte.byte-index 0 c.loop-byte-test.true c.loop-byte.invariant (search rules)

pub returns-clause-text : goal.returns-clause-text
returns-clause-text g c =
    c.loop-byte.invariant ∙ ap (λ l. string_bytes c.args.line.now ++ flat_map hex_byte l) (take_all c.loop-byte.byte-index c.args.bytes.now (omega (arith, c.loop-byte-test.false)))
