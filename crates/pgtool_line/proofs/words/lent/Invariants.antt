use Rattle.pgtool_line.proofs.Common.{◌≡◌, map, take}
use Rattle.std.specs.Prelude.{string_bytes}
use Rattle.pgtool_line.proofs.words.lent.Given as goal

abbrev pub invariant-loop-text : goal.invariant-loop-text
invariant-loop-text g l = map (λ word. word.now) l.words.items ≡ map string_bytes (take l.text-index l.texts)
