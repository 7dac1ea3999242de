use Rattle.pgtool_line.proofs.Common.{◌≡◌, map, string_bytes, ◌+◌, length, TextsFrom}
use Rattle.pgtool_line.proofs.words.texts.Given as goal

abbrev pub invariant-places : goal.invariant-places
invariant-places g l = TextsFrom (g.V.Words.Stands l.env) 1 (map string_bytes l.texts.items)
    × (l.place ≡ 1 + length (map string_bytes l.texts.items))
