-- What is still to come makes of the line what all was to make of it.
use Rattle.pgtool_line.proofs.Common.{◌≡◌, ◌++◌, length, string_bytes, escaped_text}
use denote.Shadow.{shadow}
use denote.Text.{Utf8}
use Rattle.pgtool_line.proofs.quote.put_text.Given as goal

abbrev pub invariant-runs : goal.invariant-runs
invariant-runs g l = (string_bytes l.line ++ escaped_text l.form l.rest ≡ string_bytes l.fn.line ++ escaped_text l.form l.text) × shadow (Utf8 l.rest)

abbrev pub decreases-runs : goal.decreases-runs
decreases-runs g l = length l.rest
