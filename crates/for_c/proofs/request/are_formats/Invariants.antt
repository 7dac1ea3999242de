use Rattle.for_c.proofs.Common.{◌≡◌, true, take, list_all, is_format}
use Rattle.for_c.proofs.request.are_formats.Given as goal

abbrev pub invariant-loop-code : goal.invariant-loop-code
invariant-loop-code l = list_all is_format (take l.code-index l.codes) ≡ true
