-- The octets so far were added.
use Rattle.std.specs.Prelude.{◌≡◌, ◌++◌, take, string_bytes}
use Rattle.pgp_value_text.proofs.Common.{flat_map, octet_text}
use Rattle.pgp_value_text.proofs.network.push_octets.Given as goal

abbrev pub invariant-loop-octet : goal.invariant-loop-octet
invariant-loop-octet g l = string_bytes l.shown ≡ string_bytes l.fn.shown ++ flat_map octet_text (take l.octet-index l.octets)
