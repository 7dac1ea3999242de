use Rattle.pgp_saslprep.proofs.Common.{◌≡◌, string_bytes, encode_utf8_all, mapped_text}
use Rattle.pgp_saslprep.proofs.mapping.map_text.Given as goal

abbrev pub invariant-loop-c : goal.invariant-loop-c
invariant-loop-c g l = string_bytes l.out ≡ encode_utf8_all (mapped_text l.yielded)
