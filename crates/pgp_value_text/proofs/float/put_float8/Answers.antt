use Rattle.pgp_value_text.proofs.Common.{refl, from_bits, binary64, float8, fixed_sound, uint64_spelling, ShowsFloat}
use Rattle.pgp_value_text.proofs.Texts.{refused, tells_read}
use Rattle.pgp_value_text.proofs.float.put_float8.Goals as goal

pub returns-in-Ok : goal.returns-in-Ok
returns-in-Ok g c =
    tells_read float8 (fixed_sound uint64_spelling) (λ bits. ShowsFloat binary64 (from_bits binary64 bits)) _ c.args.bytes.now c.in-Ok.bits _ _ c.put_double_bits.result c.in-Ok.ensures c.put_double_bits.ensures

pub returns-in-Err : goal.returns-in-Err
returns-in-Err g c = (refused float8 (fixed_sound uint64_spelling) (λ bits. ShowsFloat binary64 (from_bits binary64 bits)) _ _ c.in-Err.ensures, refl)
