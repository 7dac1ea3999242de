use Rattle.pgp_value_text.proofs.Common.{refl, from_bits, binary32, float4, fixed_sound, uint32_spelling, ShowsFloat}
use Rattle.pgp_value_text.proofs.Texts.{refused, tells_read}
use Rattle.pgp_value_text.proofs.float.put_float4.Goals as goal

pub returns-in-Ok : goal.returns-in-Ok
returns-in-Ok g c =
    tells_read float4 (fixed_sound uint32_spelling) (λ bits. ShowsFloat binary32 (from_bits binary32 bits)) _ c.args.bytes.now c.in-Ok.bits _ _ c.put_single_bits.result c.in-Ok.ensures c.put_single_bits.ensures

pub returns-in-Err : goal.returns-in-Err
returns-in-Err g c = (refused float4 (fixed_sound uint32_spelling) (λ bits. ShowsFloat binary32 (from_bits binary32 bits)) _ _ c.in-Err.ensures, refl)
