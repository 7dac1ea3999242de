use Rattle.pgp_value_text.proofs.Common.{refl, ShowsFloat, ◌∙◌, from_bits, binary32, lt-ltb, le-ltb, T_from_false, nan_bits_above}
use Rattle.pgp_value_text.proofs.Floats.{nan_single, shows_nan}
use Rattle.pgp_value_text.proofs.Texts.{tells_one}
use Rattle.pgp_value_text.proofs.float.put_single_bits.Goals as goal

pub float_from_bits-bits : goal.float_from_bits-bits
float_from_bits-bits g c = T_from_false _ (nan_bits_above binary32 c.args.bits ∙ le-ltb _ _ c.if-bits-gt2139095040.false)

pub put_single-requires : goal.put_single-requires
put_single-requires g c = record { is = refl; number = nan_single c.args.bits ∙ le-ltb _ _ c.if-bits-gt2139095040.false }

pub returns-then-bits-gt2139095040 : goal.returns-then-bits-gt2139095040
returns-then-bits-gt2139095040 g c =
    tells_one _ _ _ _ (ShowsFloat binary32 (from_bits binary32 c.args.bits)) c.put.result (shows_nan binary32 (from_bits binary32 c.args.bits) (nan_single c.args.bits ∙ lt-ltb _ _ c.if-bits-gt2139095040.true)) c.put.ensures
