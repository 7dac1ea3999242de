use Rattle.pgp_value_text.proofs.Common.{refl, ShowsFloat, ◌∙◌, from_bits, binary64, lt-ltb, le-ltb, T_from_false, nan_bits_above}
use Rattle.pgp_value_text.proofs.Floats.{nan_double, shows_nan}
use Rattle.pgp_value_text.proofs.Texts.{tells_one}
use Rattle.pgp_value_text.proofs.float.put_double_bits.Goals as goal

pub float_from_bits-bits : goal.float_from_bits-bits
float_from_bits-bits g c = T_from_false _ (nan_bits_above binary64 c.args.bits ∙ le-ltb _ _ c.if-bits-gt9218868437227405312.false)

pub put_double-requires : goal.put_double-requires
put_double-requires g c = record { is = refl; number = nan_double c.args.bits ∙ le-ltb _ _ c.if-bits-gt9218868437227405312.false }

pub returns-then-bits-gt9218868437227405312 : goal.returns-then-bits-gt9218868437227405312
returns-then-bits-gt9218868437227405312 g c =
    tells_one _ _ _ _ (ShowsFloat binary64 (from_bits binary64 c.args.bits)) c.put.result (shows_nan binary64 (from_bits binary64 c.args.bits) (nan_double c.args.bits ∙ lt-ltb _ _ c.if-bits-gt9218868437227405312.true)) c.put.ensures
