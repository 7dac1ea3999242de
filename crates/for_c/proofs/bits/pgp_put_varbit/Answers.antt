use Rattle.for_c.proofs.Common.{rules, refl, ◌++◌, inl, inr, ◌∙◌, uint32}
use Rattle.for_c.proofs.Compound.{too_long}
use Rattle.for_c.proofs.Sending.{wrote, lacked}
use Rattle.for_c.proofs.bits.pgp_put_varbit.Goals as goal

pub returns-in-Ok-clause-wrote : goal.returns-in-Ok-clause-wrote
returns-in-Ok-clause-wrote c z = (
  search rules,
  wrote (uint32 c.args.bits ++ c.args.bytes.now) (uint32 c.args.bits ++ c.args.bytes.now) refl c.new-window.result c.put_counted.new.buf c.args.out.now _ c.new-window.ensures c.in-Ok.ensures.ok.1 _ (search rules) _ c.sent.ensures.reported,
)

pub returns-in-Err-clause-refused : goal.returns-in-Err-clause-refused
returns-in-Err-clause-refused c z = (
  c.refused-in-Err.ensures.reported,
  elim c.in-Err.ensures.cause [
    | inl memory ↦
        inr (lacked (uint32 c.args.bits ++ c.args.bytes.now) (uint32 c.args.bits ++ c.args.bytes.now) refl c.new-window.result c.args.out.now _ c.new-window.ensures c.in-Err.e _ _ (inl memory) c.refused-in-Err.ensures.code c.refused-in-Err.ensures.reported)
    | inr past ↦ let k = too_long c.args.bits c.in-Err.e past in inl (inr (c.refused-in-Err.ensures.code ∙ k.0, k.1))
  ],
)
