use Rattle.pgp_uses.proofs.Common.{Ok, subst, Step, view, parsed}
use Rattle.pgp_uses.proofs.Descriptions.{finds, skips, skips_fault}
use Rattle.pgp_uses.proofs.columns.description.Goals as goal

pub returns-in-Some : goal.returns-in-Some
returns-in-Some c = finds c.args.bytes.now c.frames.messages c.next.new.self (view c.in-Ok-Some.message) _ c.frames.invariant (subst (λ o. Step ⊥ c.frames.messages (parsed (Ok o)) c.next.new.self) c.in-Ok-Some.field-0-is c.in-Ok-Some.ensures.step) c.in-Some.ensures

pub frames-preserved-in-Some-1 : goal.frames-preserved-in-Some-1
frames-preserved-in-Some-1 c = skips c.args.bytes.now c.frames.messages c.next.new.self (view c.in-Ok-Some.message) c.frames.invariant (subst (λ o. Step ⊥ c.frames.messages (parsed (Ok o)) c.next.new.self) c.in-Ok-Some.field-0-is c.in-Ok-Some.ensures.step) c.in-None.ensures

pub frames-preserved : goal.frames-preserved
frames-preserved c = skips_fault c.args.bytes.now c.frames.messages c.next.new.self c.in-Err.field-0 c.frames.invariant c.in-Err.ensures.step
