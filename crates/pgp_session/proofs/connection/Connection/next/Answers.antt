use Rattle.pgp_session.proofs.Common.{List, ℕ, rules, refl, ap, view, OutOfTurn, IsLonger, IsCut, IsNone, Comes, shown, with_incoming}
use Rattle.pgp_session.specs.Connection.{WantsMemory}
use Rattle.pgp_session.proofs.Connections.{so_far, step_memory, step_none, step_some}
use Rattle.pgp_session.proofs.connection.Connection.next.Goals as goal

pub returns-then-ne-clause-next : goal.returns-then-ne-clause-next
returns-then-ne-clause-next g c = so_far _ (shown c.args.self.now) _ c.pass.new.self.rest _ c.pass.ensures.rest (OutOfTurn (search rules) refl)

pub returns-then-is_too_long-clause-next : goal.returns-then-is_too_long-clause-next
returns-then-is_too_long-clause-next g c = so_far _ (shown c.args.self.now) _ c.pass.new.self.rest _ c.pass.ensures.rest (IsLonger (search rules) (search rules) refl)

pub returns-in-Ok-None-clause-next : goal.returns-in-Ok-None-clause-next
returns-in-Ok-None-clause-next g c =
    let all = c.pass.new.self.rest in
    let s = step_none g.A.Memory.Lacks all c.parse.new.self.rest c.in-Ok-None.field-0 c.in-Ok-None.field-0-is c.in-Ok-None.ensures.step in
    so_far g.A.Memory.Lacks (shown c.args.self.now) _ all _ c.pass.ensures.rest (IsCut (search rules) (search rules) s.0 (ap (λ (l : List ℕ). with_incoming l (shown c.args.self.now)) s.1))

pub returns-in-Ok-clause-next : goal.returns-in-Ok-clause-next
returns-in-Ok-clause-next g c =
    let all = c.pass.new.self.rest in
    let behind = c.parse.new.self.rest in
    let step = step_some g.A.Memory.Lacks all behind c.in-Ok-Some.field-0 c.in-Ok-Some.message c.in-Ok-Some.field-0-is c.in-Ok-Some.ensures.step in
    so_far g.A.Memory.Lacks (shown c.args.self.now) _ all _ c.pass.ensures.rest (Comes (view c.in-Ok-Some.message) behind (search rules) (search rules) step (c.in-Ok.ensures (with_incoming behind (shown c.args.self.now))))

pub returns-in-Err-hear-clause-next : goal.returns-in-Err-hear-clause-next
returns-in-Err-hear-clause-next g c =
    let all = c.pass.new.self.rest in
    let behind = c.parse.new.self.rest in
    let step = step_some g.A.Memory.Lacks all behind c.in-Ok-Some.field-0 c.in-Ok-Some.message c.in-Ok-Some.field-0-is c.in-Ok-Some.ensures.step in
    so_far g.A.Memory.Lacks (shown c.args.self.now) _ all _ c.pass.ensures.rest (Comes (view c.in-Ok-Some.message) behind (search rules) (search rules) step (c.in-Err-hear.ensures (with_incoming behind (shown c.args.self.now))))

pub returns-in-Err-OutOfMemory-clause-next : goal.returns-in-Err-OutOfMemory-clause-next
returns-in-Err-OutOfMemory-clause-next g c =
    let all = c.pass.new.self.rest in
    let s = step_memory g.A.Memory.Lacks all c.parse.new.self.rest c.in-Err-OutOfMemory.field-0 c.in-Err-OutOfMemory.field-0-is c.in-Err-OutOfMemory.ensures.step in
    so_far g.A.Memory.Lacks (shown c.args.self.now) _ all _ c.pass.ensures.rest (WantsMemory (search rules) (search rules) s.0 s.1 (ap (λ (l : List ℕ). with_incoming l (shown c.args.self.now)) s.2))

pub returns-in-Err-clause-next : goal.returns-in-Err-clause-next
returns-in-Err-clause-next g c = so_far g.A.Memory.Lacks (shown c.args.self.now) _ c.pass.new.self.rest _ c.pass.ensures.rest (IsNone c.in-Err.e c.parse.new.self.rest (search rules) (search rules) c.in-Err.ensures.step (search rules) refl)
