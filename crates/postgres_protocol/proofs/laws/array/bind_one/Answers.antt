use Rattle.postgres_protocol.proofs.Common.{pos, [], ◌∷◌, Some, None, Yielded, unnamed, all_same, some_same}
use Rattle.std.specs.Iterator.Adapters.{once_steps}
use Rattle.std.proofs.lemmas.Iterator.Adapters.{YieldsList-from_once}
use Rattle.postgres_protocol.proofs.StepLemmas.{first_of_one, none_of_none, FromOption}
use Rattle.postgres_protocol.proofs.BindLemmas.{one_binds}
use Rattle.postgres_protocol.proofs.laws.array.bind_one.Goals as goal

pub returns : goal.returns
returns g c =
    let held = g.B.Buffer.held in
    record {
      last = c.bind.ensures.0;
      binds = one_binds held (goal.F-step g) g.B.Buffer.Lacks unnamed (Yielded (FromOption _) once_steps (Some (pos 1))) (Yielded (FromOption _) once_steps (Some 0)) (Yielded (FromOption _) once_steps None)
          (λ xs k. all_same (FromOption _) once_steps (Some (pos 1)) (pos 1 ∷ []) (λ it from. YieldsList-from_once (Some (pos 1)) from.0) xs k)
          (λ xs x k. (first_of_one (pos 1) xs x (some_same (FromOption _) once_steps (Some (pos 1)) (pos 1 ∷ []) (λ it from. YieldsList-from_once (Some (pos 1)) from.0) xs x k)).1)
          (λ xs k. all_same (FromOption _) once_steps (Some 0) (0 ∷ []) (λ it from. YieldsList-from_once (Some 0) from.0) xs k)
          (λ xs x k. first_of_one 0 xs x (some_same (FromOption _) once_steps (Some 0) (0 ∷ []) (λ it from. YieldsList-from_once (Some 0) from.0) xs x k))
          (λ xs k. all_same (FromOption _) once_steps None [] (λ it from. YieldsList-from_once None from.0) xs k)
          (λ xs x k. absurd (none_of_none xs x (some_same (FromOption _) once_steps None [] (λ it from. YieldsList-from_once None from.0) xs x k)))
          c.args.serializer c.bind.ensures.0 (held c.args.buf.now) c.bind.result (held c.bind.new.buf) c.bind.ensures.1;
    }
