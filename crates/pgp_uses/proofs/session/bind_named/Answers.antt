use Rattle.pgp_uses.proofs.Common.{pos, [], ◌∷◌, Some, once_steps, YieldsList-from_once, Yielded, all_same, some_same, first_of_one, FromOption}
use Rattle.pgp_uses.proofs.Asking.{named_binds}
use Rattle.pgp_uses.proofs.session.bind_named.Goals as goal

pub returns : goal.returns
returns g c =
    let held = g.B.Buffer.held in
    record {
      last = c.bind.ensures.0;
      binds = named_binds held (goal.F-step g) g.B.Buffer.Lacks c.args.name.now (Yielded (FromOption _) once_steps (Some (pos 1))) (Yielded (FromOption _) once_steps (Some 0)) (Yielded (FromOption _) once_steps (Some (pos 1)))
          (λ xs k. all_same (FromOption _) once_steps (Some (pos 1)) (pos 1 ∷ []) (λ it from. YieldsList-from_once (Some (pos 1)) from.0) xs k)
          (λ xs x k. (first_of_one (pos 1) xs x (some_same (FromOption _) once_steps (Some (pos 1)) (pos 1 ∷ []) (λ it from. YieldsList-from_once (Some (pos 1)) from.0) xs x k)).1)
          (λ xs k. all_same (FromOption _) once_steps (Some 0) (0 ∷ []) (λ it from. YieldsList-from_once (Some 0) from.0) xs k)
          (λ xs x k. first_of_one 0 xs x (some_same (FromOption _) once_steps (Some 0) (0 ∷ []) (λ it from. YieldsList-from_once (Some 0) from.0) xs x k))
          (λ xs k. all_same (FromOption _) once_steps (Some (pos 1)) (pos 1 ∷ []) (λ it from. YieldsList-from_once (Some (pos 1)) from.0) xs k)
          (λ xs x k. (first_of_one (pos 1) xs x (some_same (FromOption _) once_steps (Some (pos 1)) (pos 1 ∷ []) (λ it from. YieldsList-from_once (Some (pos 1)) from.0) xs x k)).1)
          c.args.serializer c.bind.ensures.0 c.args.stream.now c.bind.result c.bind.new.self c.bind.ensures.1;
    }
