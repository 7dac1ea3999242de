use Rattle.pgp_stream.proofs.Common.{◌≡◌, ◌∷◌, [], length, map, sym, ap, subst, ◌∙◌, inl, inr, YieldsList, YieldsList-from_slice, YieldsList-from_copied, Startup, IsOurs, shown, shown_pairs, Wants, Int32, minor_code, minor_of, parts, parts_cause, bytes_of, cause, IsNamed, IsStartup, is_startup}
use Rattle.std.proofs.iter.Yields.{copies, fronts}
use Rattle.pgp_stream.proofs.Additions.{same_phase, first_added, first_stays, left, still}
use Rattle.pgp_stream.proofs.StartupPairs.{minor_ours, received_all, received_so_far, startup_wants, front_refused}
use Rattle.pgp_stream.proofs.client_stream.ClientStream.startup_message_version.Goals as goal

pub returns-in-Ok : goal.returns-in-Ok
returns-in-Ok g c =
    let all = c.args.parameters.now in
    let road : YieldsList (copies fronts) (λ x. x) c.copied.result all = YieldsList-from_copied (YieldsList-from_slice all cc) in
    let e = c.in-Ok.ensures in
    let received = e.whole.1 in
    let xs = received_all (copies fronts) received.iterator all (subst (λ s. YieldsList (copies fronts) (λ x. x) s all) (sym received.from) road) e.whole.0 received.left received.received in
    let is : e.message ≡ Startup (minor_of c.args.version) (map shown all) = e.whole.2 ∙ ap (λ l. Startup (minor_of c.args.version) (map shown l)) xs in
    rw (← c.self.view_is) (e.message, is, first_added g.B.Buffer.held c.self.inside.buf c.startup_message_version.new.buf c.self.inside.opened c.self.invariant e.message (ap is_startup e.whole.2) (same_phase c.self.view_is c.requires.opening) (subst IsStartup (sym is) tt) (subst IsNamed (sym is) c.requires.named) (subst IsOurs (sym is) (minor_ours c.args.version)) e.in_range e.none e.appended)

pub invariant_of-self : goal.invariant_of-self
invariant_of-self g c =
    let all = c.args.parameters.now in
    let road : YieldsList (copies fronts) (λ x. x) c.copied.result all = YieldsList-from_copied (YieldsList-from_slice all cc) in
    let e = c.in-Ok.ensures in
    let received = e.whole.1 in
    let xs = received_all (copies fronts) received.iterator all (subst (λ s. YieldsList (copies fronts) (λ x. x) s all) (sym received.from) road) e.whole.0 received.left received.received in
    let is : e.message ≡ Startup (minor_of c.args.version) (map shown all) = e.whole.2 ∙ ap (λ l. Startup (minor_of c.args.version) (map shown l)) xs in
    first_stays g.B.Buffer.held c.self.inside.buf c.startup_message_version.new.buf c.self.inside.opened c.self.invariant e.message (ap is_startup e.whole.2) (same_phase c.self.view_is c.requires.opening) (subst IsStartup (sym is) tt) (subst IsNamed (sym is) c.requires.named) (subst IsOurs (sym is) (minor_ours c.args.version)) e.in_range e.none e.appended

pub returns-in-Err : goal.returns-in-Err
returns-in-Err g c =
    let all = c.args.parameters.now in
    let e = c.in-Err.e in
    let road : YieldsList (copies fronts) (λ x. x) c.copied.result all = YieldsList-from_copied (YieldsList-from_slice all cc) in
    rw (← c.self.view_is) (
      elim c.in-Err.ensures.0 [
        | inl k ↦
            (let so_far = k.1 in
            let front = received_so_far _ (copies fronts) c.copied.result all (λ s from. subst (λ s. YieldsList (copies fronts) (λ x. x) s all) (sym from) road) so_far.0 shown_pairs so_far.1 in
            elim k.2 [
              | inl memory ↦ inl (memory.0, startup_wants (minor_of c.args.version) all so_far.0 (g.B.Buffer.held c.self.inside.buf) front (subst (λ m. Wants g.B.Buffer.Lacks (g.B.Buffer.held c.self.inside.buf) (length (bytes_of m))) so_far.2 memory.1))
              | inr cause ↦ inr (front_refused (minor_of c.args.version) all front.0 e (ap (λ l. parts_cause (Int32 (minor_code (minor_of c.args.version)) ∷ shown_pairs l ∷ [])) (sym front.1) ∙ (ap (λ m. parts_cause (parts m)) (sym so_far.2) ∙ cause)))
            ])
        | inr r ↦
            (let received = r.1.1 in
            let xs = received_all (copies fronts) received.iterator all (subst (λ s. YieldsList (copies fronts) (λ x. x) s all) (sym received.from) road) r.1.0 received.left received.received in
            inr (ap (λ l. cause (Startup (minor_of c.args.version) (map shown l))) (sym xs) ∙ ap cause (sym r.1.2) ∙ r.3))
      ],
      left g.B.Buffer.held c.self.inside.buf c.startup_message_version.new.buf c.self.inside.opened c.self.invariant c.in-Err.ensures.1,
    )

pub invariant_of-self-in-Err : goal.invariant_of-self-in-Err
invariant_of-self-in-Err g c = still g.B.Buffer.held c.self.inside.buf c.startup_message_version.new.buf c.self.inside.opened c.self.invariant c.in-Err.ensures.1
