use Rattle.pgp_frontend_read.proofs.Common.{◌≡◌, List, ℕ, length, take, true, false, Ok, Err, rules, refl, ap, ◌∙◌, subst, Holds, Opens}
use Rattle.pgp_frontend_read.proofs.Holdings.{held_size, completes_none, completes_some, completes_refused}
use Rattle.pgp_frontend_read.proofs.client_parser.complete.Goals as goal

pub returns-then-not-branch : goal.returns-then-not-branch
returns-then-not-branch g c =
    let held : List ℕ = c.args.held.now.items in
    let piece : List ℕ = c.args.piece.now.now in
    let new : List ℕ = c.hold.new.held.items in
    let rest : List ℕ = c.hold.new.piece.now in
    let holds : Holds g.A.Memory.Lacks c.args.size held piece (Ok false) new rest = subst (λ b. Holds g.A.Memory.Lacks c.args.size held piece (Ok b) new rest) c.if-not-branch.true c.in_ok-hold.ensures in
    completes_none g.A.Memory.Lacks c.args.opened held piece c.args.size c.requires.wanted new rest holds

pub phase_behind-requires : goal.phase_behind-requires
phase_behind-requires g c =
    let held : List ℕ = c.args.held.now.items in
    let piece : List ℕ = c.args.piece.now.now in
    let new : List ℕ = c.hold.new.held.items in
    let rest : List ℕ = c.hold.new.piece.now in
    let holds : Holds g.A.Memory.Lacks c.args.size held piece (Ok true) new rest = subst (λ b. Holds g.A.Memory.Lacks c.args.size held piece (Ok b) new rest) c.if-not-branch.false c.in_ok-hold.ensures in
    rw c.as_slice.ensures.value (held_size g.A.Memory.Lacks c.args.opened held piece c.args.size c.requires.wanted new rest holds)

pub returns-in-Ok : goal.returns-in-Ok
returns-in-Ok g c =
    let held : List ℕ = c.args.held.now.items in
    let piece : List ℕ = c.args.piece.now.now in
    let new : List ℕ = c.hold.new.held.items in
    let rest : List ℕ = c.hold.new.piece.now in
    let holds : Holds g.A.Memory.Lacks c.args.size held piece (Ok true) new rest = subst (λ b. Holds g.A.Memory.Lacks c.args.size held piece (Ok b) new rest) c.if-not-branch.false c.in_ok-hold.ensures in
    let opens : Opens c.args.opened new (Ok c.in-Ok.now) = subst (λ l. Opens c.args.opened l (Ok c.in-Ok.now)) c.as_slice.ensures.value c.in-Ok.ensures in
    completes_some g.A.Memory.Lacks c.args.opened held piece c.args.size c.requires.wanted new rest holds c.in-Ok.now opens

pub returns-in-Err : goal.returns-in-Err
returns-in-Err g c =
    let held : List ℕ = c.args.held.now.items in
    let piece : List ℕ = c.args.piece.now.now in
    let new : List ℕ = c.hold.new.held.items in
    let rest : List ℕ = c.hold.new.piece.now in
    let holds : Holds g.A.Memory.Lacks c.args.size held piece (Ok true) new rest = subst (λ b. Holds g.A.Memory.Lacks c.args.size held piece (Ok b) new rest) c.if-not-branch.false c.in_ok-hold.ensures in
    let opens : Opens c.args.opened new (Err c.in-Err.e) = subst (λ l. Opens c.args.opened l (Err c.in-Err.e)) c.as_slice.ensures.value c.in-Err.ensures in
    let len : c.len-len.result ≡ length held = search rules in
    let back : c.truncate.new.self.items ≡ take (length held) new = c.truncate.ensures.items ∙ ap (λ n. take n new) len in
    completes_refused g.A.Memory.Lacks c.args.opened held piece c.args.size c.requires.wanted new rest holds c.in-Err.e c.truncate.new.self.items piece c.requires.fits back refl opens
