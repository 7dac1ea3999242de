use Rattle.pgp_frontend_read.proofs.Common.{◌≡◌, [], ◌++◌, List, ℕ, true, false, Option, Some, None, Result, Ok, Err, rules, refl, sym, ap, subst, ◌∙◌, inr, Waiting, IsWithin, Parses, Fits, IsWanted, Sizes, StandsInPiece, TakesOff, Completes, ClientFrame, ParserError}
use Rattle.pgp_frontend_read.proofs.Holdings.{waiting, refused, size_refused, piece_taken, piece_refused, held_refused, held_waits, held_handed, partial_fits, whole_of}
use Rattle.pgp_frontend_read.proofs.Steps.{left}
use Rattle.pgp_frontend_read.proofs.client_parser.ClientParser.next.Goals as goal

pub returns-in_err-size : goal.returns-in_err-size
returns-in_err-size g c =
    let held : List ℕ = c.drop_read.new.held.items in
    let piece : List ℕ = c.args.piece.now.now in
    let limits = c.self.inside.limits in
    let opened = c.self.inside.opened in
    let lacks = g.A.Memory.Lacks in
    let old : waiting held opened limits ≡ c.args.self.now = ap (λ l. waiting l opened limits) c.drop_read.ensures ∙ c.self.view_is in
    let slice : c.as_slice.result.now ≡ held = c.as_slice.ensures.value in
    let e = c.in_err-size.field-0.0 in
    let sizes : Sizes limits opened (held ++ piece) (Err e) = subst (λ l. Sizes limits opened (l ++ piece) (Err e)) slice c.in_err-size.ensures in
    let all = size_refused lacks limits opened held piece e sizes in
    let is : c.from_residual.result ≡ Err e = refused c.from_residual.result e c.from_residual.ensures.1 in
    let reported : Parses lacks c.args.self.now piece c.from_residual.result (waiting held opened limits) piece = subst (λ (r : Result (Option ClientFrame) ParserError). Parses lacks c.args.self.now piece r (waiting held opened limits) piece) (sym is) (subst (λ (w : Waiting). Parses lacks w piece (Err e) (waiting held opened limits) piece) old all) in
    ((refl, (λ x. tt), reported), record { whole = whole_of lacks c.args.self.now piece c.from_residual.result (waiting held opened limits) piece reported; parses = tt })

pub returns-in_err-frame : goal.returns-in_err-frame
returns-in_err-frame g c =
    let held : List ℕ = c.drop_read.new.held.items in
    let piece : List ℕ = c.args.piece.now.now in
    let limits = c.self.inside.limits in
    let opened = c.self.inside.opened in
    let lacks = g.A.Memory.Lacks in
    let old : waiting held opened limits ≡ c.args.self.now = ap (λ l. waiting l opened limits) c.drop_read.ensures ∙ c.self.view_is in
    let slice : c.as_slice.result.now ≡ held = c.as_slice.ensures.value in
    let sizes : IsWithin limits (left (held ++ piece) opened) × IsWanted opened (held ++ piece) c.in_ok-size.size =
    subst (λ l. IsWithin limits (left (l ++ piece) opened) × IsWanted opened (l ++ piece) c.in_ok-size.size) slice c.in_ok-size.ensures in
    let there : StandsInPiece opened held piece c.in_ok-size.size true = subst (λ b. StandsInPiece opened held piece c.in_ok-size.size b) c.if-is_in_piece.true (subst (λ l. StandsInPiece opened l piece c.in_ok-size.size c.is_in_piece.result) c.as_slice-2.ensures.value c.is_in_piece.ensures) in
    let within : IsWithin limits (left piece opened) = subst (λ l. IsWithin limits (left (l ++ piece) opened)) there.0 sizes.0 in
    let now = c.take_off.new.opened in
    let rest : List ℕ = c.take_off.new.piece.now in
    let e = c.in_err-frame.field-0.0 in
    let off : TakesOff opened piece (Err e) now rest = c.in_err-frame.ensures in
    let alone = piece_refused lacks limits opened piece rest e now within off in
    let all : Parses lacks (waiting held opened limits) piece (Err e) (waiting held now limits) rest = rw there.0 alone in
    let is : c.from_residual-in_err-frame.result ≡ Err e = refused c.from_residual-in_err-frame.result e c.from_residual-in_err-frame.ensures.1 in
    let reported : Parses lacks c.args.self.now piece c.from_residual-in_err-frame.result (waiting held now limits) rest = subst (λ (r : Result (Option ClientFrame) ParserError). Parses lacks c.args.self.now piece r (waiting held now limits) rest) (sym is) (subst (λ (w : Waiting). Parses lacks w piece (Err e) (waiting held now limits) rest) old all) in
    ((refl, (λ x. tt), reported), record { whole = whole_of lacks c.args.self.now piece c.from_residual-in_err-frame.result (waiting held now limits) rest reported; parses = tt })

pub returns-then-is_in_piece : goal.returns-then-is_in_piece
returns-then-is_in_piece g c =
    let held : List ℕ = c.drop_read.new.held.items in
    let piece : List ℕ = c.args.piece.now.now in
    let limits = c.self.inside.limits in
    let opened = c.self.inside.opened in
    let lacks = g.A.Memory.Lacks in
    let old : waiting held opened limits ≡ c.args.self.now = ap (λ l. waiting l opened limits) c.drop_read.ensures ∙ c.self.view_is in
    let slice : c.as_slice.result.now ≡ held = c.as_slice.ensures.value in
    let sizes : IsWithin limits (left (held ++ piece) opened) × IsWanted opened (held ++ piece) c.in_ok-size.size =
    subst (λ l. IsWithin limits (left (l ++ piece) opened) × IsWanted opened (l ++ piece) c.in_ok-size.size) slice c.in_ok-size.ensures in
    let there : StandsInPiece opened held piece c.in_ok-size.size true = subst (λ b. StandsInPiece opened held piece c.in_ok-size.size b) c.if-is_in_piece.true (subst (λ l. StandsInPiece opened l piece c.in_ok-size.size c.is_in_piece.result) c.as_slice-2.ensures.value c.is_in_piece.ensures) in
    let within : IsWithin limits (left piece opened) = subst (λ l. IsWithin limits (left (l ++ piece) opened)) there.0 sizes.0 in
    let now = c.take_off.new.opened in
    let rest : List ℕ = c.take_off.new.piece.now in
    let frame = c.in_ok-frame.frame in
    let off : TakesOff opened piece (Ok frame) now rest = c.in_ok-frame.ensures in
    let alone = piece_taken lacks limits opened piece rest frame now within off in
    let all : Parses lacks (waiting held opened limits) piece (Ok (Some frame)) (waiting held now limits) rest = rw there.0 alone in
    let reported : Parses lacks c.args.self.now piece (Ok (Some frame)) (waiting held now limits) rest = subst (λ (w : Waiting). Parses lacks w piece (Ok (Some frame)) (waiting held now limits) rest) old all in
    ((refl, (λ x. tt), reported), record { whole = whole_of lacks c.args.self.now piece (Ok (Some frame)) (waiting held now limits) rest reported; parses = tt })

pub returns-in-Err : goal.returns-in-Err
returns-in-Err g c =
    let held : List ℕ = c.drop_read.new.held.items in
    let piece : List ℕ = c.args.piece.now.now in
    let limits = c.self.inside.limits in
    let opened = c.self.inside.opened in
    let lacks = g.A.Memory.Lacks in
    let old : waiting held opened limits ≡ c.args.self.now = ap (λ l. waiting l opened limits) c.drop_read.ensures ∙ c.self.view_is in
    let slice : c.as_slice.result.now ≡ held = c.as_slice.ensures.value in
    let sizes : IsWithin limits (left (held ++ piece) opened) × IsWanted opened (held ++ piece) c.in_ok-size.size =
    subst (λ l. IsWithin limits (left (l ++ piece) opened) × IsWanted opened (l ++ piece) c.in_ok-size.size) slice c.in_ok-size.ensures in
    let cut : StandsInPiece opened held piece c.in_ok-size.size false = subst (λ b. StandsInPiece opened held piece c.in_ok-size.size b) c.if-is_in_piece.false (subst (λ l. StandsInPiece opened l piece c.in_ok-size.size c.is_in_piece.result) c.as_slice-2.ensures.value c.is_in_piece.ensures) in
    let new : List ℕ = c.complete.new.held.items in
    let rest : List ℕ = c.complete.new.piece.now in
    let e = c.in-Err.e in
    let done : Completes lacks opened held piece (Err e) new rest = c.in-Err.ensures in
    let all = held_refused lacks limits opened held piece sizes.0 new rest e cut done in
    let reported : Parses lacks c.args.self.now piece (Err e) (waiting new opened limits) rest = subst (λ (w : Waiting). Parses lacks w piece (Err e) (waiting new opened limits) rest) old all in
    ((refl, (λ x. tt), reported), record { whole = tt; parses = tt })

pub returns-in-Ok-None : goal.returns-in-Ok-None
returns-in-Ok-None g c =
    let held : List ℕ = c.drop_read.new.held.items in
    let piece : List ℕ = c.args.piece.now.now in
    let limits = c.self.inside.limits in
    let opened = c.self.inside.opened in
    let lacks = g.A.Memory.Lacks in
    let old : waiting held opened limits ≡ c.args.self.now = ap (λ l. waiting l opened limits) c.drop_read.ensures ∙ c.self.view_is in
    let slice : c.as_slice.result.now ≡ held = c.as_slice.ensures.value in
    let sizes : IsWithin limits (left (held ++ piece) opened) × IsWanted opened (held ++ piece) c.in_ok-size.size =
    subst (λ l. IsWithin limits (left (l ++ piece) opened) × IsWanted opened (l ++ piece) c.in_ok-size.size) slice c.in_ok-size.ensures in
    let new : List ℕ = c.complete.new.held.items in
    let rest : List ℕ = c.complete.new.piece.now in
    let done : Completes lacks opened held piece (Ok None) new rest = search rules in
    let all = held_waits lacks limits opened held piece sizes.0 new rest done in
    let reported : Parses lacks c.args.self.now piece (Ok None) (waiting new opened limits) rest = subst (λ (w : Waiting). Parses lacks w piece (Ok None) (waiting new opened limits) rest) old all in
    ((refl, (λ x. tt), reported), record { whole = whole_of lacks c.args.self.now piece (Ok None) (waiting new opened limits) rest reported; parses = tt })

pub invariant_of-self-in-Ok-None : goal.invariant_of-self-in-Ok-None
invariant_of-self-in-Ok-None g c =
    let held : List ℕ = c.drop_read.new.held.items in
    let piece : List ℕ = c.args.piece.now.now in
    let opened = c.self.inside.opened in
    let new : List ℕ = c.complete.new.held.items in
    let rest : List ℕ = c.complete.new.piece.now in
    let done : Completes g.A.Memory.Lacks opened held piece (Ok None) new rest = search rules in
    inr (subst (Fits opened) (sym done.0) (partial_fits opened (held ++ piece) done.2))

pub returns-in-Ok-Some : goal.returns-in-Ok-Some
returns-in-Ok-Some g c =
    let held : List ℕ = c.drop_read.new.held.items in
    let piece : List ℕ = c.args.piece.now.now in
    let limits = c.self.inside.limits in
    let opened = c.self.inside.opened in
    let lacks = g.A.Memory.Lacks in
    let old : waiting held opened limits ≡ c.args.self.now = ap (λ l. waiting l opened limits) c.drop_read.ensures ∙ c.self.view_is in
    let slice : c.as_slice.result.now ≡ held = c.as_slice.ensures.value in
    let sizes : IsWithin limits (left (held ++ piece) opened) × IsWanted opened (held ++ piece) c.in_ok-size.size =
    subst (λ l. IsWithin limits (left (l ++ piece) opened) × IsWanted opened (l ++ piece) c.in_ok-size.size) slice c.in_ok-size.ensures in
    let new : List ℕ = c.complete.new.held.items in
    let rest : List ℕ = c.complete.new.piece.now in
    let now = c.in-Ok-Some.now in
    let done : Completes lacks opened held piece (Ok (Some now)) new rest = search rules in
    let frame : ClientFrame = record { bytes = c.as_slice-bytes.result; opened = opened } in
    let all = held_handed lacks limits opened held piece sizes.0 new rest frame now (record { phase = refl; same = c.as_slice-bytes.ensures.value }) done in
    let reported : Parses lacks c.args.self.now piece (Ok (Some frame)) (waiting [] now limits) rest = subst (λ (w : Waiting). Parses lacks w piece (Ok (Some frame)) (waiting [] now limits) rest) old all in
    ((refl, (λ x. tt), reported), record { whole = whole_of lacks c.args.self.now piece (Ok (Some frame)) (waiting [] now limits) rest reported; parses = tt })
