use Rattle.pgp_frontend_read.proofs.Common.{◌≡◌, ◌++◌, take, rules, ap, ◌∙◌, Err, take-append-drop, Opens}
use Rattle.pgp_frontend_read.proofs.Holdings.{front_size, front_refused}
use Rattle.pgp_frontend_read.proofs.client_parser.take_off.Goals as goal

pub phase_behind-requires : goal.phase_behind-requires
phase_behind-requires c = front_size c.args.opened.now c.args.piece.now.now c.split_at.result.0.now c.args.size c.requires.size c.requires.all c.split_at.ensures.front

pub returns-in-Err : goal.returns-in-Err
returns-in-Err c =
    let piece = c.args.piece.now.now in
    let front = c.split_at.result.0.now in
    let rest = c.split_at.result.1.now in
    let whole : front ++ rest ≡ piece = ap (λ l. l ++ rest) c.split_at.ensures.front ∙ ap (λ l. take c.args.size piece ++ l) c.split_at.ensures.back ∙ take-append-drop c.args.size piece in
    let opens : Opens c.args.opened.now front (Err c.in-Err.e) = search rules in
    front_refused c.args.opened.now piece front rest c.in-Err.e whole opens
