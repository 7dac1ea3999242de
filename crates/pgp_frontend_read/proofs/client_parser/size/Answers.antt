use Rattle.pgp_frontend_read.proofs.Common.{◌≤◌, ◌<◌, ◌++◌, ℕ, List, length, refl, arith, inl, inr, length-append, IsBytes, header}
use Rattle.pgp_frontend_read.proofs.Fronts.{length_there, fault_there}
use Rattle.pgp_frontend_read.proofs.Headers.{short_within, low_within}
use Rattle.pgp_frontend_read.proofs.Spelled.{bytes_joined}
use Rattle.pgp_frontend_read.proofs.client_parser.size.Goals as goal

pub returns-then-saturating_add-header : goal.returns-then-saturating_add-header
returns-then-saturating_add-header c =
    let all : List ℕ = c.args.held.now ++ c.args.piece.now in
    let short : length all < header c.args.opened = omega (arith, c.if-saturating_add-header.true, length-append c.args.held.now c.args.piece.now) in
    (short_within c.args.limits c.args.opened all short, short)

pub returns-then-len-of : goal.returns-then-len-of
returns-then-len-of c =
    let all : List ℕ = c.args.held.now ++ c.args.piece.now in
    let len = c.length_there-len.result in
    let each : IsBytes all = bytes_joined c.args.held.now c.args.piece.now (λ i. omega (arith, c.type_inv.held i)) (λ i. omega (arith, c.type_inv.piece i)) in
    let long : header c.args.opened ≤ length all = omega (arith, c.if-saturating_add-header.false, length-append c.args.held.now c.args.piece.now) in
    inl (len, refl, record { begins = length_there c.args.opened all len each long c.length_there-len.ensures; over = omega (arith, c.of.ensures, c.if-len-of.true) })

pub returns-then-len-least : goal.returns-then-len-least
returns-then-len-least c =
    let all : List ℕ = c.args.held.now ++ c.args.piece.now in
    let len = c.length_there-len.result in
    let each : IsBytes all = bytes_joined c.args.held.now c.args.piece.now (λ i. omega (arith, c.type_inv.held i)) (λ i. omega (arith, c.type_inv.piece i)) in
    let long : header c.args.opened ≤ length all = omega (arith, c.if-saturating_add-header.false, length-append c.args.held.now c.args.piece.now) in
    let begins = length_there c.args.opened all len each long c.length_there-len.ensures in
    inr (refl, low_within c.args.limits c.args.opened all len begins (omega (arith, c.of.ensures, c.if-len-of.false)), fault_there c.args.opened all len begins (inl (omega (arith, c.least.ensures, c.if-len-least.true))))

pub returns-then-len-gt-MAX_LEN : goal.returns-then-len-gt-MAX_LEN
returns-then-len-gt-MAX_LEN c =
    let all : List ℕ = c.args.held.now ++ c.args.piece.now in
    let len = c.length_there-len.result in
    let each : IsBytes all = bytes_joined c.args.held.now c.args.piece.now (λ i. omega (arith, c.type_inv.held i)) (λ i. omega (arith, c.type_inv.piece i)) in
    let long : header c.args.opened ≤ length all = omega (arith, c.if-saturating_add-header.false, length-append c.args.held.now c.args.piece.now) in
    let begins = length_there c.args.opened all len each long c.length_there-len.ensures in
    inr (refl, low_within c.args.limits c.args.opened all len begins (omega (arith, c.of.ensures, c.if-len-of.false)), fault_there c.args.opened all len begins (inr (omega (arith, c.if-len-gt-MAX_LEN.true))))

pub returns : goal.returns
returns c =
    let all : List ℕ = c.args.held.now ++ c.args.piece.now in
    let len = c.length_there-len.result in
    let each : IsBytes all = bytes_joined c.args.held.now c.args.piece.now (λ i. omega (arith, c.type_inv.held i)) (λ i. omega (arith, c.type_inv.piece i)) in
    let long : header c.args.opened ≤ length all = omega (arith, c.if-saturating_add-header.false, length-append c.args.held.now c.args.piece.now) in
    let begins = length_there c.args.opened all len each long c.length_there-len.ensures in (
      low_within c.args.limits c.args.opened all len begins (omega (arith, c.of.ensures, c.if-len-of.false)),
      record {
        len = len;
        begins = begins;
        enough = omega (arith, c.least.ensures, c.if-len-least.false);
        fits = omega (arith, c.if-len-gt-MAX_LEN.false);
        all = omega (arith, c.place.ensures);
      },
    )
