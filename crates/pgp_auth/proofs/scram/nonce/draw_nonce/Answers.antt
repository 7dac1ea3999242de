use Rattle.pgp_auth.proofs.Common.{◌≡◌, ◌<◌, length, take, refl, ◌∙◌, arith, length-set, take_more_set, take_all, length-take-le, drawn_chars}
use Rattle.pgp_auth.proofs.Draws.{drawn_next, no_char, one_more}
use Rattle.pgp_auth.proofs.scram.nonce.draw_nonce.Goals as goal

pub loop-i-init : goal.loop-i-init
unfolding drawn_chars
loop-i-init g c = record { drawn = refl; len = refl; chars = no_char }

pub loop-i-preserved : goal.loop-i-preserved
loop-i-preserved g c =
    let i = c.loop-i.i in
    let lt : i < length c.loop-i.nonce = omega arith in
    let front = length-take-le i c.loop-i.nonce (omega arith) in
    let put = take_more_set c.loop-i.nonce i c.draw_char.result lt in
    let next = drawn_next i (take i c.loop-i.nonce) _ _ _ c.draw_char.result c.loop-i.invariant.drawn c.draw_char.ensures.drawn in
    let more = one_more (take i c.loop-i.nonce) c.draw_char.result i c.loop-i.invariant.chars c.draw_char.ensures.admitted front in
    record { drawn = rw put next; len = length-set c.loop-i.nonce i c.draw_char.result ∙ c.loop-i.invariant.len; chars = rw put more.0 }

pub returns-clause-drawn : goal.returns-clause-drawn
returns-clause-drawn g c =
    let whole : take c.loop-i.i c.loop-i.nonce ≡ c.loop-i.nonce = take_all c.loop-i.i c.loop-i.nonce (omega arith) in
    let all : c.loop-i.i ≡ 24 = omega arith in
    rw (whole, all) at c.loop-i.invariant.drawn

pub returns-clause-nonce : goal.returns-clause-nonce
returns-clause-nonce g c =
    let whole : take c.loop-i.i c.loop-i.nonce ≡ c.loop-i.nonce = take_all c.loop-i.i c.loop-i.nonce (omega arith) in
    let some_ : 0 < length c.loop-i.nonce = omega arith in
    (some_, rw whole at c.loop-i.invariant.chars)
