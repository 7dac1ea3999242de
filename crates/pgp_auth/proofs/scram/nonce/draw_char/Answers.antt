use Rattle.pgp_auth.proofs.Draws.{char_drawn, comma_drawn}
use Rattle.pgp_auth.proofs.scram.nonce.draw_char.Goals as goal

pub returns-then-c-eq44-clause-drawn : goal.returns-then-c-eq44-clause-drawn
returns-then-c-eq44-clause-drawn g c = comma_drawn _ _ _ _ c.random_range-c.ensures.drawn c.if-c-eq44.true

pub returns-else-c-eq44-clause-drawn : goal.returns-else-c-eq44-clause-drawn
returns-else-c-eq44-clause-drawn g c = char_drawn _ _ _ _ c.random_range-c.ensures.drawn c.if-c-eq44.false
