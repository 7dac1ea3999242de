use Rattle.pgp_auth.proofs.Common.{◌≡◌, length, take, AllPass, is_nonce_char, drawn_chars}
use Rattle.pgp_auth.proofs.scram.nonce.draw_nonce.Given as goal

abbrev pub invariant-loop-i : goal.invariant-loop-i
invariant-loop-i g l = record {
  drawn : (take l.i l.nonce, g.R.Rng.stream l.rng) ≡ drawn_chars l.i (g.R.Rng.stream l.fn.rng);
  len : length l.nonce ≡ 24;
  chars : AllPass is_nonce_char (take l.i l.nonce);
}
