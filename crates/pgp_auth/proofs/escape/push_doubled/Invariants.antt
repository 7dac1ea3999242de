use Rattle.pgp_auth.proofs.Common.{◌≡◌, ◌++◌, length, string_bytes, doubled}
use Rattle.pgp_auth.proofs.escape.push_doubled.Given as goal
use denote.Shadow.{shadow}
use denote.Text.{Utf8}

abbrev pub invariant-runs : goal.invariant-runs
invariant-runs g l = record {
  text : shadow (Utf8 l.rest);
  written : string_bytes l.out ++ doubled l.form.quote l.form.slashes l.rest ≡ string_bytes l.fn.out ++ doubled l.form.quote l.form.slashes l.input;
}

abbrev pub decreases-runs : goal.decreases-runs
decreases-runs g l = length l.rest
