-- Private: the bytes that a server's final text shows, wherever the code has them.
use Rattle.std.specs.Prelude.{ℕ, List}
use Rattle.pgp_auth.specs.declared.scram.verify.Shown.{Shown}
use Rattle.pgp_auth.specs.declared.scram.verify.Shown.TheVariants.{Few, Many}

abbrev pub shown_bytes : {A : Type 0} → Shown A → List ℕ
shown_bytes (Few bytes) = bytes.now
shown_bytes (Many bytes) = bytes.items
