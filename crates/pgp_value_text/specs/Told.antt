-- Private: what the answer of a writer of days and times says of whether a text was added.
use Rattle.std.specs.Prelude.{◌≡◌, Bool, true, false, Result, Ok, Err, IsErr}
use Rattle.pgp_value_text.specs.declared.error.TextError.{TextError}
use Rattle.pgp_value_text.specs.declared.error.TextError.TheVariants.{OutOfMemory, OutOfRange}

abbrev pub Told : {E : Type 0} → Result (Unit {0}) TextError → Result Bool E → Type 0
Told (Ok done) told = told ≡ Ok true
Told (Err OutOfRange) told = told ≡ Ok false
Told (Err OutOfMemory) told = IsErr told
