-- What a call's answer that is handed on says: by cases on it, from what the call said.
use Rattle.for_c.proofs.Common.{Result, Ok, Err, OnOk, IfErr, Error}

pub ok_then : {A : Type 0} (P Q : Type 0) (r : Result A Error) → OnOk r P → (P → Q) → OnOk r Q
ok_then P Q (Ok x) p f = f p
ok_then P Q (Err e) p f = tt

pub err_then : {A : Type 0} (P Q : Error → Type 0) (r : Result A Error) → IfErr r P → ((e : Error) → P e → Q e) → IfErr r Q
err_then P Q (Ok x) p f = tt
err_then P Q (Err e) p f = f e p
