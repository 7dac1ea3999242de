-- A password that no mapping changes.
use Rattle.pgwire_engines.proofs.Common.{◌≡◌, ℕ, Bool, true, false, cond, List, None, refl}
use Rattle.pgp_auth.specs.Prepared.{is_asked, prepared}

same : (b : Bool) (password : List ℕ) → cond b password password ≡ password
same true password = refl
same false password = refl

pub unmapped : (password : List ℕ) → prepared (λ text. None) password ≡ password
unfolding prepared
unmapped password = same (is_asked password) password
