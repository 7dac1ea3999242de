use Rattle.pgp_base.proofs.Common.{◌≡◌, ◌+◌, List, ℕ, Some, suc, take, drop, arith, refl, add-one, eqb-true, eq-eqb, string_at}
use Rattle.pgp_base.proofs.Strings.{string_found, string_missing}
use Rattle.pgp_base.proofs.reading.string_at.Goals as goal

found : (bytes rest : List ℕ) (k : ℕ) → rest ≡ drop (k + 1) bytes → string_at bytes ≡ Some (take k bytes, drop (suc k) bytes) → string_at bytes ≡ Some (take k bytes, rest)
found bytes rest k is e = rw (is, add-one) e

pub returns-in-Some : goal.returns-in-Some
returns-in-Some c =
    let g = c.in-Some.ensures in
    found c.args.bytes.now c.split_at.result.1.now c.in-Some.end c.split_at.ensures.back
    (string_found c.args.bytes.now c.in-Some.end g.0.high (eqb-true _ _ g.1) (λ j l e. g.0.before j (omega arith) l (eq-eqb _ _ e)))

pub returns-in-None : goal.returns-in-None
returns-in-None c = (refl, string_missing c.args.bytes.now (λ j l e. c.in-None.ensures j (omega arith) l (eq-eqb _ _ e)))
