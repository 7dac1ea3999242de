use Rattle.pgp_values.proofs.Common.{◌≡◌, ◌-◌, suc, subst, take, length, arith, IsBlank, NotEnd}
use Rattle.pgp_values.proofs.ScanLemmas.{end_take}
use Rattle.pgp_values.proofs.scan.trimmed_back.Goals as goal

pub returns-then-not-is_blank-clause-stops : goal.returns-then-not-is_blank-clause-stops
returns-then-not-is_blank-clause-stops c =
    let bytes = c.args.bytes.now in
    let k = length bytes - c.loop-i.i - 1 in
    let at : suc k ≡ length bytes - c.loop-i.i = omega arith in
    rw c.split_at.ensures.front (subst (λ n. NotEnd IsBlank (take n bytes)) at (end_take IsBlank bytes k (omega arith) (c.is_blank.ensures.no c.if-not-is_blank.true)))
