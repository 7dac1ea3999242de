use Rattle.for_c.proofs.Common.{rules, ◌≡◌, subst, arith, IsV6And, ipv6_segments, segments_of, IsBytes}
use Rattle.for_c.proofs.Addresses.{is_v6}
use Rattle.for_c.proofs.inet.address_of.Goals as goal

pub returns-in-Ok-try_from-clause-ok : goal.returns-in-Ok-try_from-clause-ok
returns-in-Ok-try_from-clause-ok c =
    let each : IsBytes c.args.address.now = λ i. omega (arith, c.type_inv.address i) in
    let k = c.in-Ok-try_from.ensures in
    let same : c.in-Ok-try_from.octets ≡ c.args.address.now = search (rules, k) in
    is_v6 c.args.address.now c.from-in-Ok-try_from.result (search rules) each (subst (λ l. IsV6And c.from-in-Ok-try_from.result (λ ip. ipv6_segments ip ≡ segments_of l)) same c.from-in-Ok-try_from.ensures)
