use Rattle.pgp_types.proofs.Common.{rules, ◌≢◌, get_or, arith, ipv4, ipv6}
use Rattle.pgp_types.proofs.InetLemmas.{inet_refused, family_refused, read_v4, read_v6}
use Rattle.pgp_types.proofs.network.inet_from_sql.Goals as goal
use Rattle.pgp_types.proofs.network.inet_from_sql.Goals.{in-2+in_ok-octets-in-2, in-3+in_ok-octets-in-3}

pub returns-in_err-octets-in-2 : goal.returns-in_err-octets-in-2
returns-in_err-octets-in-2 c =
    let refused = inet_refused c.args.buf.now c.in-len4-up.len_at_least ipv4 c.in-2.is _ c.in_err-octets-in-2.ensures.refused in
    search (rules, refused)

pub returns-in_err-octets-in-3 : goal.returns-in_err-octets-in-3
returns-in_err-octets-in-3 c =
    let refused = inet_refused c.args.buf.now c.in-len4-up.len_at_least ipv6 c.in-3.is _ c.in_err-octets-in-3.ensures.refused in
    search (rules, refused)

pub returns-in_default-family : goal.returns-in_default-family
returns-in_default-family c =
    let two : get_or c.args.buf.now 0 0 ≢ 2 = omega arith in
    let three : get_or c.args.buf.now 0 0 ≢ 3 = omega arith in
    family_refused _ c.in-len4-up.len_at_least two three

pub returns : goal.returns
returns c = elim c.match-family.branch [
  | in-2+in_ok-octets-in-2 w ↦
      let read = read_v4 c.args.buf.now c.in-len4-up.len_at_least w.in-2.is _ w.in_ok-octets-in-2.ensures.ok w.from-addr.result w.from-addr.ensures in
      rw w.addr-is read
  | in-3+in_ok-octets-in-3 w ↦
      let read = read_v6 c.args.buf.now c.in-len4-up.len_at_least w.in-3.is _ w.in_ok-octets-in-3.ensures.ok w.from-addr-in-3.result w.from-addr-in-3.ensures in
      rw w.addr-is read
]
