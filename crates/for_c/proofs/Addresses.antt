-- The addresses that bytes are.
use Rattle.for_c.proofs.Common.{◌≡◌, ℕ, ◌+◌, ◌-◌, ◌*◌, ◌≤◌, List, length, Ok, arith, refl, ap, ◌∙◌, sym, subst, ipv6_segments, segments_of, octets_of, IsV6And, IsBytes, Inet, InetReads, IsAddress, IsAddressed, IsInetOf}
use Rattle.std.specs.declared.net.ip_addr.IpAddr.{IpAddr}
use Rattle.std.specs.declared.net.ip_addr.IpAddr.TheVariants.{V4, V6}
use Rattle.pgp_types.proofs.InetLemmas.{octets_of-segments_of, length-segments_of, segments_below}

pub is_v6 : (bytes : List ℕ) (addr : IpAddr) → length bytes ≡ 16 → IsBytes bytes → IsV6And addr (λ ip. ipv6_segments ip ≡ segments_of bytes) → IsAddress bytes addr
is_v6 bytes (V4 ip) size each is = absurd is
is_v6 bytes (V6 ip) size each is = record {
  octets = ap octets_of is ∙ octets_of-segments_of 8 bytes size each;
  valid = (ap length is ∙ length-segments_of 8 bytes size, λ k. rw is (segments_below bytes each k));
  size = sym size;
}

pub inet_of : (bytes : List ℕ) (netmask : ℕ) (addr : IpAddr) → IsAddress bytes addr → netmask ≤ 8 * length bytes → IsInetOf bytes netmask (record { addr = addr; netmask = netmask })
inet_of bytes netmask addr a few = record { is = (a.valid, subst (λ n. netmask ≤ 8 * n) (sym a.size) few); address = a.octets; same = refl }

pub addressed_by : (bytes : List ℕ) (netmask : ℕ) (addr : IpAddr) → IsAddress bytes addr → IsAddressed bytes netmask (record { addr = addr; netmask = netmask })
addressed_by bytes netmask addr a = record { valid = a.valid; address = a.octets; same = refl }

-- four bytes stand before the address
pub inet_behind : (bytes : List ℕ) (v : Inet) (len : ℕ) → InetReads bytes (Ok v) → len ≡ length bytes - 4 → 4 + len ≤ length bytes
inet_behind bytes v len (is, (cidr, whole)) cut = omega (arith, ap length whole, cut)
