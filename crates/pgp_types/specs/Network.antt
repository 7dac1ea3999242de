-- Addresses of networks, and universal identifiers.
-- PostgreSQL manual, "Network Address Types" and "UUID Type".
use Rattle.std.specs.Prelude.{◌≡◌, ◌≢◌, ℕ, ◌*◌, ◌<◌, ◌≤◌, ◌⊎◌, List, ◌∷◌, length, Result, Ok, Err}
use Rattle.std.specs.declared.net.ip_addr.IpAddr.{IpAddr}
use Rattle.std.specs.declared.net.ip_addr.IpAddr.TheVariants.{V4, V6}
use Rattle.std.specs.Net.Addr.{ipv4_octets, ipv6_octets, MatchIp, IsIpv4Addr, IsIpv6Addr}
use Rattle.pgp_base.specs.declared.error.Error.{Error}
use Rattle.pgp_base.specs.declared.error.Error.TheVariants.{UnexpectedEof, InvalidFamily, InvalidNetmask, InvalidAddressLength}
use Rattle.pgp_types.specs.Format.{Plain, FixedRefused, plain, whole}

abbrev pub macaddr : Plain (List ℕ)
macaddr = whole 6

abbrev pub uuid : Plain (List ℕ)
uuid = whole 16

-- A host's address, and how many of its first bits name the network.
pub record Inet : Type 0 where
  pub addr : IpAddr
  pub netmask : ℕ

-- The families of addresses: the number of each, and how many octets its addresses have.
pub data Family : Type 0 where
  ipv4 : Family
  ipv6 : Family

abbrev pub family_number : Family → ℕ
family_number ipv4 = 2
family_number ipv6 = 3

abbrev pub address_size : Family → ℕ
address_size ipv4 = 4
address_size ipv6 = 16

abbrev pub family_of : IpAddr → Family
family_of (V4 a) = ipv4
family_of (V6 a) = ipv6

abbrev pub octets : IpAddr → List ℕ
octets (V4 a) = ipv4_octets a
octets (V6 a) = ipv6_octets a

-- The parts of an inet: three numbers, the size that is announced for the address, and what stands after them.
pub record Parts : Type 0 where
  pub family : ℕ
  pub netmask : ℕ
  pub cidr : ℕ
  pub size : ℕ
  pub address : List ℕ

abbrev pub joined : Parts → List ℕ
joined p = p.family ∷ p.netmask ∷ p.cidr ∷ p.size ∷ p.address

-- the parts of a value, under any value of the flag that marks a cidr
abbrev pub parts_of : ℕ → Inet → Parts
parts_of cidr v = record {
  family = family_number (family_of v.addr);
  netmask = v.netmask;
  cidr = cidr;
  size = address_size (family_of v.addr);
  address = octets v.addr;
}

-- the netmask has no more bits than the address
abbrev pub IsInet : Inet → Type 0
IsInet v = MatchIp v.addr IsIpv4Addr IsIpv6Addr × (v.netmask ≤ 8 * address_size (family_of v.addr))

-- Why what stands after a family's number is rejected, by the size of the family's addresses: first the netmask,
-- then the size that is announced, then the address.
abbrev pub AddressRefused : (size netmask announced : ℕ) → List ℕ → Error → Type 0
AddressRefused size netmask announced address InvalidNetmask = 8 * size < netmask
AddressRefused size netmask announced address InvalidAddressLength = (netmask ≤ 8 * size) × (announced ≢ size)
AddressRefused size netmask announced address e = (netmask ≤ 8 * size) × (announced ≡ size) × FixedRefused size address e

-- Before all that, the number of no family is rejected.
abbrev pub PartsRefused : Parts → Error → Type 0
PartsRefused p InvalidFamily = (f : Family) → p.family ≢ family_number f
PartsRefused p e = (f : Family) × (p.family ≡ family_number f) × AddressRefused (address_size f) p.netmask p.size p.address e

-- Bytes are read as a value whatever the flag is, and rejected where the four numbers aren't there, or as their parts
-- are.
abbrev pub InetReads : List ℕ → Result Inet Error → Type 0
InetReads bytes (Ok v) = IsInet v × ((cidr : ℕ) × (bytes ≡ joined (parts_of cidr v)))
InetReads bytes (Err e) = ((length bytes < 4) × (e ≡ UnexpectedEof)) ⊎ ((p : Parts) × (bytes ≡ joined p) × PartsRefused p e)

abbrev pub inet : Plain Inet
inet = plain IsInet (λ v. joined (parts_of 0 v)) InetReads
