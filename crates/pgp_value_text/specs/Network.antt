-- The texts of addresses of networks and devices.
-- PostgreSQL manual, "Network Address Types"; in the server's source `pg_inet_net_ntop`, `network_out` and `macaddr_out`.
use Rattle.std.specs.Prelude.{ℕ, ◌*◌, ◌/◌, ◌%◌, Bool, true, false, not, ◌==◌, ◌&&◌, bytes_eq, nat_lt, if◌then◌else◌, List, [], ◌∷◌, ◌++◌, take, drop, slice_index, codes, decimal}
use Rattle.std.specs.Fmt.{digits}
use Rattle.std.specs.List.{flat_map}
use Rattle.std.specs.declared.net.ip_addr.IpAddr.{IpAddr}
use Rattle.std.specs.declared.net.ip_addr.IpAddr.TheVariants.{V4, V6}
use Rattle.std.specs.Net.Addr.{ipv4_octets, ipv6_segments, octets_of}
use Rattle.std.specs.Net.Text.{ipv4_text, ipv6_text}
use Rattle.pgp_types.specs.Network.{Inet, address_size, family_of}

-- Whether just the first six segments are 0: then a server shows the others as an IPv4 address, as in `::10.0.0.1`.
abbrev pub ends_dotted : List ℕ → Bool
ends_dotted segments = bytes_eq (take 6 segments) (0 ∷ 0 ∷ 0 ∷ 0 ∷ 0 ∷ 0 ∷ []) && nat_lt 0 (slice_index segments 6)

-- what std shows of it otherwise
abbrev pub v6_text : List ℕ → List ℕ
v6_text segments = if ends_dotted segments then codes "::" ++ ipv4_text (octets_of (drop 6 segments)) else ipv6_text segments

abbrev pub address_text : IpAddr → List ℕ
address_text (V4 a) = ipv4_text (ipv4_octets a)
address_text (V6 a) = v6_text (ipv6_segments a)

-- whether the network has fewer bits than the address
abbrev pub has_netmask : Inet → Bool
has_netmask v = not (v.netmask == 8 * address_size (family_of v.addr))

-- with or without how many bits name the network
abbrev pub network_text : Bool → Inet → List ℕ
network_text true v = address_text v.addr ++ 47 ∷ decimal v.netmask
network_text false v = address_text v.addr

-- a colon and two digits in hex
abbrev pub octet_text : ℕ → List ℕ
octet_text n = 58 ∷ digits 16 false (n / 16) ++ digits 16 false (n % 16)

-- octets with colons between them
abbrev pub octets_text : List ℕ → List ℕ
octets_text octets = drop 1 (flat_map octet_text octets)
