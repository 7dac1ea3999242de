-- Values of several parts, by their places among the bytes.
use Rattle.std.specs.Prelude.{◌≡◌, ◌≢◌, ◌⊎◌, ℕ, ℤ, ◌*◌, ◌<◌, ◌≤◌, true, List, take, drop, length, Option, Some, None, ◌-◌, Ok, nat_eq, if◌then◌else◌}
use Rattle.std.specs.Int.{div_ceil}
use Rattle.std.specs.List.{flat_map}
use Rattle.std.specs.Net.Addr.{IsIpv4Addr, IsIpv6Addr, MatchIp}
use Rattle.std.specs.declared.net.ip_addr.IpAddr.{IpAddr}
use Rattle.pgp_types.specs.Array.{Front, IsFlag, dimension_bytes, elements_of, int32_part}
use Rattle.pgp_types.specs.Format.{Reads}
use Rattle.pgp_types.specs.Hstore.{Entry, entry_count}
use Rattle.pgp_types.specs.Network.{Inet, IsInet, inet, address_size, family_number, family_of, octets}
use Rattle.pgp_types.specs.Part.{Part, Begins, ◌then◌}
use Rattle.pgp_types.specs.Range.{Range, Side, empty, between}
use Rattle.pgp_types.specs.declared.range.RangeBound.TheVariants.{Inclusive, Exclusive, Unbounded}
use Rattle.for_c.specs.Listings.{IsColumnInside}
use Rattle.for_c.specs.Parts.{IsInside, stands}
use Rattle.for_c.specs.Walks.{rest}
use Rattle.for_c.specs.declared.array.PgpArray.{PgpArray}
use Rattle.for_c.specs.declared.cursor.PgpCursor.{PgpCursor}
use Rattle.for_c.specs.declared.hstore.PgpEntry.{PgpEntry}
use Rattle.for_c.specs.declared.inet.PgpInet.{PgpInet}
use Rattle.for_c.specs.declared.range.PgpBound.{PgpBound}
use Rattle.for_c.specs.declared.range.PgpRange.{PgpRange}
use Rattle.for_c.specs.declared.row.PgpColumn.{PgpColumn}

-- the bytes of a value, or none for a null
abbrev pub value_in : List ℕ → PgpColumn → Option (List ℕ)
value_in bytes c = if c.is_null then None else Some (take (c.end - c.start) (drop c.start bytes))

-- the bytes are read as an inet, whose family, netmask and octets are these
pub record IsInetIn (bytes : List ℕ) (v : PgpInet) : Type 0 where
  pub value : Inet
  pub reads : Reads inet bytes (Ok value)
  pub family : v.family ≡ family_number (family_of value.addr)
  pub netmask : v.netmask ≡ value.netmask
  pub address : stands bytes v.address ≡ octets value.addr

-- the octets of an address of either family
pub record IsAddress (bytes : List ℕ) (addr : IpAddr) : Type 0 where
  pub octets : octets addr ≡ bytes
  pub valid : MatchIp addr IsIpv4Addr IsIpv6Addr
  pub size : address_size (family_of addr) ≡ length bytes

abbrev pub IsNoAddress : List ℕ → Type 0
IsNoAddress bytes = (length bytes ≢ 4) × (length bytes ≢ 16)

-- the inet of an address of these octets, and a netmask that has no more bits
pub record IsInetOf (bytes : List ℕ) (netmask : ℕ) (v : Inet) : Type 0 where
  pub is : IsInet v
  pub address : octets v.addr ≡ bytes
  pub same : v.netmask ≡ netmask

-- such an address, and any netmask
pub record IsAddressed (bytes : List ℕ) (netmask : ℕ) (v : Inet) : Type 0 where
  pub valid : MatchIp v.addr IsIpv4Addr IsIpv6Addr
  pub address : octets v.addr ≡ bytes
  pub same : v.netmask ≡ netmask

-- why there is none, and the error's number
abbrev pub IsNoInet : List ℕ → ℕ → ℕ → Type 0
IsNoInet bytes netmask code = ((code ≡ 18) × IsNoAddress bytes) ⊎ ((code ≡ 17) × ((length bytes ≡ 4) ⊎ (length bytes ≡ 16)) × (8 * length bytes < netmask))

-- why there is no bit string of so many bits in these bytes: the bytes are too few or too many, or the number passes its field
abbrev pub IsNoVarbit : ℕ → List ℕ → ℕ → Type 0
IsNoVarbit bits bytes code = ((code ≡ 10) × (length bytes ≢ div_ceil bits 8)) ⊎ ((code ≡ 3) × (2147483647 < bits))

-- a key and a value of an hstore
abbrev pub entry_in : List ℕ → PgpEntry → Entry
entry_in bytes e = (stands bytes e.key, value_in bytes e.value)

-- both lie before this place
abbrev pub IsEntryInside : ℕ → PgpEntry → Type 0
IsEntryInside size e = IsInside size e.key × IsColumnInside size e.value

-- the cursor is at the first of so many entries as the bytes announce
abbrev pub BeginsHstore : List ℕ → PgpCursor → Type 0
BeginsHstore bytes c = Begins entry_count bytes c.left (rest bytes c)

-- Cursors are at the dimensions and at the elements that stand after the head of an array.
pub record IsArrayIn (bytes : List ℕ) (a : PgpArray) : Type 0 where
  pub front : Front bytes
  pub count : length front.dimensions ≡ front.count
  pub flag : IsFlag a.has_nulls front.flag
  pub type : a.element_type ≡ front.element_type
  pub dimensions : rest bytes a.dimensions ≡ flat_map dimension_bytes front.dimensions
  pub dimension_count : a.dimensions.left ≡ front.count
  pub elements : rest bytes a.elements ≡ front.rest
  pub element_count : a.elements.left ≡ elements_of front.dimensions front.product

-- a dimension: its length, and its lower bound
abbrev pub dimension : Part (ℤ × ℤ)
dimension = int32_part then int32_part

-- a side of a range, and a range
abbrev pub side_in : List ℕ → PgpBound → Side
side_in bytes b = if nat_eq b.kind 0 then Unbounded else if nat_eq b.kind 1 then Inclusive (value_in bytes b.value) else Exclusive (value_in bytes b.value)

abbrev pub range_in : List ℕ → PgpRange → Range
range_in bytes r = if r.is_empty then empty else between (side_in bytes r.lower) (side_in bytes r.upper)

-- The kinds are 0, 1 and 2, of an empty range 0, and the values' places lie before this one.
abbrev pub IsSideInside : ℕ → PgpBound → Type 0
IsSideInside size b = (b.kind ≤ 2) × IsColumnInside size b.value

abbrev pub IsRangeInside : ℕ → PgpRange → Type 0
IsRangeInside size r = IsSideInside size r.lower × IsSideInside size r.upper × (r.is_empty ≡ true → (r.lower.kind ≡ 0) × (r.upper.kind ≡ 0))
