-- What the reading of an inet comes to.
use Rattle.pgp_types.proofs.Common.{◌≡◌, ◌≢◌, ℕ, zero, suc, ◌+◌, ◌-◌, ◌*◌, ◌/◌, ◌%◌, ◌<◌, ◌≤◌, ◌^◌, ◌⊎◌, inl, inr, List, [], ◌∷◌, length, get_or, take, drop, Result, Ok, Err, refl, sym, ap, ◌∙◌, subst, arith, take-length, cases_order, slice_index, Error, UnexpectedEof, NotDrained, InvalidFamily, InvalidNetmask, InvalidAddressLength, IsBytes, FixedRefused, IsBlock, IsSound, Inet, Family, ipv4, ipv6, family_number, address_size, family_of, octets, Parts, joined, parts_of, IsInet, AddressRefused, PartsRefused, InetReads, inet}
use Rattle.std.specs.declared.net.ip_addr.IpAddr.{IpAddr}
use Rattle.std.specs.declared.net.ip_addr.IpAddr.TheVariants.{V4, V6}
use Rattle.std.specs.Net.Addr.{ipv4_octets, ipv6_segments, ipv6_octets, segments_of, octets_of, IsV4And, IsV6And, MatchIp, IsIpv4Addr, IsIpv6Addr}
use Rattle.pgp_types.proofs.Spelling.{bytes_take, bytes_drop, one_refusal, not_refused}

-- the parts of bytes that have the four numbers
abbrev pub parts_in : List ℕ → Parts
parts_in bytes = record {
  family = get_or bytes 0 0;
  netmask = get_or bytes 1 0;
  cidr = get_or bytes 2 0;
  size = get_or bytes 3 0;
  address = take (length bytes - 4) (drop 4 bytes);
}

all_taken : (n : ℕ) (rest : List ℕ) → n ≡ length rest → take n rest ≡ rest
all_taken n rest is = rw is (take-length rest)

pub joined-parts_in : (bytes : List ℕ) → 4 ≤ length bytes → bytes ≡ joined (parts_in bytes)
joined-parts_in [] l = absurd (omega arith)
joined-parts_in (a ∷ []) l = absurd (omega arith)
joined-parts_in (a ∷ b ∷ []) l = absurd (omega arith)
joined-parts_in (a ∷ b ∷ c ∷ []) l = absurd (omega arith)
joined-parts_in (a ∷ b ∷ c ∷ d ∷ rest) l = ap (λ (address : List ℕ). a ∷ b ∷ c ∷ d ∷ address) (sym (all_taken _ rest (omega arith)))

-- octets and segments

pub octets_of-segments_of : (n : ℕ) (bytes : List ℕ) → length bytes ≡ 2 * n → IsBytes bytes → octets_of (segments_of bytes) ≡ bytes
octets_of-segments_of zero [] l small = refl
octets_of-segments_of zero (a ∷ rest) l small = absurd (omega arith)
octets_of-segments_of (suc n) [] l small = absurd (omega arith)
octets_of-segments_of (suc n) (a ∷ []) l small = absurd (omega arith)
octets_of-segments_of (suc n) (a ∷ b ∷ rest) l small =
    let low : b < 256 = small 1 in
    let after = octets_of-segments_of n rest (omega arith) (λ i. small (suc (suc i))) in
    let high : (a * 256 + b) / 256 ≡ a = omega arith in
    let last : (a * 256 + b) % 256 ≡ b = omega arith in
    cc

pub length-segments_of : (n : ℕ) (bytes : List ℕ) → length bytes ≡ 2 * n → length (segments_of bytes) ≡ n
length-segments_of zero [] l = refl
length-segments_of zero (a ∷ rest) l = absurd (omega arith)
length-segments_of (suc n) [] l = absurd (omega arith)
length-segments_of (suc n) (a ∷ []) l = absurd (omega arith)
length-segments_of (suc n) (a ∷ b ∷ rest) l = ap suc (length-segments_of n rest (omega arith))

pub segments_below : (bytes : List ℕ) → IsBytes bytes → (k : ℕ) → slice_index (segments_of bytes) k < 2 ^ 16
segments_below [] small k = omega arith
segments_below (a ∷ []) small k = omega arith
segments_below (a ∷ b ∷ rest) small zero = omega (arith, small 0, small 1)
segments_below (a ∷ b ∷ rest) small (suc k) = segments_below rest (λ i. small (suc (suc i))) k

segments_of-octets_of : (segments : List ℕ) → segments_of (octets_of segments) ≡ segments
segments_of-octets_of [] = refl
segments_of-octets_of (s ∷ rest) =
    let after = segments_of-octets_of rest in
    let whole : s / 256 * 256 + s % 256 ≡ s = omega arith in
    cc

length-octets_of : (segments : List ℕ) → length (octets_of segments) ≡ 2 * length segments
length-octets_of [] = refl
length-octets_of (s ∷ rest) = omega (arith, length-octets_of rest)

-- the code's readings

pub refused_after : (f : Family) (p : Parts) → p.family ≡ family_number f
    → (e : Error) → AddressRefused (address_size f) p.netmask p.size p.address e → PartsRefused p e
refused_after f p known InvalidFamily r = absurd r.2
refused_after f p known e r = (f, known, r)

pub inet_refused : (bytes : List ℕ) → 4 ≤ length bytes → (f : Family) → get_or bytes 0 0 ≡ family_number f
    → (e : Error) → AddressRefused (address_size f) (parts_in bytes).netmask (parts_in bytes).size (parts_in bytes).address e
    → InetReads bytes (Err e)
inet_refused bytes l f known e r = inr (parts_in bytes, joined-parts_in bytes l, refused_after f (parts_in bytes) known e r)

pub family_refused : (bytes : List ℕ) → 4 ≤ length bytes → get_or bytes 0 0 ≢ 2 → get_or bytes 0 0 ≢ 3
    → InetReads bytes (Err InvalidFamily)
family_refused bytes l two three =
    inr (parts_in bytes, joined-parts_in bytes l, λ f. elim f as (λ g. get_or bytes 0 0 ≢ family_number g) [ ipv4 ↦ two | ipv6 ↦ three ])

-- an address of each family, from its octets
pub read_v4 : (bytes : List ℕ) → 4 ≤ length bytes → get_or bytes 0 0 ≡ 2 → (octets : List ℕ)
    → (get_or bytes 1 0 ≤ 32) × (get_or bytes 3 0 ≡ 4) × IsBlock 4 octets × ((parts_in bytes).address ≡ octets)
    → (addr : IpAddr) → IsV4And addr (λ ip. ipv4_octets ip ≡ octets)
    → InetReads bytes (Ok (record { addr = addr; netmask = get_or bytes 1 0 }))
read_v4 bytes l known xs facts (V4 ip) is =
    let long : length (ipv4_octets ip) ≡ 4 = ap length is ∙ facts.2.1 in
    let small : (k : ℕ) → slice_index (ipv4_octets ip) k < 2 ^ 8 = λ k. rw is (facts.2.0 k) in
    let same : joined (parts_in bytes) ≡ get_or bytes 0 0 ∷ get_or bytes 1 0 ∷ get_or bytes 2 0 ∷ get_or bytes 3 0 ∷ ipv4_octets ip =
    ap (λ (address : List ℕ). get_or bytes 0 0 ∷ get_or bytes 1 0 ∷ get_or bytes 2 0 ∷ get_or bytes 3 0 ∷ address) (facts.3 ∙ sym is) in
    (((long, small), facts.0), (get_or bytes 2 0, joined-parts_in bytes l ∙ same ∙ rw (known, facts.1) refl))
read_v4 bytes l known xs facts (V6 ip) is = absurd is

pub read_v6 : (bytes : List ℕ) → 4 ≤ length bytes → get_or bytes 0 0 ≡ 3 → (octets : List ℕ)
    → (get_or bytes 1 0 ≤ 128) × (get_or bytes 3 0 ≡ 16) × IsBlock 16 octets × ((parts_in bytes).address ≡ octets)
    → (addr : IpAddr) → IsV6And addr (λ ip. ipv6_segments ip ≡ segments_of octets)
    → InetReads bytes (Ok (record { addr = addr; netmask = get_or bytes 1 0 }))
read_v6 bytes l known xs facts (V4 ip) is = absurd is
read_v6 bytes l known xs facts (V6 ip) is =
    let long : length (ipv6_segments ip) ≡ 8 = ap length is ∙ length-segments_of 8 xs facts.2.1 in
    let small : (k : ℕ) → slice_index (ipv6_segments ip) k < 2 ^ 16 = λ k. rw is (segments_below xs facts.2.0 k) in
    let octets_are : ipv6_octets ip ≡ xs = ap octets_of is ∙ octets_of-segments_of 8 xs facts.2.1 facts.2.0 in
    let same : joined (parts_in bytes) ≡ get_or bytes 0 0 ∷ get_or bytes 1 0 ∷ get_or bytes 2 0 ∷ get_or bytes 3 0 ∷ ipv6_octets ip =
    ap (λ (address : List ℕ). get_or bytes 0 0 ∷ get_or bytes 1 0 ∷ get_or bytes 2 0 ∷ get_or bytes 3 0 ∷ address) (facts.3 ∙ sym octets_are) in
    (((long, small), facts.0), (get_or bytes 2 0, joined-parts_in bytes l ∙ same ∙ rw (known, facts.1) refl))

-- every list of bytes has a reading

unequal : (a b : ℕ) → (a < b) ⊎ (b < a) → a ≢ b
unequal a b (inl below) e = omega arith
unequal a b (inr above) e = omega arith

le_or_lt : (a b : ℕ) → (a ≤ b) ⊎ (b < a)
le_or_lt a b = elim (cases_order a b) [ inl same ↦ inl (omega arith) | inr (inl below) ↦ inl (omega arith) | inr (inr above) ↦ inr above ]

abbrev HasReading : List ℕ → Type 0
HasReading bytes = (r : Result Inet Error) × InetReads bytes r

-- an address of the family's size
read_address : (f : Family) (bytes : List ℕ) → IsBytes bytes → 4 ≤ length bytes → get_or bytes 0 0 ≡ family_number f
    → get_or bytes 1 0 ≤ 8 * address_size f → get_or bytes 3 0 ≡ address_size f → length (parts_in bytes).address ≡ address_size f → HasReading bytes
read_address ipv4 bytes small l known within size fits =
    let address : List ℕ = (parts_in bytes).address in
    let octets : IsBytes address = bytes_take (length bytes - 4) _ (bytes_drop 4 bytes small) in
    (Ok (record { addr = V4 (record { octets = address }); netmask = get_or bytes 1 0 }), read_v4 bytes l known address (within, size, (octets, fits), refl) (V4 (record { octets = address })) refl)
read_address ipv6 bytes small l known within size fits =
    let address : List ℕ = (parts_in bytes).address in
    let octets : IsBytes address = bytes_take (length bytes - 4) _ (bytes_drop 4 bytes small) in
    (Ok (record { addr = V6 (record { segments = segments_of address }); netmask = get_or bytes 1 0 }), read_v6 bytes l known address (within, size, (octets, fits), refl) (V6 (record { segments = segments_of address })) refl)

-- what stands after the number of a family
some_address : (f : Family) (bytes : List ℕ) → IsBytes bytes → 4 ≤ length bytes → get_or bytes 0 0 ≡ family_number f → HasReading bytes
some_address f bytes small l known =
    let p : Parts = parts_in bytes in
    elim (le_or_lt p.netmask (8 * address_size f)) [
      | inr wide ↦ (Err InvalidNetmask, inet_refused bytes l f known InvalidNetmask wide)
      | inl within ↦ elim (cases_order p.size (address_size f)) [
        | inr other ↦ (Err InvalidAddressLength, inet_refused bytes l f known InvalidAddressLength (within, unequal _ _ other))
        | inl size ↦ elim (cases_order (length p.address) (address_size f)) [
          | inl fits ↦ read_address f bytes small l known within size fits
          | inr (inl short) ↦ (Err UnexpectedEof, inet_refused bytes l f known UnexpectedEof (within, size, short))
          | inr (inr long) ↦ (Err NotDrained, inet_refused bytes l f known NotDrained (within, size, long))
        ]
      ]
    ]

some_inet : (bytes : List ℕ) → IsBytes bytes → HasReading bytes
some_inet bytes small = elim (le_or_lt 4 (length bytes)) [
  | inr short ↦ (Err UnexpectedEof, inl (short, refl))
  | inl l ↦ elim (cases_order (get_or bytes 0 0) 2) [
    | inl two ↦ some_address ipv4 bytes small l two
    | inr not_two ↦ elim (cases_order (get_or bytes 0 0) 3) [
      | inl three ↦ some_address ipv6 bytes small l three
      | inr not_three ↦ (Err InvalidFamily, family_refused bytes l (unequal _ _ not_two) (unequal _ _ not_three))
    ]
  ]
]

-- and only one

same_family : (f g : Family) → family_number f ≡ family_number g → f ≡ g
same_family ipv4 ipv4 e = refl
same_family ipv4 ipv6 e = absurd (omega arith)
same_family ipv6 ipv4 e = absurd (omega arith)
same_family ipv6 ipv6 e = refl

parts : (family netmask cidr size : ℕ) (address : List ℕ) → Parts
parts family netmask cidr size address = record { family = family; netmask = netmask; cidr = cidr; size = size; address = address }

same_parts : (p q : Parts) → joined p ≡ joined q → p ≡ q
unfolding parts
same_parts p q e =
    let same : parts p.family p.netmask p.cidr p.size p.address ≡ parts q.family q.netmask q.cidr q.size q.address = cc in
    same

-- the errors of an address one by one
address_cases : (size netmask announced : ℕ) (address : List ℕ) (e : Error) → AddressRefused size netmask announced address e
    → ((8 * size < netmask) × (e ≡ InvalidNetmask))
    ⊎ (((netmask ≤ 8 * size) × (announced ≢ size) × (e ≡ InvalidAddressLength))
    ⊎ ((netmask ≤ 8 * size) × (announced ≡ size) × FixedRefused size address e))
address_cases size netmask announced address InvalidNetmask r = inl (r, refl)
address_cases size netmask announced address InvalidAddressLength r = inr (inl (r.0, r.1, refl))
address_cases size netmask announced address e r = inr (inr r)

one_address : (size netmask announced : ℕ) (address : List ℕ) (d e : Error)
    → AddressRefused size netmask announced address d → AddressRefused size netmask announced address e → d ≡ e
one_address size netmask announced address d e p q =
    elim (address_cases size netmask announced address d p) [
      | inl p ↦ elim (address_cases size netmask announced address e q) [
        | inl q ↦ p.1 ∙ sym q.1
        | inr (inl q) ↦ absurd (omega (arith, p.0, q.0))
        | inr (inr q) ↦ absurd (omega (arith, p.0, q.0))
      ]
      | inr (inl p) ↦ elim (address_cases size netmask announced address e q) [
        | inl q ↦ absurd (omega (arith, p.0, q.0))
        | inr (inl q) ↦ p.2 ∙ sym q.2
        | inr (inr q) ↦ absurd (p.1 q.1)
      ]
      | inr (inr p) ↦ elim (address_cases size netmask announced address e q) [
        | inl q ↦ absurd (omega (arith, p.0, q.0))
        | inr (inl q) ↦ absurd (q.1 p.1)
        | inr (inr q) ↦ one_refusal size address d e p.2 q.2
      ]
    ]

parts_cases : (p : Parts) (e : Error) → PartsRefused p e
    → (((f : Family) → p.family ≢ family_number f) × (e ≡ InvalidFamily))
    ⊎ ((f : Family) × (p.family ≡ family_number f) × AddressRefused (address_size f) p.netmask p.size p.address e)
parts_cases p InvalidFamily r = inl (r, refl)
parts_cases p e r = inr r

one_parts : (p : Parts) (d e : Error) → PartsRefused p d → PartsRefused p e → d ≡ e
one_parts p d e r s = elim (parts_cases p d r) [
  | inl r ↦ elim (parts_cases p e s) [
    | inl s ↦ r.1 ∙ sym s.1
    | inr s ↦ absurd (r.0 s.0 s.1)
  ]
  | inr r ↦ elim (parts_cases p e s) [
    | inl s ↦ absurd (s.0 r.0 r.1)
    | inr s ↦
        let of_same = subst (λ (f : Family). AddressRefused (address_size f) p.netmask p.size p.address e) (same_family s.0 r.0 (sym s.1 ∙ r.1)) s.2 in
        one_address (address_size r.0) p.netmask p.size p.address d e r.2 of_same
  ]
]

four_numbers : (bytes : List ℕ) (p : Parts) → bytes ≡ joined p → length bytes < 4 → ⊥
four_numbers bytes p is short = let l : length bytes ≡ length (joined p) = ap length is in omega arith

one_refused : (bytes : List ℕ) (d e : Error) → InetReads bytes (Err d) → InetReads bytes (Err e) → d ≡ e
one_refused bytes d e (inl r) (inl s) = r.1 ∙ sym s.1
one_refused bytes d e (inl r) (inr s) = absurd (four_numbers bytes s.0 s.1 r.0)
one_refused bytes d e (inr r) (inl s) = absurd (four_numbers bytes r.0 r.1 s.0)
one_refused bytes d e (inr r) (inr s) =
    one_parts r.0 d e r.2 (subst (λ (p : Parts). PartsRefused p e) (same_parts s.0 r.0 (sym s.1 ∙ r.1)) s.2)

-- the parts of a value are not rejected

octets_long : (addr : IpAddr) → MatchIp addr IsIpv4Addr IsIpv6Addr → length (octets addr) ≡ address_size (family_of addr)
octets_long (V4 ip) has = has.0
octets_long (V6 ip) has = length-octets_of (ipv6_segments ip) ∙ omega (arith, has.0)

not_parts_refused : (cidr : ℕ) (v : Inet) → IsInet v → (e : Error) → PartsRefused (parts_of cidr v) e → ⊥
not_parts_refused cidr v has e r = elim (parts_cases (parts_of cidr v) e r) [
  | inl none ↦ none.0 (family_of v.addr) refl
  | inr some ↦
      let of_same = subst (λ (f : Family). AddressRefused (address_size f) v.netmask (address_size (family_of v.addr)) (octets v.addr) e) (same_family some.0 (family_of v.addr) (sym some.1)) some.2 in
      elim (address_cases (address_size (family_of v.addr)) v.netmask (address_size (family_of v.addr)) (octets v.addr) e of_same) [
        | inl wide ↦ omega (arith, wide.0, has.1)
        | inr (inl other) ↦ other.1 refl
        | inr (inr address) ↦ not_refused (address_size (family_of v.addr)) (octets v.addr) e (octets_long v.addr has.0) address.2
      ]
]

not_inet_refused : (bytes : List ℕ) (v : Inet) (e : Error) → InetReads bytes (Ok v) → InetReads bytes (Err e) → ⊥
not_inet_refused bytes v e p (inl q) = four_numbers bytes (parts_of p.1.0 v) p.1.1 q.0
not_inet_refused bytes v e p (inr q) =
    not_parts_refused p.1.0 v p.0 e
    (subst (λ (parts : Parts). PartsRefused parts e) (same_parts q.0 (parts_of p.1.0 v) (sym q.1 ∙ p.1.1)) q.2)

same_addr : (a b : IpAddr) → family_number (family_of a) ≡ family_number (family_of b) → octets a ≡ octets b → a ≡ b
same_addr (V4 a) (V4 b) known same = ap (λ (o : List ℕ). V4 (record { octets = o })) same
same_addr (V4 a) (V6 b) known same = absurd (omega arith)
same_addr (V6 a) (V4 b) known same = absurd (omega arith)
same_addr (V6 a) (V6 b) known same =
    ap (λ (o : List ℕ). V6 (record { segments = o }))
    (sym (segments_of-octets_of (ipv6_segments a)) ∙ ap segments_of same ∙ segments_of-octets_of (ipv6_segments b))

same_inet : (v w : Inet) (c d : ℕ) → joined (parts_of c v) ≡ joined (parts_of d w) → v ≡ w
same_inet v w c d same =
    let family : family_number (family_of v.addr) ≡ family_number (family_of w.addr) = cc in
    let netmask : v.netmask ≡ w.netmask = cc in
    let address : octets v.addr ≡ octets w.addr = cc in
    let addr : v.addr ≡ w.addr = same_addr v.addr w.addr family address in
    ap (λ (a : IpAddr). record v { addr = a }) addr ∙ ap (λ (n : ℕ). record w { netmask = n }) netmask

one_inet : (bytes : List ℕ) (r s : Result Inet Error) → InetReads bytes r → InetReads bytes s → r ≡ s
one_inet bytes (Ok v) (Ok w) p q = ap Ok (same_inet v w p.1.0 q.1.0 (sym p.1.1 ∙ q.1.1))
one_inet bytes (Ok v) (Err e) p q = absurd (not_inet_refused bytes v e p q)
one_inet bytes (Err e) (Ok w) p q = absurd (not_inet_refused bytes w e q p)
one_inet bytes (Err d) (Err e) p q = ap Err (one_refused bytes d e p q)

pub inet_sound : IsSound inet
inet_sound = record {
  some = some_inet;
  one = one_inet;
  back = λ v has spelled. (has, (0, refl));
}

pub wide_refused : (v : Inet) → 8 * address_size (family_of v.addr) < v.netmask → InetReads (joined (parts_of 0 v)) (Err InvalidNetmask)
wide_refused v wide = inr (parts_of 0 v, refl, (family_of v.addr, refl, wide))
