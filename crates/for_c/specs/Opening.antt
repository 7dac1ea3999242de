-- The names and values of a startup packet, as C hands them over.
use Rattle.std.specs.Prelude.{◌≡◌, ◌≢◌, ◌⊎◌, ℕ, ℤ, Bool, false, nat_lt, List, length, map}
use Rattle.std.specs.List.{list_all}
use Rattle.pgp_frontend.specs.ClientMessage.{Startup}
use Rattle.pgp_frontend.specs.Payload.{minor_of, version_code}
use Rattle.pgp_frontend.specs.declared.startup.ProtocolVersion.{ProtocolVersion}
use Rattle.for_c.specs.declared.opening.PgpPair.{PgpPair}
use Rattle.for_c.specs.Sending.{Why}

abbrev pub pair_of : PgpPair → List ℕ × List ℕ
pair_of p = (p.name.now, p.value.now)

-- the name has a byte
abbrev pub is_named : PgpPair → Bool
is_named p = nat_lt 0 (length p.name.now)

-- Why no packet of this version is to be sent: a name is empty; or the packet is longer than the memory, or has a cause (`Why`).
abbrev pub WhyPairs : ProtocolVersion → List PgpPair → List ℕ → ℕ → Type 0
WhyPairs version pairs old code = ((code ≡ 33) × (list_all is_named pairs ≡ false)) ⊎ Why (Startup (minor_of version) (map pair_of pairs)) old code

-- the same, or the number is that of no version
abbrev pub WhyStartup : ℤ → List PgpPair → List ℕ → ℕ → Type 0
WhyStartup version pairs old code = ((code ≡ 34) × ((v : ProtocolVersion) → version_code v ≢ version)) ⊎ ((v : ProtocolVersion) × (version_code v ≡ version) × WhyPairs v pairs old code)
