-- The password that keys are made of: RFC 5802, section 2.2, prepares it by a mapping of texts. As in
-- PostgreSQL, a password that isn't text, or that the mapping has nothing for, is used as it is.
use Rattle.std.specs.Prelude.{◌≡◌, ℕ, nat_lt, Bool, true, ◌&&◌, List, Option, unwrap_or, if◌then◌else◌}
use Rattle.std.specs.List.{list_any}
use Rattle.std.specs.Str.{is_utf8}

-- the mapping is asked: the password is UTF-8 and has a byte above 127
abbrev pub is_asked : List ℕ → Bool
is_asked password = list_any (λ byte. nat_lt 127 byte) password && is_utf8 password

unfoldable pub prepared : (List ℕ → Option (List ℕ)) → List ℕ → List ℕ
prepared mapping password = if is_asked password then unwrap_or (mapping password) password else password

-- memory of the mapping's own was refused, which is wanted only where it is asked
abbrev pub MappingLacks : Type 0 → List ℕ → Type 0
MappingLacks lacks password = (is_asked password ≡ true) × lacks
