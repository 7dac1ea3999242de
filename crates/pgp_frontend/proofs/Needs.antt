-- How many bytes messages take, and growths that were refused on the way.
use Rattle.pgp_frontend.proofs.Common.{◌≡◌, ℕ, ℤ, negsuc, ◌+◌, ◌<◌, ◌≤◌, ◌^◌, List, [], ◌∷◌, ◌++◌, length, Option, Some, None, ap, ◌∙◌, arith, length-append, FitsSigned, w32, append-nil, uint32, int16, int32, oid, nullable, counted, Wants, Held, ◌⊕◌, flat_more, length-uint16, length-uint32, int16_spelled, wants_then, more_twice, Bind, Parse, Startup, Part, Int32, Text, Int16s, Oids, Values, Pairs, minor_code, minor_of, spelling, joined, framed, bytes_of, length-int32}
use Rattle.pgp_frontend.specs.declared.startup.ProtocolVersion.{ProtocolVersion}
use Rattle.pgp_frontend.specs.declared.startup.ProtocolVersion.TheVariants.{V3_0, V3_2}

-- Lengths.

pub framed_length : (body : List ℕ) → length (framed None body) ≡ length body + 4
framed_length body = omega (arith, length-append (uint32 (length body + 4)) body, length-uint32 (length body + 4))

pub tagged_length : (tag : ℕ) (body : List ℕ) → length (framed (Some tag) body) ≡ length body + 5
tagged_length tag body = omega (arith, length-append (uint32 (length body + 4)) body, length-uint32 (length body + 4))

pub int16_length : (z : ℤ) → length (int16 z) ≡ 2
int16_length z = ap length (int16_spelled z) ∙ length-uint16 _

pub null_length : length (nullable None) ≡ 4
null_length = length-int32 (negsuc 0)

pub joined_more : (ps : List Part) (p : Part) → length (joined (ps ++ p ∷ [])) ≡ length (joined ps) + length (spelling p)
joined_more ps p = flat_more spelling ps p

pub parse_length : (name query ts : List ℕ) → length (bytes_of (Parse name query ts)) ≡ 5 + length (joined (Text name ∷ Text query ∷ [])) + length (counted oid ts)
parse_length name query ts = tagged_length 80 (joined (Text name ∷ Text query ∷ Oids ts ∷ [])) ∙ (let e = joined_more (Text name ∷ Text query ∷ []) (Oids ts) in omega (arith, e))

pub bind_length : (portal statement : List ℕ) (fs : List ℤ) (vs : List (Option (List ℕ))) (rs : List ℤ)
    → length (bytes_of (Bind portal statement fs vs rs)) ≡ 5 + length (joined (Text portal ∷ Text statement ∷ Int16s fs ∷ [])) + length (counted nullable vs) + length (counted int16 rs)
bind_length portal statement fs vs rs =
    let e = joined_more (Text portal ∷ Text statement ∷ Int16s fs ∷ []) (Values vs) in
    let f = joined_more (Text portal ∷ Text statement ∷ Int16s fs ∷ Values vs ∷ []) (Int16s rs) in
    let t = tagged_length 66 (joined (Text portal ∷ Text statement ∷ Int16s fs ∷ Values vs ∷ Int16s rs ∷ [])) in
    omega (arith, t, e, f)

pub startup_length : (v : ℕ) (ps : List (List ℕ × List ℕ)) → length (bytes_of (Startup v ps)) ≡ 8 + length (spelling (Pairs ps))
startup_length v ps =
    let e = joined_more (Int32 (minor_code v) ∷ []) (Pairs ps) in
    let t = framed_length (joined (Int32 (minor_code v) ∷ Pairs ps ∷ [])) in
    let i : length (joined (Int32 (minor_code v) ∷ [])) ≡ 4 = ap length (append-nil (int32 (minor_code v))) ∙ length-int32 (minor_code v) in
    omega (arith, t, e, i)

pub minor_fits : (v : ℕ) → v < 2 ^ 16 → FitsSigned w32 (minor_code v)
minor_fits v h = record { sfits = omega (arith, h) }

pub minor_small : (v : ProtocolVersion) → minor_of v < 2 ^ 16
minor_small V3_0 = omega arith
minor_small V3_2 = omega arith

-- Errors.

module _ {K : Type 0} {lacks : Held K → ℕ → Type 0} where
  -- after a tag, the place of the length, and parts
  pub framed_wants : (tag : ℕ) (ps : List Part) (old b : Held K) (n m : ℕ) → b ≡ old ⊕ tag ∷ [] ⊕ uint32 0 ⊕ joined ps → 5 + length (joined ps) + n ≤ m → Wants lacks b n → Wants lacks old m
  framed_wants tag ps old b n m h k w =
      wants_then old b (tag ∷ (uint32 0 ++ joined ps)) n m (h ∙ (more_twice (old ⊕ tag ∷ []) (uint32 0) (joined ps) ∙ more_twice old (tag ∷ []) (uint32 0 ++ joined ps)))
      (omega (arith, k, length-append (uint32 0) (joined ps), length-uint32 0)) w
