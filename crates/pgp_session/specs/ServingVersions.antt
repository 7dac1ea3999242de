-- Which version of the protocol a server speaks, and what it answers where that isn't all that a startup packet asks for.
-- PostgreSQL manual, "Message Flow": "Start-up"; "Message Formats": NegotiateProtocolVersion.
use Rattle.std.specs.Prelude.{◌≡◌, ◌⊎◌, ℕ, ℤ, pos, Bool, false, not, List, [], ◌∷◌, None, Some, length, Result, Ok, Err, nat_lt, if◌then◌else◌}
use Rattle.std.specs.List.{flat_map}
use Rattle.pgp_base.specs.Cause.{Cause, Wants, WantsMemory, either, length_cause}
use Rattle.pgp_base.specs.Held.{Held, ◌⊕◌, Leaves}
use Rattle.pgp_base.specs.Wire.{int32}
use Rattle.pgp_base.specs.declared.error.Error.{Error}
use Rattle.pgp_frontend.specs.Payload.{Int32, Rest, frame_cause, minor_code}
use Rattle.pgp_frontend.specs.declared.startup.ProtocolVersion.{ProtocolVersion}
use Rattle.pgp_frontend.specs.declared.startup.ProtocolVersion.TheVariants.{V3_0, V3_2}
use Rattle.pgp_message_write.specs.Lists.{text_parts, with_list}
use Rattle.pgp_message_write.specs.Reply.{bytes_of, negotiation_of}

-- The newest version up to the one that is asked for, of which the latest is 3.2. In 3.1, which no server has of its own, all is as in 3.0.
abbrev pub spoken_at : ℕ → ProtocolVersion
spoken_at minor = if nat_lt minor 2 then V3_0 else V3_2

-- its number, as the answer names it
abbrev pub number_at : ℕ → ℤ
number_at minor = minor_code (if nat_lt 2 minor then 2 else minor)

-- All that is asked for is spoken: the version, and no protocol option.
abbrev pub has_all : ℕ → List (List ℕ) → Bool
has_all minor [] = not (nat_lt 2 minor)
has_all minor (option ∷ options) = false

-- What is answered: nothing then, and else the version that is spoken, and the options.
abbrev pub answered : ℕ → List (List ℕ) → List ℕ
answered minor options = if has_all minor options then [] else bytes_of (negotiation_of (number_at minor) options)

-- why the answer has no spelling: too many options, or too long ones
abbrev pub cause_of : ℕ → List (List ℕ) → Cause
cause_of minor options = if has_all minor options then None
    else either (length_cause (length options))
    (frame_cause (with_list (Int32 (number_at minor) ∷ Rest (int32 (pos (length options))) ∷ []) (flat_map text_parts options) []))

-- The answer was appended, and this version is spoken; or nothing was.
abbrev pub AnswersVersions : {K : Type 0} → (Held K → ℕ → Type 0) → ℕ → List (List ℕ) → Held K → Held K → Result ProtocolVersion Error → Type 0
AnswersVersions lacks minor options old new (Ok version) = (version ≡ spoken_at minor) × (cause_of minor options ≡ None) × (new ≡ old ⊕ answered minor options)
AnswersVersions lacks minor options old new (Err e) = (WantsMemory (Wants lacks old (length (answered minor options))) e ⊎ (cause_of minor options ≡ Some e))
    × Leaves old new
