-- Texts, in UTF-8 (RFC 3629), and the texts of the label types.
-- PostgreSQL manual, "Character Types", and "ltree" among the additional supplied modules.
use Rattle.std.specs.Prelude.{◌≡◌, ◌≢◌, ℕ, List, ◌∷◌, Result, Ok, Err}
use Rattle.std.specs.Str.{IsUtf8}
use Rattle.pgp_base.specs.declared.error.Error.{Error}
use Rattle.pgp_base.specs.declared.error.Error.TheVariants.{NotUtf8, InvalidVersion}
use Rattle.pgp_types.specs.Format.{Plain, plain}

abbrev pub TextReads : List ℕ → Result (List ℕ) Error → Type 0
TextReads bytes (Ok t) = IsUtf8 t × (bytes ≡ t)
TextReads bytes (Err NotUtf8) = ¬ (IsUtf8 bytes)
TextReads bytes (Err e) = ⊥

abbrev pub text : Plain (List ℕ)
text = plain IsUtf8 (λ t. t) TextReads

-- The version of the type's format in one byte, and a text.
abbrev pub LabelReads : ℕ → List ℕ → Result (List ℕ) Error → Type 0
LabelReads version bytes (Ok t) = IsUtf8 t × (bytes ≡ version ∷ t)
LabelReads version bytes (Err InvalidVersion) = (rest : List ℕ) → bytes ≢ version ∷ rest
LabelReads version bytes (Err NotUtf8) = (rest : List ℕ) × (bytes ≡ version ∷ rest) × ¬ (IsUtf8 rest)
LabelReads version bytes (Err e) = ⊥

abbrev pub label : ℕ → Plain (List ℕ)
label version = plain IsUtf8 (λ t. version ∷ t) (LabelReads version)

abbrev pub ltree : Plain (List ℕ)
ltree = label 1

abbrev pub lquery : Plain (List ℕ)
lquery = label 1

abbrev pub ltxtquery : Plain (List ℕ)
ltxtquery = label 1
