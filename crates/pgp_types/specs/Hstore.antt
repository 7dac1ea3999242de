-- Lists of keys and values, of which a value may be a null.
-- PostgreSQL manual, "hstore" among the additional supplied modules; the layout as a server sends it.
use Rattle.std.specs.Prelude.{ℕ, List, ◌++◌, map, length, Option, Some, None, Result, Ok, Err, ⊤}
use Rattle.std.specs.Borrow.{Bor}
use Rattle.std.specs.List.{flat_map, AllByRecursion}
use Rattle.std.specs.Str.{IsUtf8}
use Rattle.pgp_base.specs.declared.error.Error.{Error}
use Rattle.pgp_base.specs.declared.error.Error.TheVariants.{InvalidCount, InvalidKeyLength, InvalidValueLength, NotUtf8}
use Rattle.pgp_base.specs.Cause.{Cause, either, first, length_cause, nullable_cause}
use Rattle.pgp_base.specs.Walk.{Walk}
use Rattle.pgp_base.specs.Wire.{uint32, nullable as nullable_bytes}
use Rattle.pgp_types.specs.Format.{Format}
use Rattle.pgp_types.specs.Part.{Part, Begins, IsWalk, natural, sized, nullable, only, ◌then◌, finished, shown}

-- a key, and a value or a null
abbrev pub Entry : Type 0
Entry = List ℕ × Option (List ℕ)

abbrev pub IsTextOrNull : Option (List ℕ) → Type 0
IsTextOrNull None = ⊤
IsTextOrNull (Some text) = IsUtf8 text

abbrev pub IsEntry : Entry → Type 0
IsEntry e = IsUtf8 e.0 × IsTextOrNull e.1

abbrev pub entry_bytes : Entry → List ℕ
entry_bytes e = nullable_bytes (Some e.0) ++ nullable_bytes e.1

abbrev pub entry_cause : Entry → Cause
entry_cause e = either (nullable_cause (Some e.0)) (nullable_cause e.1)

abbrev pub entry : Part Entry
entry = only IsUtf8 NotUtf8 (sized InvalidKeyLength) then only IsTextOrNull NotUtf8 (nullable InvalidValueLength)

-- how many entries there are
abbrev pub entry_count : Part ℕ
entry_count = natural InvalidCount

abbrev pub HstoreReads : List ℕ → Result (Walk Entry) Error → Type 0
HstoreReads bytes (Ok w) = (n : ℕ) × (rest : List ℕ) × Begins entry_count bytes n rest × IsWalk entry n rest w
HstoreReads bytes (Err e) = entry_count.Refused bytes e

abbrev pub hstore : Format (List Entry) (Walk Entry)
hstore = record {
  IsValue = AllByRecursion IsEntry;
  written = λ es. uint32 (length es) ++ flat_map entry_bytes es;
  cause = λ es. either (length_cause (length es)) (first (map entry_cause es));
  seen = finished;
  Reads = HstoreReads;
}

-- the texts that are borrowed for an entry, and for a list of them
abbrev pub shown_entry : Bor (List ℕ) × Option (Bor (List ℕ)) → Entry
shown_entry x = (x.0.now, shown x.1)

abbrev pub shown_entries : List (Bor (List ℕ) × Option (Bor (List ℕ))) → List Entry
shown_entries xs = map shown_entry xs
