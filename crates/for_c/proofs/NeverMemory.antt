-- No part has lack of memory as its cause.
use Rattle.for_c.proofs.Common.{◌≡◌, ℕ, ◌+◌, pos, List, [], ◌∷◌, length, Some, None, sym, ◌∙◌, arith, inl, inr, flat_map, cases_lt, Cause, either, count_cause, length_cause, uint16, OutOfMemory, TooLarge, count_fits, count_past, either_first, ClientMessage, Bind, CancelRequest, Parse, Query, SaslInitialResponse, Startup, Part, Byte, Int16, Int32, Oid, Text, Int16s, Oids, Values, Nullable, Rest, Key, Pairs, frame_cause, joined, part_cause, parts, parts_cause, never_memory, parts_first, format_parts, type_parts, with_list, formats_cause, types_cause}
use Rattle.pgp_message_write.specs.Given.{items_cause}
use Rattle.for_c.proofs.Putting.{IsLarge, length_large}

abbrev pub Never : Cause → Type 0
Never c = c ≡ Some OutOfMemory → ⊥

pub never_none : Never None
never_none h = cc

pub never_large : (c : Cause) → IsLarge c → Never c
never_large c large h = let e : OutOfMemory ≡ TooLarge = large OutOfMemory h in cc

pub never_either : (c d : Cause) → Never c → Never d → Never (either c d)
never_either (Some e) d p q h = p h
never_either None d p q h = q h

-- a message whose first part with a cause has it
never_in : (m : ClientMessage) → Never (parts_cause (parts m))
never_in m h = never_memory m (parts_first m OutOfMemory h)

never_part : (p : Part) → Never (part_cause p)
never_part (Byte n) h = never_none h
never_part (Int16 z) h = never_none h
never_part (Int32 z) h = never_none h
never_part (Oid n) h = never_none h
never_part (Text z) h = never_in (Query z) (either_first (part_cause (Text z)) None OutOfMemory h)
never_part (Int16s zs) h = never_in (Bind [] [] zs [] []) (either_first (part_cause (Int16s zs)) _ OutOfMemory h)
never_part (Oids ns) h = never_in (Parse [] [] ns) (either_first (part_cause (Oids ns)) None OutOfMemory h)
never_part (Values vs) h = never_in (Bind [] [] [] vs []) (either_first (part_cause (Values vs)) _ OutOfMemory h)
never_part (Nullable v) h = never_in (SaslInitialResponse [] v) (either_first (part_cause (Nullable v)) None OutOfMemory h)
never_part (Rest z) h = never_none h
never_part (Key z) h = never_in (CancelRequest (pos 0) z) (either_first (part_cause (Key z)) None OutOfMemory h)
never_part (Pairs ps) h = never_in (Startup 0 ps) (either_first (part_cause (Pairs ps)) None OutOfMemory h)

pub never_parts : (ps : List Part) → Never (parts_cause ps)
never_parts [] h = never_none h
never_parts (p ∷ ps) h = never_either (part_cause p) (parts_cause ps) (never_part p) (never_parts ps) h

pub never_length : (n : ℕ) → Never (length_cause n)
never_length n h = never_large (length_cause n) (length_large n) h

pub never_count : (n : ℕ) → Never (count_cause n)
never_count n h = elim (cases_lt 65535 n) [
  | inl many ↦ let e = sym (count_past n many) ∙ h in cc
  | inr few ↦ let e = sym (count_fits n (omega (arith, few))) ∙ h in cc
]

pub never_frame : (ps : List Part) → Never (frame_cause ps)
never_frame ps h = never_either (parts_cause ps) (length_cause (length (joined ps) + 4)) (never_parts ps) (never_length (length (joined ps) + 4)) h

pub never_items : {A : Type 0} (number : ℕ → Cause) (ps : List A → List Part) → ((n : ℕ) → Never (number n)) → (xs : List A) → Never (items_cause number ps xs)
never_items number ps never xs h = never_either (number (length xs)) (parts_cause (ps xs)) (never (length xs)) (never_parts (ps xs)) h

-- the causes of lists of numbers
pub never_types : (types : List ℕ) → Never (types_cause types)
never_types types h = never_either (count_cause (length types)) (frame_cause (with_list (Rest (uint16 (length types)) ∷ []) (flat_map type_parts types) [])) (never_count (length types)) (never_frame (with_list (Rest (uint16 (length types)) ∷ []) (flat_map type_parts types) [])) h

pub never_formats : (format : ℕ) (formats : List ℕ) → Never (formats_cause format formats)
never_formats format formats h =
    never_either (count_cause (length formats)) (frame_cause (with_list (Byte format ∷ Rest (uint16 (length formats)) ∷ []) (flat_map format_parts formats) [])) (never_count (length formats))
    (never_frame (with_list (Byte format ∷ Rest (uint16 (length formats)) ∷ []) (flat_map format_parts formats) [])) h
