-- Causes of a message that are those of its parts, and the one that no message has.
use Rattle.pgp_frontend.proofs.Common.{◌≡◌, ℕ, ◌+◌, ◌≤◌, Bool, true, false, List, [], ◌∷◌, map, take, length, Option, Some, None, refl, sym, ◌∙◌, arith, inl, inr, nat_le, ◌==◌, if◌then◌else◌, list_any, Cause, either, first, text_cause, length_cause, count_cause, nullable_cause, Error, OutOfMemory, EmbeddedNull, InvalidSize, TooLarge, count_fits, either_first, ClientMessage, Part, Byte, Int16, Int32, Oid, Text, Int16s, Oids, Values, Nullable, Rest, Key, Pairs, pair_cause, part_cause, parts, joined, parts_cause, cause}
use Rattle.std.proofs.lemmas.Bool.{leb-true, cases_Bool}

-- a cause of the parts is one of the message
pub parts_first : (m : ClientMessage) (e : Error) → parts_cause (parts m) ≡ Some e → cause m ≡ Some e
parts_first m e h = either_first (parts_cause (parts m)) _ e h

pub last_cause : (c : Cause) (e : Error) → either c None ≡ Some e → c ≡ Some e
last_cause (Some d) e h = h
last_cause None e h = cc

pub either_more : (c a b : Cause) (e : Error) → (a ≡ Some e → b ≡ Some e) → either c a ≡ Some e → either c b ≡ Some e
either_more (Some d) a b e more h = h
either_more None a b e more h = more h

-- the pairs' cause is that of a startup packet
pub refused_pairs : (c d : Cause) (e : Error) → c ≡ Some e → either (either None (either c None)) d ≡ Some e
refused_pairs c d e h = rw h refl

-- a count past its field stays past it
large_alone : (b : Bool) (e : Error) → (let c : Cause = if b then None else Some TooLarge in c ≡ Some e) → Some TooLarge ≡ Some e
large_alone true e h = cc
large_alone false e h = h

large_at : (b : Bool) → b ≡ false → (let c : Cause = if b then None else Some TooLarge in c ≡ Some TooLarge)
large_at b h = rw h refl

pub count_more : (n m : ℕ) (e : Error) → n ≤ m → count_cause n ≡ Some e → count_cause m ≡ Some e
count_more n m e few h = elim (cases_Bool (nat_le m 65535)) [
  | inl t ↦ let k : None ≡ Some e = sym (count_fits n (omega (arith, few, leb-true m 65535 t))) ∙ h in absurd cc
  | inr f ↦ large_at (nat_le m 65535) f ∙ large_alone (nat_le n 65535) e h
]

-- what has no cause has no error
pub no_cause : (e : Error) → (let c : Cause = None in c ≡ Some e) → ⊥
no_cause e h = cc

-- ---- no message has lack of memory as its cause

never_none : (let c : Cause = None in c ≡ Some OutOfMemory) → ⊥
never_none h = cc

never_null : (b : Bool) → (let c : Cause = if b then Some EmbeddedNull else None in c ≡ Some OutOfMemory) → ⊥
never_null true h = cc
never_null false h = cc

never_large : (b : Bool) → (let c : Cause = if b then None else Some TooLarge in c ≡ Some OutOfMemory) → ⊥
never_large true h = cc
never_large false h = cc

never_size : (b d : Bool) → (let c : Cause = if b then (if d then None else Some InvalidSize) else Some InvalidSize in c ≡ Some OutOfMemory) → ⊥
never_size true true h = cc
never_size true false h = cc
never_size false d h = cc

never_either : (c d : Cause) → (c ≡ Some OutOfMemory → ⊥) → (d ≡ Some OutOfMemory → ⊥) → either c d ≡ Some OutOfMemory → ⊥
never_either (Some e) d p q h = p h
never_either None d p q h = q h

never_first : {A : Type 0} (of : A → Cause) → ((x : A) → of x ≡ Some OutOfMemory → ⊥) → (xs : List A) → first (map of xs) ≡ Some OutOfMemory → ⊥
never_first of p [] h = never_none h
never_first of p (x ∷ xs) h = never_either (of x) (first (map of xs)) (p x) (never_first of p xs) h

never_text : (z : List ℕ) → text_cause z ≡ Some OutOfMemory → ⊥
never_text z h = never_null (list_any (λ byte. byte == 0) z) h

never_length : (n : ℕ) → length_cause n ≡ Some OutOfMemory → ⊥
never_length n h = never_large (nat_le n 2147483647) h

never_count : (n : ℕ) → count_cause n ≡ Some OutOfMemory → ⊥
never_count n h = never_large (nat_le n 65535) h

never_value : (v : Option (List ℕ)) → nullable_cause v ≡ Some OutOfMemory → ⊥
never_value None h = never_none h
never_value (Some z) h = never_length (length z) h

never_part : (p : Part) → part_cause p ≡ Some OutOfMemory → ⊥
never_part (Byte n) h = never_none h
never_part (Int16 z) h = never_none h
never_part (Int32 z) h = never_none h
never_part (Oid n) h = never_none h
never_part (Text z) h = never_text z h
never_part (Int16s zs) h = never_count (length zs) h
never_part (Oids ns) h = never_count (length ns) h
never_part (Values vs) h = never_either (first (map nullable_cause (take 65535 vs))) (count_cause (length vs)) (never_first nullable_cause never_value (take 65535 vs)) (never_count (length vs)) h
never_part (Nullable v) h = never_value v h
never_part (Rest z) h = never_none h
never_part (Key z) h = never_size (nat_le 4 (length z)) (nat_le (length z) 256) h
never_part (Pairs ps) h = never_first pair_cause (λ p. never_either (text_cause p.0) (text_cause p.1) (never_text p.0) (never_text p.1)) ps h

pub never_memory : (m : ClientMessage) → cause m ≡ Some OutOfMemory → ⊥
never_memory m h = never_either (parts_cause (parts m)) (length_cause (length (joined (parts m)) + 4)) (never_first part_cause never_part (parts m)) (never_length (length (joined (parts m)) + 4)) h
