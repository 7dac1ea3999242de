-- The values of a row that were read so far.
use Rattle.postgres_protocol.proofs.Common.{◌≡◌, ℕ, ℤ, List, [], ◌∷◌, ◌++◌, length, Option, Some, None, Result, refl, sym, subst, slice_get, option_map, Error, Table, column, value_at, IsInt4, AreInt4}
use Rattle.std.specs.declared.ops.Range.{Range}

-- the first values of these places
abbrev pub AreFirst : List ℕ → List (Option (Range ℕ)) → List (Option (Result ℤ Error)) → Type 0
AreFirst buffer ps [] = Unit {0}
AreFirst buffer [] (r ∷ rs) = ⊥
AreFirst buffer (p ∷ ps) (r ∷ rs) = IsInt4 (value_at buffer p) r × AreFirst buffer ps rs

pub one_more : (buffer : List ℕ) (ps : List (Option (Range ℕ))) (rs : List (Option (Result ℤ Error))) (p : Option (Range ℕ)) (r : Option (Result ℤ Error))
    → AreFirst buffer ps rs → slice_get ps (length rs) ≡ Some p → IsInt4 (value_at buffer p) r → AreFirst buffer ps (rs ++ r ∷ [])
one_more buffer [] [] p r h is v = absurd cc
one_more buffer (q ∷ ps) [] p r h is v =
    let same : q ≡ p = cc in
    (subst (λ (p : Option (Range ℕ)). IsInt4 (value_at buffer p) r) (sym same) v, tt)
one_more buffer [] (s ∷ rs) p r h is v = absurd h
one_more buffer (q ∷ ps) (s ∷ rs) p r h is v = (h.0, one_more buffer ps rs p r h.1 is v)

pub all_read : (buffer : List ℕ) (ps : List (Option (Range ℕ))) (rs : List (Option (Result ℤ Error))) → AreFirst buffer ps rs → slice_get ps (length rs) ≡ None → AreInt4 buffer ps rs
all_read buffer [] [] h is = tt
all_read buffer (q ∷ ps) [] h is = absurd cc
all_read buffer [] (s ∷ rs) h is = absurd h
all_read buffer (q ∷ ps) (s ∷ rs) h is = (h.0, all_read buffer ps rs h.1 is)

-- A column that is there, and one that isn't.

shown_some : (buffer : List ℕ) (o : Option (Option (Range ℕ))) (v : Option (List ℕ)) → Some v ≡ option_map (value_at buffer) o → (p : Option (Range ℕ)) × (o ≡ Some p) × (value_at buffer p ≡ v)
shown_some buffer None v e = absurd cc
shown_some buffer (Some p) v e = (p, refl, let is : v ≡ value_at buffer p = cc in sym is)

shown_none : (buffer : List ℕ) (o : Option (Option (Range ℕ))) → None ≡ option_map (value_at buffer) o → o ≡ None
shown_none buffer None e = refl
shown_none buffer (Some p) e = absurd cc

pub some_column : (table : Table) (i : ℕ) (v : Option (List ℕ)) → Some v ≡ column table i → (p : Option (Range ℕ)) × (slice_get table.places i ≡ Some p) × (value_at table.buffer p ≡ v)
some_column table i v e = shown_some table.buffer (slice_get table.places i) v e

pub none_column : (table : Table) (i : ℕ) → None ≡ column table i → slice_get table.places i ≡ None
none_column table i e = shown_none table.buffer (slice_get table.places i) e

-- one value more
pub value_read : (table : Table) (rs : List (Option (Result ℤ Error))) (v : Option (List ℕ)) (r : Option (Result ℤ Error)) → AreFirst table.buffer table.places rs → Some v ≡ column table (length rs) → IsInt4 v r
    → AreFirst table.buffer table.places (rs ++ r ∷ [])
value_read table rs v r h e is =
    let p = some_column table (length rs) v e in
    one_more table.buffer table.places rs p.0 r h p.1 (subst (λ (v : Option (List ℕ)). IsInt4 v r) (sym p.2) is)
