-- What a column of a row is as a value of a type.
use Rattle.std.specs.Prelude.{ℕ, List, Option, Some, None, Result, Ok, Err}
use Rattle.pgp_types.specs.Format.{Format, Reads}
use Rattle.pgp_uses.specs.declared.rows.ColumnError.{ColumnError}
use Rattle.pgp_uses.specs.declared.rows.ColumnError.TheVariants.{NoColumn, Value}

-- There is no such column; or it is null, and so is the value; or its bytes are read as the type's format says. What
-- was read is seen through `view`.
abbrev pub ReadsColumnBy : {X V R : Type 0} → (X → R) → Format V R → Option (Option (List ℕ)) → Result (Option X) ColumnError → Type 0
ReadsColumnBy view f None (Err NoColumn) = Unit {0}
ReadsColumnBy view f (Some None) (Ok None) = Unit {0}
ReadsColumnBy view f (Some (Some bytes)) (Ok (Some x)) = Reads f bytes (Ok (view x))
ReadsColumnBy view f (Some (Some bytes)) (Err (Value e)) = Reads f bytes (Err e)
ReadsColumnBy view f bytes result = ⊥

abbrev pub ReadsColumn : {V R : Type 0} → Format V R → Option (Option (List ℕ)) → Result (Option R) ColumnError → Type 0
ReadsColumn f bytes result = ReadsColumnBy (λ x. x) f bytes result
